use Rattle.std.proofs.Common.{◌≡◌, ℕ, suc, ◌+◌, ◌++◌, ◌∷◌, [], map, subst, sym, ap, ◌∙◌, arith}
use Rattle.std.specs.Prelude.{All}
use Rattle.std.specs.List.{range_with_len}
use Rattle.std.specs.declared.vec.Vec.{Vec}
use Rattle.std.specs.declared.alloc.Global.{Global}
use Rattle.std.proofs.lemmas.List.{map-append}
use Rattle.std.proofs.lemmas.List.Elements.{All-push}
use Rattle.basket_sets.proofs.theory.Ranges.{range_more}
use Rattle.mine_baskets.specs.Covers.{cover_of, weights_of}
use Rattle.mine_rows.specs.Cover.{IsCover, all_tids}
use Rattle.mine_vertical.specs.Siblings.{IsSibling}
use Rattle.mine_vertical.proofs.CoverLemmas.{cover_covers, cover_of_none}
use Rattle.mine_vertical.proofs.local_baskets.LocalBaskets.with_siblings.Goals as goal

next_number : (number : ℕ) → range_with_len 0 (number + 1) ≡ range_with_len 0 number ++ number ∷ []
next_number number =
    let next : number + 1 ≡ suc number = omega arith in
    let last : 0 + number ≡ number = omega arith in
    ap (range_with_len 0) next ∙ range_more 0 number ∙ ap (λ n. range_with_len 0 number ++ n ∷ []) last

pub first-requires-clause-below : goal.first-requires-clause-below
first-requires-clause-below g c =
    let baskets = c.args.baskets.baskets in
    let cover = c.deref.ensures.value ∙ ap (λ (v : Vec _ Global). v.items) c.index-cover.ensures ∙ c.in_ok-covers.ensures.at c.loop-number.number c.index-cover.result.now (omega (arith, c.loop-number-test.true, c.ranks-count.ensures)) in
    (subst (λ w. IsCover w c.deref.result.now) (sym c.in_ok-weights.ensures)
    (subst (IsCover (weights_of baskets)) (sym cover) (cover_covers baskets (c.loop-number.number ∷ [])))).below

pub loop-number-preserved : goal.loop-number-preserved
loop-number-preserved g c =
    let stands = g.R.Row.stands in
    let baskets = c.args.baskets.baskets in
    let number = c.loop-number.number in
    let sibling = c.in_ok-first.field-0 in
    let row = sibling.row in
    let weights = c.in_ok-weights.ensures in
    let parent = ap all_tids weights ∙ sym (cover_of_none baskets) in
    let cover = c.deref.ensures.value ∙ ap (λ (v : Vec _ Global). v.items) c.index-cover.ensures ∙ c.in_ok-covers.ensures.at number c.index-cover.result.now (omega (arith, c.loop-number-test.true, c.ranks-count.ensures)) in
    let is : stands (weights_of baskets) (cover_of baskets []) (cover_of baskets (number ∷ [])) row =
    subst (λ w. stands w (cover_of baskets []) (cover_of baskets (number ∷ [])) row) weights
    (subst (λ p. stands c.in_ok-weights.weights p (cover_of baskets (number ∷ [])) row) parent
    (subst (λ x. stands c.in_ok-weights.weights (all_tids c.in_ok-weights.weights) x row) cover c.in_ok-first.ensures.row)) in
    record {
      numbers = ap (map (λ s. s.number)) c.in_ok-push.ensures.items ∙ map-append (λ s. s.number) c.loop-number.siblings.items (sibling ∷ [])
          ∙ ap (λ x. x ++ sibling.number ∷ []) c.loop-number.invariant.numbers ∙ ap (λ r. range_with_len 0 number ++ r ∷ []) c.in_ok-first.ensures.number ∙ sym (next_number number);
      rows = subst (All (IsSibling stands baskets [])) (sym c.in_ok-push.ensures.items)
          (All-push (IsSibling stands baskets []) c.loop-number.siblings.items sibling c.loop-number.invariant.rows
          (subst (λ r. stands (weights_of baskets) (cover_of baskets []) (cover_of baskets (r ∷ [])) row) (sym c.in_ok-first.ensures.number) is));
    }
