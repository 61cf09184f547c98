use Rattle.std.proofs.Common.{◌≡◌, ◌+◌, ◌<◌, ◌≤◌, ◌∷◌, ◌++◌, [], get_or, leb, length, take, subst, sym, ap, ◌∙◌, arith}
use Rattle.std.proofs.Math.ListN.{set}
use Rattle.std.specs.Prelude.{slice_set}
use Rattle.std.proofs.lemmas.List.{length-set, take-set, take_all, take_more_set}
use Rattle.basket_sets.specs.Support.{support_of}
use Rattle.mine_vertical.specs.declared.local_baskets.LocalBaskets.{LocalBaskets}
use Rattle.mine_vertical.specs.LocalBaskets.{baskets_in}
use Rattle.mine_vertical.specs.Projected.{numbers_in}
use Rattle.mine_vertical.specs.Siblings.{AreKept, ArePair, IsSibling}
use Rattle.mine_vertical.proofs.ExtensionLemmas.{number_at, row_at, rows_before}
use Rattle.mine_vertical.proofs.SiblingLemmas.{dropped_more, kept_more}
use Rattle.mine_vertical.proofs.siblings.Siblings.joined.Goals as goal
use Rattle.mine_vertical.proofs.siblings.Siblings.joined.Goals.{then-frequent, else-frequent}

pub mark-requires-clause-row : goal.mark-requires-clause-row
mark-requires-clause-row g c =
    let (set, are) = c.requires.rows in
    let base = c.args.self.now in
    (baskets_in base.local.value, set, ap (λ (local : LocalBaskets). local.weights) c.deref.ensures ∙ base.local.value.weighs, row_at base c.args.at c.requires.inside c.index-sibling.result.now c.index-sibling.ensures g.R.Row.stands set are)

pub unmark-requires-clause-row : goal.unmark-requires-clause-row
unmark-requires-clause-row g c =
    let (set, are) = c.requires.rows in
    let base = c.args.self.now in
    (baskets_in base.local.value, set, ap (λ (local : LocalBaskets). local.weights) c.deref.ensures ∙ base.local.value.weighs, row_at base c.args.at c.requires.inside c.index-sibling.result.now c.index-sibling.ensures g.R.Row.stands set are)

pub join-requires-clause-rows : goal.join-requires-clause-rows
join-requires-clause-rows g c =
    let (set, are) = c.requires.rows in
    let base = c.args.self.now in
    let baskets = baskets_in base.local.value in
    let i = c.loop-other.other-index in
    let other = c.other-item.result in
    let here = subst (λ l. i < length (take c.args.at l)) c.deref-2.ensures.value c.loop-other-test.true in
    let at = c.other-item.is ∙ ap (λ l. get_or (take c.args.at l) i other) c.deref-2.ensures.value in (
      baskets,
      set,
      record {
        weighs = ap (λ (local : LocalBaskets). local.weights) c.deref.ensures ∙ base.local.value.weighs;
        first_is = row_at base c.args.at c.requires.inside c.index-sibling.result.now c.index-sibling.ensures g.R.Row.stands set are;
        second_is = subst (IsSibling g.R.Row.stands baskets set) (sym at) (rows_before base c.args.at c.requires.inside (IsSibling g.R.Row.stands baskets set) are i other here);
      },
    )

pub loop-other-preserved : goal.loop-other-preserved
loop-other-preserved g c =
    let stands = g.R.Row.stands in
    let base = c.args.self.now in
    let baskets = baskets_in base.local.value in
    let others = take c.args.at base.list.items in
    let sibling = c.index-sibling.result.now in
    let number = get_or (numbers_in base) c.args.at 0 in
    let named : number ≡ sibling.number = number_at base c.args.at c.requires.inside sibling c.index-sibling.ensures in
    let i = c.loop-other.other-index in
    let other = c.other-item.result in
    let here : i < length others = subst (λ l. i < length (take c.args.at l)) c.deref-2.ensures.value c.loop-other-test.true in
    let at : other ≡ get_or others i other = c.other-item.is ∙ ap (λ l. get_or (take c.args.at l) i other) c.deref-2.ensures.value in
    let k = c.loop-other.kept in
    let list = c.reach.new.list.items in
    let both = c.join.new.both in
    let inside : k < length list = c.in_ok-reach.ensures.within in
    let long = length-set list k both in
    let below = take k c.loop-other.list.items in
    let same : take k (set list k both) ≡ below = take-set list k both ∙ c.in_ok-reach.ensures.before in
    let more : take (k + 1) (set list k both) ≡ below ++ both ∷ [] = take_more_set list k both inside ∙ ap (λ l. l ++ both ∷ []) c.in_ok-reach.ensures.before in
    record {
      joins = omega (arith, c.loop-other.invariant.joins, c.in_ok-frequent.ensures.joins);
      within = elim c.if-frequent.branch [
        | then-frequent w ↦ omega (arith, w.kept-is, inside, long)
        | else-frequent w ↦ omega (arith, w.kept-is, inside, long)
      ];
      kept = λ taken are.
          let pair : ArePair stands c.deref.result.now.weights sibling other baskets taken = record {
            weighs = ap (λ (local : LocalBaskets). local.weights) c.deref.ensures ∙ base.local.value.weighs;
            first_is = row_at base c.args.at c.requires.inside sibling c.index-sibling.ensures stands taken are;
            second_is = subst (IsSibling stands baskets taken) (sym at) (rows_before base c.args.at c.requires.inside (IsSibling stands baskets taken) are i other here);
          } in
          let frequent = c.in_ok-frequent.ensures.support baskets taken pair ∙ ap (λ r. leb base.least (support_of baskets (other.number ∷ r ∷ taken))) (sym named) in
          let before = c.loop-other.invariant.kept taken are in
          elim c.if-frequent.branch [
            | then-frequent w ↦
                subst (λ l. AreKept stands base.least number (take (i + 1) others) l baskets taken) (sym (ap (λ n. take n (slice_set list k both)) w.kept-is ∙ more))
                (kept_more stands base.least number others below baskets taken i other here at before both c.in_ok-frequent.ensures.number
                (subst (λ r. IsSibling stands baskets (r ∷ taken) both) (sym named) (c.in_ok-frequent.ensures.row w.if-frequent.true baskets taken pair)) (sym frequent ∙ w.if-frequent.true))
            | else-frequent w ↦
                subst (λ l. AreKept stands base.least number (take (i + 1) others) l baskets taken) (sym (ap (λ n. take n (slice_set list k both)) w.kept-is ∙ same))
                (dropped_more stands base.least number others below baskets taken i other here at before (sym frequent ∙ w.if-frequent.false))
          ];
    }

pub returns-clause-kept : goal.returns-clause-kept
returns-clause-kept g c = λ taken are.
    let base = c.args.self.now in
    let last = subst (λ l. length (take c.args.at l) ≤ c.loop-other.other-index) c.deref-2.ensures.value c.loop-other-test.false in
    subst (λ l. AreKept g.R.Row.stands base.least (get_or (numbers_in base) c.args.at 0) l (take c.loop-other.kept c.loop-other.list.items) (baskets_in base.local.value) taken)
    (take_all c.loop-other.other-index (take c.args.at base.list.items) last) (c.loop-other.invariant.kept taken are)
