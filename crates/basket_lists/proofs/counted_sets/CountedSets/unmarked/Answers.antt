use Rattle.std.proofs.Common.{map, sym, ap, ◌∙◌, subst}
use Rattle.std.specs.Prelude.{All}
use Rattle.basket_lists.specs.CountedSets.{AreUnmarked}
use Rattle.basket_lists.specs.Packed.{IsCoding, IsKept, kept}
use Rattle.basket_lists.proofs.counted_sets.CountedSets.unmarked.Goals as goal

pub unmarked_words-requires-clause-coded : goal.unmarked_words-requires-clause-coded
unmarked_words-requires-clause-coded c = (c.self.inside.known, subst (All (IsKept c.self.inside.known c.self.inside.plain)) (sym c.deref.ensures.value) c.self.invariant.1)

pub invariant_of-result : goal.invariant_of-result
invariant_of-result c =
    let known = c.self.inside.known in
    let words = subst (All (IsKept known c.self.inside.plain)) (sym c.deref.ensures.value) c.self.invariant.1 in
    subst (λ coding. IsCoding coding × All (IsKept coding c.in_ok-words.plain) c.in_ok-words.words.items) (sym c.in_ok-shared.ensures)
    (c.self.invariant.0, c.in_ok-words.ensures.kept known words)

pub returns : goal.returns
returns c =
    let known = c.self.inside.known in
    let words = subst (All (IsKept known c.self.inside.plain)) (sym c.deref.ensures.value) c.self.invariant.1 in
    subst (λ list. AreUnmarked list c.args.marks.now (map (kept c.in_ok-shared.field-0 c.in_ok-words.plain) c.in_ok-words.words.items))
    (ap (map (kept known c.self.inside.plain)) c.deref.ensures.value ∙ c.self.view_is)
    (subst (λ coding. AreUnmarked (map (kept known c.self.inside.plain) c.deref.result.now) c.args.marks.now (map (kept coding c.in_ok-words.plain) c.in_ok-words.words.items))
    (sym c.in_ok-shared.ensures) (c.in_ok-words.ensures.sets known words))
