use Rattle.std.proofs.Common.{◌≡◌, ℕ, List, ◌++◌, [], ◌∷◌, Bor, ap, ◌∙◌, sym, subst, arith}
use Rattle.std.proofs.lemmas.Grind.{common_steps}
use Rattle.std.proofs.lemmas.List.{nil_from_length}
use Rattle.basket_ranks.specs.Added.{items_of_counts}
use Rattle.basket_ranks.proofs.theory.Added.{Leaves, put_less, put_greater, put_equal, numbers_fit, none_yet, none_left, added_rise}
use Rattle.basket_sets.specs.Itemset.{IsRising}
use Rattle.basket_ranks.proofs.added.add_counts.Goals.{in-Less, in-Equal, in-Greater}
use Rattle.basket_ranks.proofs.added.add_counts.Goals as goal

pub loop-first-init : goal.loop-first-init
loop-first-init c = grind (arith, common_steps, Leaves, none_yet)

pub overflow_add-entry : goal.overflow_add-entry
overflow_add-entry c =
    let s = c.in-Some-Some in
    omega (arith, numbers_fit _ _ _ _ _ s.rest.now s.others.now s.first.now s.other.now s.ensures.cases.0 s.ensures'.cases.0 c.loop-first.invariant c.requires.fits c.in-Equal.ensures)

pub loop-first-preserved : goal.loop-first-preserved
loop-first-preserved c =
    let s = c.in-Some-Some in
    let counts = c.loop-first.counts.items in
    let a = c.args.a.now in let b = c.args.b.now in
    let next : (entry : ℕ × ℕ) (ours theirs : Bor (List (ℕ × ℕ))) → c.match-cmp.entry ≡ entry → c.match-cmp.ours ≡ ours → c.match-cmp.theirs ≡ theirs
    → Leaves (counts ++ entry ∷ []) ours.now theirs.now a b → Leaves c.push.new.self.items c.match-cmp.ours.now c.match-cmp.theirs.now a b =
    λ entry ours theirs e f g leaves. subst (λ l. Leaves l c.match-cmp.ours.now c.match-cmp.theirs.now a b) (sym (c.in_ok-push.ensures.items ∙ ap (λ x. counts ++ x ∷ []) e))
    (subst (λ l. Leaves (counts ++ entry ∷ []) l.now c.match-cmp.theirs.now a b) (sym f) (subst (λ l. Leaves (counts ++ entry ∷ []) ours.now l.now a b) (sym g) leaves)) in
    let is = s.ensures.cases.0 in let are = s.ensures'.cases.0 in let before = c.loop-first.invariant in
    elim c.match-cmp.branch [
      | in-Less w ↦ next _ s.rest c.loop-first.theirs w.entry-is w.ours-is w.theirs-is (put_less _ _ _ _ _ _ _ _ _ is are before w.in-Less.ensures)
      | in-Equal w ↦ next _ s.rest s.others w.entry-is w.ours-is w.theirs-is (put_equal _ _ _ _ _ _ _ _ _ is are before w.in-Equal.ensures)
      | in-Greater w ↦ next _ c.loop-first.ours s.others w.entry-is w.ours-is w.theirs-is (put_greater _ _ _ _ _ _ _ _ _ is are before w.in-Greater.ensures)
    ]

pub returns-clause-counts : goal.returns-clause-counts
returns-clause-counts c = grind (arith, common_steps, nil_from_length, none_left)

pub returns-clause-rising : goal.returns-clause-rising
returns-clause-rising c = subst (λ l. IsRising (items_of_counts l)) (sym (returns-clause-counts c)) (added_rise c.args.a.now c.args.b.now)
