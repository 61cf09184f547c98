use Rattle.std.proofs.Common.{◌≡◌, ◌<◌, ◌≤◌, ℕ, List, arith, leb, filter, get_or, length, ltb, subst, sym, ap, ◌∙◌}
use Rattle.std.proofs.lemmas.Grind.{common_steps}
use Rattle.std.specs.Prelude.{IfNone, IfSome}
use Rattle.std.specs.List.{sum_by}
use Rattle.basket_sets.specs.Database.{MOST_WEIGHT}
use Rattle.basket_sets.specs.Itemset.{AllBelow, has}
use Rattle.mine_rows.specs.Cover.{common, cover_weight}
use Rattle.mine_rows.specs.declared.marks.Marks.{Marks}
use Rattle.mine_rows.specs.declared.tids.TidList.{TidList}
use Rattle.mine_rows.specs.Marks.{IsMarked}
use Rattle.mine_rows.specs.Rows.{IsTidList}
use Rattle.mine_rows.proofs.MarkLemmas.{common_other, keeps_test, sums_test}
use Rattle.mine_rows.proofs.RowLemmas.{common_covers}
use Rattle.mine_rows.proofs.tids.TidListRow.join.Goals as goal

-- what is kept weighs what both covers share
kept_weighs : (weights parent first second lent : List ℕ) (x y : TidList) (marks : Marks) → IsTidList weights parent first x → IsTidList weights parent second y
    → IsMarked weights (has x.tids.items) marks → lent ≡ y.tids.items → sum_by (λ tid. get_or marks.weights.items tid 0) lent ≡ cover_weight weights (common first second)
kept_weighs weights parent first second lent x y marks p q are same = grind (arith, common_steps, sums_test, common_other)

pub keep-requires-clause-below : goal.keep-requires-clause-below
keep-requires-clause-below c =
    let (parent, first, second, p, q) = c.requires.rows in
    subst (λ n. AllBelow n c.deref.result.now) (sym c.requires.marks.long) (subst (AllBelow (length c.args.weights.now)) (sym (c.deref.ensures.value ∙ q.tids)) q.covers.below)

pub keep-requires-clause-light : goal.keep-requires-clause-light
keep-requires-clause-light c =
    let (parent, first, second, p, q) = c.requires.rows in
    let weights = c.args.weights.now in
    subst (λ n. n ≤ MOST_WEIGHT) (sym (kept_weighs weights parent first second c.deref.result.now c.args.x.now c.args.y.now c.args.marks.now p q c.requires.marks c.deref.ensures.value))
    (c.bounds.ensures.light (common first second) (common_covers weights parent first second p.covers))

pub unreachable-requires : goal.unreachable-requires
unreachable-requires c =
    let (parent, first, second, p, q) = c.requires.rows in
    let weights = c.args.weights.now in
    let more = subst (λ found. IfNone found (18446744073709551615 < sum_by (λ tid. get_or c.args.marks.now.weights.items tid 0) c.deref.result.now)) c.in_default.is c.in_ok-count.ensures.more in
    let sum = kept_weighs weights parent first second c.deref.result.now c.args.x.now c.args.y.now c.args.marks.now p q c.requires.marks c.deref.ensures.value in
    omega (arith, more, sum, c.bounds.ensures.light (common first second) (common_covers weights parent first second p.covers))

pub returns-clause-row : goal.returns-clause-row
returns-clause-row c = λ frequent parent first second p q.
    let weights = c.args.weights.now in
    let marks = c.args.marks.now in
    let is = subst (λ l. IsMarked weights (has l) marks) p.tids c.requires.marks in
    let tids = subst (λ found. IfSome found (λ _. c.keep.new.kept.items ≡ filter (λ tid. ltb 0 (get_or marks.weights.items tid 0)) c.deref.result.now)) c.in-Some.is c.in_ok-count.ensures.tids in
    let sum = subst (λ found. IfSome found (λ n. (n ≤ 18446744073709551615) × (n ≡ sum_by (λ tid. get_or marks.weights.items tid 0) c.deref.result.now))) c.in-Some.is c.in_ok-count.ensures.sum in
    record {
      covers = common_covers weights parent first second p.covers;
      tids = tids ∙ ap (filter (λ tid. ltb 0 (get_or marks.weights.items tid 0))) (c.deref.ensures.value ∙ q.tids)
          ∙ keeps_test weights (has first) marks is c.bounds.ensures.some second q.covers.below ∙ common_other first second p.covers.rises q.covers.rises;
      count = sum.1 ∙ kept_weighs weights parent first second c.deref.result.now c.args.x.now c.args.y.now marks p q c.requires.marks c.deref.ensures.value;
    }

pub returns-clause-frequent : goal.returns-clause-frequent
returns-clause-frequent c = λ parent first second p q.
    let weights = c.args.weights.now in
    let marks = c.args.marks.now in
    let sum = subst (λ found. IfSome found (λ n. (n ≤ 18446744073709551615) × (n ≡ sum_by (λ tid. get_or marks.weights.items tid 0) c.deref.result.now))) c.in-Some.is c.in_ok-count.ensures.sum in
    ap (leb c.args.least) (sum.1 ∙ kept_weighs weights parent first second c.deref.result.now c.args.x.now c.args.y.now marks p q c.requires.marks c.deref.ensures.value)
