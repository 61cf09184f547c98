use Rattle.std.proofs.Common.{◌≡◌, ◌<◌, ◌≤◌, ℕ, Bool, List, filter, get_or, leb, length, ltb, not, subst, sym, ap, ◌∙◌, arith}
use Rattle.std.proofs.lemmas.Grind.{common_steps}
use Rattle.std.specs.Prelude.{IfNone, IfSome}
use Rattle.std.proofs.lemmas.Bool.{false_from_ne_true, le-leb, leb-true}
use Rattle.std.specs.List.{sum_by}
use Rattle.basket_sets.specs.Database.{MOST_WEIGHT}
use Rattle.basket_sets.specs.Itemset.{AllBelow, has}
use Rattle.mine_rows.specs.declared.diffs.DiffList.{DiffList}
use Rattle.mine_rows.specs.declared.marks.Marks.{Marks}
use Rattle.mine_rows.specs.Marks.{IsMarked}
use Rattle.mine_rows.specs.Rows.{IsDiffList}
use Rattle.mine_rows.specs.Cover.{common, cover_weight, lacking}
use Rattle.mine_rows.proofs.MarkLemmas.{keeps_test, sums_test}
use Rattle.mine_rows.proofs.RowLemmas.{common_covers, common_inside, diffs_lacking, missing_covers, rest_covers, rest_weighs}
use Rattle.mine_rows.proofs.diffs.DiffListRow.join.Goals as goal

-- what is lost weighs what the first cover has beyond both
lost_is : (weights parent first second lent : List ℕ) (x y : DiffList) (marks : Marks) → IsDiffList weights parent first x → IsDiffList weights parent second y
    → IsMarked weights (λ tid. not (has x.missing.items tid)) marks → lent ≡ y.missing.items
    → sum_by (λ tid. get_or marks.weights.items tid 0) lent ≡ cover_weight weights (lacking first (common first second))
lost_is weights parent first second lent x y marks p q are same =
    ap (sum_by (λ tid. get_or marks.weights.items tid 0)) same ∙ sums_test weights (λ tid. not (has x.missing.items tid)) marks are y.missing.items
    ∙ ap (cover_weight weights) (diffs_lacking weights parent first second x y p q)

pub keep-requires-clause-below : goal.keep-requires-clause-below
keep-requires-clause-below c =
    let (parent, first, second, p, q) = c.requires.rows in
    let weights = c.args.weights.now in
    subst (λ n. AllBelow n c.deref.result.now) (sym c.requires.marks.long) (subst (AllBelow (length weights)) (sym c.deref.ensures.value) (missing_covers weights parent second c.args.y.now q).below)

pub keep-requires-clause-light : goal.keep-requires-clause-light
keep-requires-clause-light c =
    let (parent, first, second, p, q) = c.requires.rows in
    let weights = c.args.weights.now in
    subst (λ n. n ≤ MOST_WEIGHT) (sym (lost_is weights parent first second c.deref.result.now c.args.x.now c.args.y.now c.args.marks.now p q c.requires.marks c.deref.ensures.value))
    (c.bounds.ensures.light (lacking first (common first second)) (rest_covers weights parent first second p.covers))

pub returns-in_default-clause-frequent : goal.returns-in_default-clause-frequent
returns-in_default-clause-frequent c = λ parent first second p q. grind (arith, common_steps, false_from_ne_true, leb-true, rest_weighs)

pub returns-in_default-2-clause-frequent : goal.returns-in_default-2-clause-frequent
returns-in_default-2-clause-frequent c = λ parent first second p q.
    let weights = c.args.weights.now in
    let both = cover_weight weights (common first second) in
    let more = subst (λ found. IfNone found (c.in-Some.most < sum_by (λ tid. get_or c.args.marks.now.weights.items tid 0) c.deref.result.now)) c.in_default-2.is c.in_ok-lost.ensures.more in
    let lost = lost_is weights parent first second c.deref.result.now c.args.x.now c.args.y.now c.args.marks.now p q c.requires.marks c.deref.ensures.value in
    sym (false_from_ne_true (leb c.args.least both) (λ enough.
    omega (arith, leb-true c.args.least both enough, more, lost, rest_weighs weights first second, p.count, c.in-Some.ensures)))

pub returns-clause-row : goal.returns-clause-row
returns-clause-row c = λ frequent parent first second p q.
    let weights = c.args.weights.now in
    let marks = c.args.marks.now in
    let test : ℕ → Bool = λ tid. not (has c.args.x.now.missing.items tid) in
    let made = diffs_lacking weights parent first second c.args.x.now c.args.y.now p q in
    let tids = subst (λ found. IfSome found (λ _. c.keep.new.kept.items ≡ filter (λ tid. ltb 0 (get_or marks.weights.items tid 0)) c.deref.result.now)) c.in-Some-2.is c.in_ok-lost.ensures.tids in
    let sum = subst (λ found. IfSome found (λ n. (n ≤ c.in-Some.most) × (n ≡ sum_by (λ tid. get_or marks.weights.items tid 0) c.deref.result.now))) c.in-Some-2.is c.in_ok-lost.ensures.sum in
    let lost = sum.1 ∙ lost_is weights parent first second c.deref.result.now c.args.x.now c.args.y.now marks p q c.requires.marks c.deref.ensures.value in
    let below = (missing_covers weights parent second c.args.y.now q).below in
    record {
      above = p.covers;
      covers = common_covers weights parent first second p.covers;
      inside = common_inside weights parent first second;
      missing = tids ∙ ap (filter (λ tid. ltb 0 (get_or marks.weights.items tid 0))) c.deref.ensures.value
          ∙ keeps_test weights test marks c.requires.marks c.bounds.ensures.some c.args.y.now.missing.items below ∙ made;
      count = omega (arith, rest_weighs weights first second, lost, p.count);
    }

pub returns-clause-frequent : goal.returns-clause-frequent
returns-clause-frequent c = λ parent first second p q.
    let weights = c.args.weights.now in
    let both = cover_weight weights (common first second) in
    let sum = subst (λ found. IfSome found (λ n. (n ≤ c.in-Some.most) × (n ≡ sum_by (λ tid. get_or c.args.marks.now.weights.items tid 0) c.deref.result.now))) c.in-Some-2.is c.in_ok-lost.ensures.sum in
    let lost = lost_is weights parent first second c.deref.result.now c.args.x.now c.args.y.now c.args.marks.now p q c.requires.marks c.deref.ensures.value in
    sym (le-leb c.args.least both (omega (arith, sum.0, sum.1, lost, rest_weighs weights first second, p.count, c.in-Some.ensures)))
