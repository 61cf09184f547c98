-- Lines after a sort by their sets that keeps the order of those that have one set.
use Rattle.std.proofs.lemmas.Grind.{common_steps}
use Rattle.std.proofs.Common.{◌≡◌, ℕ, ◌+◌, ◌<◌, Bool, true, false, ◌&&◌, not, List, [], ◌∷◌, ◌++◌, map, filter, cond, refl, sym, ap, ◌∙◌, subst, arith, get_or, suc, Ok, Err}
use Rattle.std.specs.declared.cmp.Ordering.{Ordering}
use Rattle.std.specs.declared.cmp.Ordering.TheVariants.{Less, Equal, Greater}
use Rattle.std.specs.Ordering.{is_lt, is_eq, ordering_reverse}
use Rattle.std.specs.List.{All, list_any}
use Rattle.std.specs.List.Sorted.{IsSortedByKey, IsStableByKey, ties}
use Rattle.std.proofs.lemmas.Bool.{or_left, or_right, ltb-true, lt-ltb, false_from_ne_true}
use Rattle.std.proofs.lemmas.List.Folds.{list_any-append, list_any_none}
use Rattle.std.proofs.lemmas.Map.Views.{any-filter_same}
use Rattle.std.proofs.lemmas.List.Sorted.{ranks_by, sorted_far}
use Rattle.basket_read.specs.declared.counted_line.CountedLine.{CountedLine}
use Rattle.basket_read.specs.declared.fault.ReadFault.TheVariants.{Heavy}
use Rattle.basket_sets.specs.Database.{MOST_WEIGHT}
use Rattle.basket_sets.specs.Order.{IsInReportOrder, report_order, report_order_total, report_order_ties}
use Rattle.basket_sets.proofs.theory.Members.{Member, Contains-from_Member}
use Rattle.basket_parts.specs.CombinedCounts.{is_of, has_set, count_in, line_in, combined, combined_of, is_heavy}
use Rattle.basket_parts.specs.Merge.{IsLight, with_more, merged_from, merged}
use Rattle.basket_parts.proofs.theory.Sets.{set_of}
use Rattle.basket_parts.proofs.SameLemmas.{SaysSame, says_on, count_more, same_together, together_already}
use Rattle.basket_parts.proofs.MergeLemmas.{Ascends, merging_says, merging_in_order}

-- ---- what the lines of one set say

has_kept : (lines : List CountedLine) (set : List ℕ) → has_set (filter (is_of set) lines) set ≡ has_set lines set
has_kept lines set = any-filter_same (is_of set) (is_of set) true (λ line e. e) lines

count_kept : (lines : List CountedLine) (set : List ℕ) → count_in (filter (is_of set) lines) set ≡ count_in lines set
count_kept [] set = refl
count_kept (line ∷ lines) set = let rest = count_kept lines set in grind (arith, count_more)

line_kept : (lines : List CountedLine) (set : List ℕ) → line_in (filter (is_of set) lines) set ≡ line_in lines set
line_kept [] set = refl
line_kept (line ∷ lines) set = let rest = line_kept lines set in grind arith

abbrev before : CountedLine → CountedLine → Bool
before a b = is_lt (report_order a.set b.set)

ties_are : (set : List ℕ) (line : CountedLine) → ties before (record { set = set; count = 0; line = 0 }) line ≡ is_of set line
ties_are set line = at (report_order set line.set) (report_order line.set set) (report_order_total.antisymm set line.set) ∙ sym (report_order_ties line.set set)
  where
    at : (r s : Ordering) → r ≡ ordering_reverse s → (not (is_lt r) && not (is_lt s)) ≡ is_eq s
    at r Less e = ap (λ o. not (is_lt o) && false) e
    at r Equal e = ap (λ o. not (is_lt o) && true) e
    at r Greater e = ap (λ o. not (is_lt o) && true) e

-- a sort that keeps the order of lines that tie says the same of each set
pub sorting_says : (lines sorted : List CountedLine) → IsStableByKey set_of report_order lines sorted → (set : List ℕ) → SaysSame sorted lines set
sorting_says lines sorted stable set = record {
  has = sym (has_kept sorted set) ∙ ap (λ l. has_set l set) same ∙ has_kept lines set;
  count = sym (count_kept sorted set) ∙ ap (λ l. count_in l set) same ∙ count_kept lines set;
  line = sym (line_kept sorted set) ∙ ap (λ l. line_in l set) same ∙ line_kept lines set;
}
  where
    tests : ties before (record { set = set; count = 0; line = 0 }) ≡ is_of set
    tests = λ k line. ties_are set line k

    same : filter (is_of set) sorted ≡ filter (is_of set) lines
    same = ap (λ p. filter p sorted) (sym tests) ∙ stable (record { set = set; count = 0; line = 0 }) ∙ ap (λ p. filter p lines) tests

-- ---- a sorted list ascends

rest_sorted : (line : CountedLine) (lines : List CountedLine) → IsSortedByKey set_of report_order (line ∷ lines) → IsSortedByKey set_of report_order lines
rest_sorted line lines up k d low high =
    let next : suc k + 1 ≡ suc (k + 1) = omega arith in
    subst (λ n. before (get_or (line ∷ lines) n d) (get_or lines k d) ≡ false) next (up (suc k) d (omega arith) (omega arith))

pub ascends : (lines : List CountedLine) → IsSortedByKey set_of report_order lines → Ascends lines
ascends [] up = tt
ascends (line ∷ lines) up = (first, ascends lines (rest_sorted line lines up))
  where
    first : (other : CountedLine) → Member other lines → before other line ≡ false
    first other m =
        let at = Contains-from_Member other lines m in
        subst (λ o. before o line ≡ false) at.2
        (sorted_far before (ranks_by report_order_total set_of) (line ∷ lines) up 0 (suc at.0) other (omega arith) (let b = at.1 in omega arith))

pub merged_in_order : (sorted : List CountedLine) → IsSortedByKey set_of report_order sorted → IsInReportOrder (map set_of (merged sorted))
merged_in_order sorted up = merging_in_order sorted (ascends sorted up)

-- a sort and a merge put the lines together
pub merged_is_together : (lines sorted : List CountedLine) → IsSortedByKey set_of report_order sorted → IsStableByKey set_of report_order lines sorted → merged sorted ≡ combined lines
merged_is_together lines sorted up stable =
    sym (together_already (merged sorted) (merged_in_order sorted up))
    ∙ same_together (merged sorted) lines (λ set. says_on (merged sorted) sorted lines set (merging_says sorted set) (sorting_says lines sorted stable set))

-- ---- counts above what a set may have

pub heavy_first : (kept : CountedLine) (lines : List CountedLine) → MOST_WEIGHT < kept.count → list_any is_heavy (merged_from kept lines) ≡ true
heavy_first kept [] heavy = or_left (is_heavy kept) false (lt-ltb MOST_WEIGHT kept.count heavy)
heavy_first kept (line ∷ lines) heavy = let joined = heavy_first (with_more kept line.count) lines (omega arith) in let alone = lt-ltb MOST_WEIGHT kept.count heavy in grind arith

pub heavy_after : (front back : List CountedLine) → list_any is_heavy back ≡ true → list_any is_heavy (front ++ back) ≡ true
heavy_after front back h = list_any-append is_heavy front back ∙ or_right (list_any is_heavy front) (list_any is_heavy back) h

-- a line that is added to the one that is kept makes it heavy
pub heavy_sum : (kept line : CountedLine) (lines : List CountedLine) → is_of kept.set line ≡ true → MOST_WEIGHT < kept.count + line.count → list_any is_heavy (merged_from kept (line ∷ lines)) ≡ true
heavy_sum kept line lines one heavy = grind (arith, heavy_first (with_more kept line.count) lines heavy)

-- a line that is heavy itself
pub heavy_line : (kept line : CountedLine) (lines : List CountedLine) → MOST_WEIGHT < line.count → list_any is_heavy (merged_from kept (line ∷ lines)) ≡ true
heavy_line kept line lines heavy = let joined = heavy_first (with_more kept line.count) lines (omega arith) in let alone = heavy_first line lines heavy in grind arith

pub none_heavy : (lines : List CountedLine) → All IsLight lines → list_any is_heavy lines ≡ false
none_heavy lines light = grind (arith, list_any_none, false_from_ne_true, ltb-true)

-- the line that is kept goes to the list, and another is kept
pub apart_more : (list now : List CountedLine) (kept next line : CountedLine) (lines rest whole : List CountedLine) → is_of kept.set line ≡ false → lines ≡ line ∷ rest
    → now ≡ list ++ kept ∷ [] → next ≡ line → list ++ merged_from kept lines ≡ whole → now ++ merged_from next rest ≡ whole
apart_more list now kept next line lines rest whole apart is more same before = grind (arith, common_steps)

-- the list of merged lines is the answer
pub answers_lines : (lines list : List CountedLine) → list ≡ combined lines → All IsLight list → combined_of lines ≡ Ok list
answers_lines lines list is light = grind (arith, none_heavy list light)

-- or that a count is too great
pub answers_heavy : (lines list : List CountedLine) → list ≡ combined lines → list_any is_heavy list ≡ true → combined_of lines ≡ Err Heavy
answers_heavy lines list is heavy = ap (λ b. cond b (Err Heavy) (Ok (combined lines))) (ap (list_any is_heavy) (sym is) ∙ heavy)
