-- The tids of a block of baskets as bits of words, and what rows have of them.
use Rattle.std.proofs.Common.{◌≡◌, ℕ, suc, ◌+◌, ◌*◌, ◌/◌, ◌%◌, ◌<◌, ◌≤◌, ◌^◌, Bool, true, ◌&&◌, List, [], ◌∷◌, ◌++◌, length, map, take, drop, get_or, ◌-◌, cond, eqb, refl, sym, ap, ◌∙◌, subst, arith, min, w64}
use Rattle.std.proofs.lemmas.Grind.{common_steps}
use Rattle.std.specs.Prelude.{bit_and, bit_or, count_ones}
use Rattle.std.specs.Int.{trailing_zeros}
use Rattle.std.proofs.Math.Bool.{and-true, and_assoc as all_three}
use Rattle.std.proofs.Math.ListN.{set}
use Rattle.std.proofs.Math.Nat.{add-mul}
use Rattle.std.proofs.lemmas.List.{get_or-map, length-map, take-append-drop}
use Rattle.std.proofs.lemmas.List.Sums.{sum_by_more, sum_by-set}
use Rattle.std.proofs.lemmas.Nat.{and_assoc, one_shl}
use Rattle.std.proofs.lemmas.Nat.Bits.{bit_at_and, bit_at_ones, bit_at-lt, bit_at-trailing_zeros}
use Rattle.std.proofs.lemmas.Bool.{cases_lt}
use Rattle.std.proofs.lemmas.Bool.Decides.{nat_tests}
use Rattle.basket_sets.specs.declared.weighted.Weighted.{Weighted}
use Rattle.basket_sets.specs.Itemset.{contains, has}
use Rattle.basket_sets.specs.Support.{support_of, total_of, weight_at}
use Rattle.basket_sets.proofs.theory.Members.{Member, Member-append_left}
use Rattle.basket_sets.proofs.theory.Rising.{Member-from_has, contains_each, has-from_Member}
use Rattle.basket_sets.proofs.theory.Support.{support-cons, support_falls}
use Rattle.mine_supports.specs.declared.tid_words.TidWord.{TidWord}
use Rattle.mine_supports.specs.TidWord.{AreKept, AreTidsOf, IsJoinable, IsRowOf, basket_at, has_tid, part_weight, shared_weight, weight_from}
use Rattle.mine_supports.specs.UsedItems.{AreUsed}
use Rattle.mine_supports.specs.Extensions.{Group}
use Rattle.mine_supports.proofs.theory.Extensions.{no_group}
use Rattle.mine_supports.proofs.OnesLemmas.{one_shared, ones_shared}

abbrev pub tids_at : ℕ → ℕ → ℕ → TidWord
tids_at word bits weight = record { word = word; bits = bits; weight = weight }

-- the word of a list of words
abbrev pub words : List ℕ → ℕ → ℕ
words row word = get_or row word 0

-- what two rows both have
abbrev pub both : (ℕ → ℕ) → (ℕ → ℕ) → ℕ → ℕ
both r row word = bit_and (r word) (row word)

-- ---- tids that are added

-- some tids more, at those of their word and weight
pub added_part : (row : ℕ → ℕ) (tids : List TidWord) (at : ℕ) (part more : TidWord) → at < length tids → part ≡ get_or tids at more
    → IsJoinable part more → shared_weight row (set tids at (tids_at part.word (bit_or part.bits more.bits) part.weight)) ≡ shared_weight row tids + part_weight row more
added_part row tids at part more below is join = grind (arith, common_steps, sum_by-set, ones_shared, add-mul)

bit_times : (b weight : ℕ) → b < 2 → b * weight ≡ cond (eqb b 1) weight 0
bit_times b weight low = grind (arith, nat_tests)

-- a tid weighs its weight where a row has it
pub made_weight : (row : ℕ → ℕ) (tid weight : ℕ) → part_weight row (tids_at (tid / 64) (1 * 2 ^ (tid % 64) % 2 ^ 64) weight) ≡ cond (has_tid row tid) weight 0
made_weight row tid weight = grind (arith, common_steps, one_shl, one_shared, bit_times, bit_at-lt)

-- the lowest bit of a number is no greater than the number
pub lowest_bit : (rest : ℕ) → 0 < rest → rest < 2 ^ 64 → 1 * 2 ^ (trailing_zeros w64 rest) % 2 ^ 64 ≤ rest
lowest_bit rest some fits = grind (arith, common_steps, bit_at-trailing_zeros w64 rest some fits, cases_lt rest (2 ^ (trailing_zeros w64 rest)))

cond_parts : (b : Bool) (weight part : ℕ) → part ≤ weight → cond b part 0 + cond b (weight - part) 0 ≡ cond b weight 0
cond_parts b weight part le = grind arith

-- a part of a weight more
pub rest_more : (row : ℕ → ℕ) (tid rest part start now new : ℕ) → part ≤ rest → new ≡ now + cond (has_tid row tid) part 0 → now + cond (has_tid row tid) rest 0 ≡ start
    → new + cond (has_tid row tid) (rest - part) 0 ≡ start
rest_more row tid rest part start now new le added before = let parts = cond_parts (has_tid row tid) rest part le in omega arith

-- ---- tids that are kept

kept_part : (r : List ℕ) (row : ℕ → ℕ) (part : TidWord) → part_weight row (tids_at part.word (bit_and part.bits (words r part.word)) part.weight) ≡ part_weight (both (words r) row) part
kept_part r row part = ap (λ n. count_ones n * part.weight) (and_assoc (row part.word) part.bits (words r part.word))

pub kept_more : (r : List ℕ) (tids kept new : List TidWord) (i : ℕ) (part : TidWord) → i < length tids → part ≡ get_or tids i part
    → ((row : ℕ → ℕ) → shared_weight row new ≡ shared_weight row kept + part_weight row (tids_at part.word (bit_and part.bits (words r part.word)) part.weight))
    → AreKept r (take i tids) kept → AreKept r (take (i + 1) tids) new
kept_more r tids kept new i part below is pushed before = grind (arith, common_steps, kept_part, sum_by_more)

-- ---- what baskets weigh whose tids a row has

-- a basket more
pub from_push : (at : ℕ) (row : ℕ → ℕ) (items : List ℕ) (baskets : List Weighted) (basket : Weighted)
    → weight_from at row items (baskets ++ basket ∷ []) ≡ weight_from at row items baskets + cond (has_tid row (at + length baskets)) (weight_at items basket) 0
from_push at row items [] basket = grind (arith, common_steps)
from_push at row items (first ∷ baskets) basket = grind (arith, common_steps, from_push (at + 1) row items baskets basket)

both_low : (a b : ℕ) → a < 2 → b < 2 → eqb (min a b) 1 ≡ (eqb a 1 && eqb b 1)
both_low a b low high = grind (arith, nat_tests)

-- two rows both have a tid where each has it
has_both : (r row : ℕ → ℕ) (tid : ℕ) → has_tid (both r row) tid ≡ (has_tid r tid && has_tid row tid)
has_both r row tid = grind (arith, common_steps, bit_at_and, both_low, bit_at-lt)

contains_push : (basket items : List ℕ) (item : ℕ) → contains basket (items ++ item ∷ []) ≡ (contains basket items && has basket item)
contains_push basket [] item = and-true (has basket item)
contains_push basket (x ∷ items) item = ap (λ b. has basket x && b) (contains_push basket items item) ∙ sym (all_three (has basket x) (contains basket items) (has basket item))

both_conds : (holds has_item in_row : Bool) (weight : ℕ) → cond (has_item && in_row) (cond holds weight 0) 0 ≡ cond in_row (cond (holds && has_item) weight 0) 0
both_conds holds has_item in_row weight = grind arith

one_cond : (holds has_item : Bool) (weight : ℕ) → cond has_item (cond holds weight 0) 0 ≡ cond (holds && has_item) weight 0
one_cond holds has_item weight = grind arith

-- a row has the tids, from one on, of the baskets that have an item
abbrev HasRow : ℕ → (ℕ → ℕ) → ℕ → List Weighted → Type 0
HasRow at r item baskets = (k : ℕ) → k < length baskets → has_tid r (at + k) ≡ has (basket_at baskets k) item

first_in : (at : ℕ) (r : ℕ → ℕ) (item : ℕ) (first : Weighted) (baskets : List Weighted) → HasRow at r item (first ∷ baskets) → has_tid r at ≡ has first.basket item
first_in at r item first baskets each = let e : at ≡ at + 0 = omega arith in ap (has_tid r) e ∙ each 0 (omega arith)

others_in : (at : ℕ) (r : ℕ → ℕ) (item : ℕ) (first : Weighted) (baskets : List Weighted) → HasRow at r item (first ∷ baskets) → HasRow (at + 1) r item baskets
others_in at r item first baskets each k below = let e : (at + 1) + k ≡ at + suc k = omega arith in ap (has_tid r) e ∙ each (suc k) (omega arith)

-- what a row has beside the row of an item
from_both : (at : ℕ) (r row : ℕ → ℕ) (items : List ℕ) (item : ℕ) (baskets : List Weighted) → HasRow at r item baskets
    → weight_from at (both r row) items baskets ≡ weight_from at row (items ++ item ∷ []) baskets
from_both at r row items item [] each = refl
from_both at r row items item (first ∷ baskets) each =
    let rest = from_both (at + 1) r row items item baskets (others_in at r item first baskets each) in
    let here = has_both r row at ∙ ap (λ b. b && has_tid row at) (first_in at r item first baskets each) in
    let one = ap (λ b. cond b (weight_at items first) 0) here ∙ both_conds (contains first.basket items) (has first.basket item) (has_tid row at) first.weight
    ∙ ap (λ b. cond (has_tid row at) (cond b first.weight 0) 0) (sym (contains_push first.basket items item)) in
    omega (arith, rest, one)

-- the row of an item
from_row : (at : ℕ) (r : ℕ → ℕ) (items : List ℕ) (item : ℕ) (baskets : List Weighted) → HasRow at r item baskets → weight_from at r items baskets ≡ support_of baskets (items ++ item ∷ [])
from_row at r items item [] each = refl
from_row at r items item (first ∷ baskets) each =
    let rest = from_row (at + 1) r items item baskets (others_in at r item first baskets each) in
    let one = ap (λ b. cond b (weight_at items first) 0) (first_in at r item first baskets each) ∙ one_cond (contains first.basket items) (has first.basket item) first.weight
    ∙ ap (λ b. cond b first.weight 0) (sym (contains_push first.basket items item)) in
    omega (arith, rest, one, support-cons first baskets (items ++ item ∷ []))

-- a row that has every tid
abbrev ones : ℕ → ℕ
ones word = 2 ^ 64 - 1

pub from_ones : (at : ℕ) (items : List ℕ) (baskets : List Weighted) → weight_from at ones items baskets ≡ support_of baskets items
from_ones at items [] = refl
from_ones at items (first ∷ baskets) = grind (arith, common_steps, from_ones (at + 1) items baskets, bit_at_ones 64 (at % 64) (omega arith), support-cons first baskets items)

-- ---- the tids of sets

row_of : (baskets : List Weighted) (item : ℕ) (r : List ℕ) → IsRowOf baskets item r → HasRow 0 (words r) item baskets
row_of baskets item r is k below = let e : 0 + k ≡ k = omega arith in ap (has_tid (words r)) e ∙ is.each k

-- what a row of an item has of the tids of a set are those of the set with the item
pub are_kept : (baskets : List Weighted) (items : List ℕ) (item : ℕ) (r : List ℕ) (tids kept : List TidWord)
    → AreTidsOf baskets items tids → IsRowOf baskets item r → AreKept r tids kept → AreTidsOf baskets (items ++ item ∷ []) kept
are_kept baskets items item r tids kept are is keeps = record {
  weighs = λ row. keeps.weighs row ∙ are.weighs (both (words r) row) ∙ from_both 0 (words r) row items item baskets (row_of baskets item r is);
}

-- they weigh the support of the set with the item
pub weighs_support : (baskets : List Weighted) (items : List ℕ) (item : ℕ) (r : List ℕ) (tids : List TidWord)
    → AreTidsOf baskets items tids → IsRowOf baskets item r → shared_weight (words r) tids ≡ support_of baskets (items ++ item ∷ [])
weighs_support baskets items item r tids are is = are.weighs (words r) ∙ from_row 0 (words r) items item baskets (row_of baskets item r is)

pub weighs_light : (baskets : List Weighted) (items : List ℕ) (item : ℕ) (r : List ℕ) (tids : List TidWord)
    → AreTidsOf baskets items tids → IsRowOf baskets item r → shared_weight (words r) tids ≤ total_of baskets
weighs_light baskets items item r tids are is = omega (arith, weighs_support baskets items item r tids are is, support_falls baskets (items ++ item ∷ []) [] refl)

-- a set without tids has no support
pub none_support : (baskets : List Weighted) (items : List ℕ) → AreTidsOf baskets items [] → support_of baskets items ≡ 0
none_support baskets items are = sym (from_ones 0 items baskets) ∙ sym (are.weighs ones)

-- the tids of all baskets, with one basket more
pub all_more : (baskets : List Weighted) (basket : Weighted) (tid : ℕ) (tids new : List TidWord) → tid ≡ length baskets
    → ((row : ℕ → ℕ) → shared_weight row new ≡ shared_weight row tids + cond (has_tid row tid) basket.weight 0)
    → AreTidsOf baskets [] tids → AreTidsOf (baskets ++ basket ∷ []) [] new
all_more baskets basket tid tids new long added before = grind (arith, common_steps, from_push)

-- all items of a list are used
pub list_used : (groups : List Group) (f : Group → List ℕ) (used now : List ℕ) (number : ℕ) (list : List ℕ) → AreUsed (map f groups) used → now ≡ used → number < length groups → list ≡ f (get_or groups number no_group)
    → contains now list ≡ true
list_used groups f used now number list all same within is = contains_each now list (λ item m.
    let here = subst (λ l. has l item ≡ true) (is ∙ sym (get_or-map f groups number no_group [] within)) (has-from_Member list item m) in
    Member-from_has now item (subst (λ u. has u item ≡ true) (sym same) (all number item (omega (arith, within, length-map groups f)) here)))

-- a set has no support where a prefix has no tids
pub none_with_prefix : (baskets : List Weighted) (items : List ℕ) (depth : ℕ) → AreTidsOf baskets (take depth items) [] → support_of baskets items ≡ 0
none_with_prefix baskets items depth are =
    let none = none_support baskets (take depth items) are in
    let falls = support_falls baskets items (take depth items) (contains_each items (take depth items) (λ item m. taken_member depth items item m)) in
    omega arith
  where
    taken_member : (n : ℕ) (l : List ℕ) (x : ℕ) → Member x (take n l) → Member x l
    taken_member n l x m = subst (Member x) (take-append-drop n l) (Member-append_left x (take n l) (drop n l) m)

-- some items of a set are used where all are
pub part_used : (used items : List ℕ) (start size : ℕ) → contains used items ≡ true → contains used (take size (drop start items)) ≡ true
part_used used items start size all = grind (arith, common_steps, take-append-drop start items, take-append-drop size (drop start items))
