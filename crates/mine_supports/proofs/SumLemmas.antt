-- Weights of baskets, added up for each item.
use Rattle.std.proofs.Common.{◌≡◌, ◌≢◌, ℕ, suc, ◌+◌, ◌*◌, ◌/◌, ◌%◌, ◌<◌, ◌≤◌, ◌^◌, Bool, ◌||◌, List, [], ◌∷◌, drop, length, get_or, map, take, Bor, cond, eqb, zero-mul, true, false, refl, sym, ap, ◌∙◌, subst, inl, inr, arith, min, w64}
use Rattle.std.proofs.lemmas.Grind.{common_steps}
use Rattle.std.specs.Prelude.{bit_and, bit_or, count_ones}
use Rattle.std.specs.Int.{bit_at, bit_not, trailing_zeros}
use Rattle.std.specs.Int.Bits.{and_zero_l, or_add_and}
use Rattle.std.proofs.lemmas.Bool.{cases_eq, cases_lt}
use Rattle.std.proofs.lemmas.Bool.Decides.{nat_tests}
use Rattle.std.proofs.Math.ListN.{set}
use Rattle.std.proofs.lemmas.List.Sums.{sum_by_more_le}
use Rattle.std.proofs.lemmas.List.{length-map, get_or-map, get_or-set_other, get_or-set_same}
use Rattle.std.proofs.lemmas.Nat.{one_shl, pow_pos}
use Rattle.std.proofs.lemmas.Nat.Bits.{and_pow, bit_at-lt, bit_at_clear_other, bit_at_clear_same, bit_at_ones, bit_at_set_other, bit_at_set_same, bit_at-trailing_zeros, bit_at_and, bit_at_above, same_from_bits}
use Rattle.basket_sets.specs.declared.weighted.Weighted.{Weighted}
use Rattle.basket_sets.specs.Itemset.{IsRising, has}
use Rattle.basket_sets.specs.Support.{total_of}
use Rattle.basket_sets.proofs.theory.Members.{Member}
use Rattle.basket_sets.proofs.theory.Support.{support_falls}
use Rattle.mine_supports.specs.declared.rows.Rows.{Rows}
use Rattle.mine_supports.specs.declared.tid_words.TidWord.{TidWord}
use Rattle.basket_sets.proofs.theory.Rising.{Member-from_has, has_more, not_before, rising_distinct}
use Rattle.mine_supports.specs.Sums.{all_tids}
use Rattle.mine_supports.specs.Rows.{AreRows}
use Rattle.mine_supports.specs.TidWord.{AreTidsOf, IsRowOf, basket_at, has_tid, part_weight, shared_weight}
use Rattle.mine_supports.proofs.OnesLemmas.{one_shared, ones_shared}
use Rattle.mine_supports.proofs.RowLemmas.{row_is}
use Rattle.mine_supports.proofs.TidLemmas.{from_ones, tids_at, words}

-- ---- a word without its lowest one

abbrev pub lowest : ℕ → ℕ
lowest rest = trailing_zeros w64 rest

abbrev pub cleared : ℕ → ℕ
cleared rest = bit_and rest (bit_not w64 (1 * 2 ^ lowest rest % 2 ^ 64))

times : (a b weight : ℕ) → b < 2 → (a + b) * weight ≡ a * weight + cond (eqb b 1) weight 0
times a b weight low = grind (arith, nat_tests)

module _ (rest : ℕ) (some : 0 < rest) (fits : rest < 2 ^ 64) where
  pub below : lowest rest < 64
  below = let at = bit_at-trailing_zeros w64 rest some fits in at.0

  power : 1 * 2 ^ lowest rest % 2 ^ 64 ≡ 2 ^ lowest rest
  power = one_shl (lowest rest) 64 below

  other : (i : ℕ) → i ≢ lowest rest → bit_at (cleared rest) i ≡ bit_at rest i
  other i differ = elim (cases_lt i 64) [
    | inl low ↦ bit_at_clear_other w64 rest (lowest rest) below i low differ
    | inr high ↦ (let none = bit_at_above rest 64 i fits high in let both = bit_at_and rest (bit_not w64 (1 * 2 ^ lowest rest % 2 ^ 64)) i in omega (arith, both, none))
  ]

  bits : (i : ℕ) → bit_at (bit_or (cleared rest) (1 * 2 ^ lowest rest % 2 ^ 64)) i ≡ bit_at rest i
  bits i = let at = bit_at-trailing_zeros w64 rest some fits in elim (cases_eq i (lowest rest)) [
    | inl same ↦ ap (bit_at (bit_or (cleared rest) (1 * 2 ^ lowest rest % 2 ^ 64))) same ∙ bit_at_set_same w64 (cleared rest) (lowest rest) below ∙ sym (ap (bit_at rest) same ∙ at.1)
    | inr differ ↦ bit_at_set_other w64 (cleared rest) (lowest rest) below i differ ∙ other i differ
  ]

  whole : bit_or (cleared rest) (2 ^ lowest rest) ≡ rest
  whole = ap (bit_or (cleared rest)) (sym power) ∙ same_from_bits _ rest bits

  apart : bit_and (cleared rest) (2 ^ lowest rest) ≡ 0
  apart = and_pow (cleared rest) (lowest rest) ∙ ap (λ n. n * 2 ^ lowest rest) (bit_at_clear_same w64 rest (lowest rest) below) ∙ zero-mul (2 ^ lowest rest)

  pub cleared_less : cleared rest < rest
  cleared_less = let sum = or_add_and (cleared rest) (2 ^ lowest rest) in let p = pow_pos (lowest rest) in omega (arith, sum, whole, apart, p)

  -- what a row has of the tids of a word is what it has of the others and of the lowest
  pub one_less : (row : ℕ → ℕ) (word weight : ℕ) → part_weight row (tids_at word rest weight) ≡ part_weight row (tids_at word (cleared rest) weight) + cond (eqb (bit_at (row word) (lowest rest)) 1) weight 0
  one_less row word weight =
      let ones = ap (λ n. count_ones (bit_and n (row word))) (sym whole) ∙ ones_shared (cleared rest) (2 ^ lowest rest) (row word) apart ∙ ap (λ n. count_ones (bit_and (cleared rest) (row word)) + n) (one_shared (lowest rest) (row word)) in
      ap (λ n. n * weight) ones ∙ times (count_ones (bit_and (cleared rest) (row word))) (bit_at (row word) (lowest rest)) weight (bit_at-lt (row word) (lowest rest))

  -- every tid is one of all
  pub one_of_all : (word weight : ℕ) → part_weight all_tids (tids_at word rest weight) ≡ part_weight all_tids (tids_at word (cleared rest) weight) + weight
  one_of_all word weight = one_less all_tids word weight ∙ ap (λ n. part_weight all_tids (tids_at word (cleared rest) weight) + cond (eqb n 1) weight 0) (bit_at_ones 64 (lowest rest) below)

pub none_left : (row : ℕ → ℕ) (word weight : ℕ) → part_weight row (tids_at word 0 weight) ≡ 0
none_left row word weight = grind (arith, common_steps, and_zero_l)

-- ---- the basket of a tid

-- the bit of a tid in a row
bit_of : (row : ℕ → ℕ) (word bit : ℕ) → bit < 64 → has_tid row (word * 64 + bit) ≡ eqb (bit_at (row word) bit) 1
bit_of row word bit low = let at : (word * 64 + bit) / 64 ≡ word = omega arith in let in_word : (word * 64 + bit) % 64 ≡ bit = omega arith in λ i. eqb (bit_at (row (at i)) (in_word i)) 1

-- the weight of a tid is added to the sum of an item if its basket has the item
pub sum_more : (baskets : List Weighted) (item : ℕ) (row : List ℕ) (word rest weight tid old new start : ℕ) → 0 < rest → rest < 2 ^ 64 → IsRowOf baskets item row
    → basket_at baskets tid ≡ basket_at baskets (word * 64 + lowest rest)
    → new ≡ old + cond (has (basket_at baskets tid) item) weight 0
    → old + part_weight (words row) (tids_at word rest weight) ≡ start
    → new + part_weight (words row) (tids_at word (cleared rest) weight) ≡ start
sum_more baskets item row word rest weight tid old new start some fits is same added before =
    let holds = sym (bit_of (words row) word (lowest rest) (below rest some fits)) ∙ is.each (word * 64 + lowest rest) ∙ ap (λ b. has b item) (sym same) in
    let less = one_less rest some fits (words row) word weight ∙ ap (λ b. part_weight (words row) (tids_at word (cleared rest) weight) + cond b weight 0) holds in
    omega (arith, less, added, before)

nowhere : (baskets : List Weighted) (k : ℕ) → length baskets ≤ k → basket_at baskets k ≡ []
nowhere baskets k over = grind (arith, common_steps)

pub no_basket : (baskets : List (Bor Weighted)) (item tid : ℕ) → length baskets ≤ tid → has (basket_at (map (λ b. b.now) baskets) tid) item ≡ false
no_basket baskets item tid over = ap (λ l. has l item) (nowhere (map (λ b. b.now) baskets) tid (omega (arith, over, length-map baskets (λ b. b.now))))

pub read_basket : (baskets : List (Bor Weighted)) (tid : ℕ) (b : Bor Weighted) → tid < length baskets → b ≡ get_or baskets tid b → basket_at (map (λ b. b.now) baskets) tid ≡ b.now.basket
read_basket baskets tid b within is =
    get_or-map (λ (w : Weighted). w.basket) (map (λ r. r.now) baskets) tid b.now [] (omega (arith, within, length-map baskets (λ r. r.now)))
    ∙ ap (λ (w : Weighted). w.basket) (get_or-map (λ r. r.now) baskets tid b b.now within) ∙ ap (λ (r : Bor Weighted). r.now.basket) (sym is)

-- the place of a basket, as far as numbers go
pub same_place : (baskets : List Weighted) (most word bit tid : ℕ) → length baskets ≤ most → tid ≡ min (min (word * 64) most + bit) most → basket_at baskets tid ≡ basket_at baskets (word * 64 + bit)
same_place baskets most word bit tid fits is = elim (cases_lt (word * 64 + bit) most) [
  | inl low ↦ (let e : tid ≡ word * 64 + bit = omega arith in ap (basket_at baskets) e)
  | inr high ↦ nowhere baskets tid (omega arith) ∙ sym (nowhere baskets (word * 64 + bit) (omega arith))
]

-- ---- a weight that is added to the sums of items

test_same : (a : Bool) (x item : ℕ) → item ≡ x → (a || eqb x item) ≡ true
test_same a x item same = grind (arith, nat_tests)

test_other : (a : Bool) (x item : ℕ) → item ≢ x → (a || eqb x item) ≡ a
test_other a x item differ = grind (arith, nat_tests)

module _ (items : List ℕ) (i item weight : ℕ) (up : IsRising items) (here : i < length items) where
  -- another item
  pub other_sum : item ≢ get_or items i 0 → cond (has (take (i + 1) items) item) weight 0 ≡ cond (has (take i items) item) weight 0
  other_sum differ = ap (λ b. cond b weight 0) (has_more items i item here ∙ test_other (has (take i items) item) (get_or items i 0) item differ)

  -- the next item, which wasn't there yet
  pub same_sum : item ≡ get_or items i 0 → (cond (has (take (i + 1) items) item) weight 0 ≡ weight) × (cond (has (take i items) item) weight 0 ≡ 0)
  same_sum same = (
    ap (λ b. cond b weight 0) (has_more items i item here ∙ test_same (has (take i items) item) (get_or items i 0) item same),
    ap (λ b. cond b weight 0) (ap (has (take i items)) same ∙ not_before items i (rising_distinct items up) here),
  )

  pub sum_set : (sums : List ℕ) (start : ℕ) → get_or items i 0 < length sums → get_or sums item 0 ≡ start + cond (has (take i items) item) weight 0
      → get_or (set sums (get_or items i 0) (get_or sums (get_or items i 0) 0 + weight)) item 0 ≡ start + cond (has (take (i + 1) items) item) weight 0
  sum_set sums start within before = elim (cases_eq item (get_or items i 0)) [
    | inl same ↦ (let now = same_sum same in
        let one = ap (λ n. get_or (set sums (get_or items i 0) (get_or sums (get_or items i 0) 0 + weight)) n 0) same ∙ get_or-set_same sums (get_or items i 0) (get_or sums (get_or items i 0) 0 + weight) 0 within in
        let at = ap (λ n. get_or sums n 0) same in
        omega (arith, now.0, now.1, one, at, before))
    | inr differ ↦ get_or-set_other sums (get_or items i 0) item (get_or sums (get_or items i 0) 0 + weight) 0 differ ∙ before ∙ ap (λ n. start + n) (sym (other_sum differ))
  ]

pub weight_le : (b : Bool) (weight : ℕ) → cond b weight 0 ≤ weight
weight_le b weight = grind arith

-- ---- the sums of all tids

-- no sum is more than all baskets weigh
pub tids_light : (baskets : List Weighted) (items : List ℕ) (tids : List TidWord) (i : ℕ) (part : TidWord) → AreTidsOf baskets items tids → i < length tids
    → shared_weight all_tids (take i tids) + part_weight all_tids (get_or tids i part) ≤ total_of baskets
tids_light baskets items tids i part are within =
    let some = sum_by_more_le (part_weight all_tids) tids i part within in
    let all = are.weighs all_tids ∙ from_ones 0 items baskets in
    let falls = support_falls baskets items [] refl in
    omega (arith, some, all, falls)

index_of : (items : List ℕ) (item : ℕ) → Member item items → (k : ℕ) × (k < length items) × (get_or items k 0 ≡ item)
index_of [] item m = absurd m
index_of (x ∷ items) item m = elim m [
  | inl e ↦ (0, omega arith, e)
  | inr n ↦ (let rest = index_of items item n in (suc rest.0, omega (arith, rest.1), rest.2))
]

-- a used item has a row
pub row_of_used : (used : List ℕ) (baskets : List Weighted) (rows : Rows) (item : ℕ) → AreRows used baskets rows → has used item ≡ true → (row : List ℕ) × IsRowOf baskets item row
row_of_used used baskets rows item are uses =
    let at = index_of used item (Member-from_has used item uses) in
    let row : List ℕ = take rows.words (drop (at.0 * rows.words) rows.bits.items) in
    (row, subst (λ n. IsRowOf baskets n row) at.2 (row_is used baskets rows at.0 row at.1 are refl))
