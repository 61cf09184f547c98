-- Rows of bits, one after another, whose bits are set one by one.
use Rattle.std.proofs.Common.{◌≡◌, ℕ, ◌+◌, ◌*◌, ◌/◌, ◌%◌, ◌<◌, ◌≤◌, ◌^◌, false, ◌&&◌, ◌||◌, List, [], ◌∷◌, ◌++◌, length, take, drop, get_or, eqb, sym, ap, ◌∙◌, inl, inr, arith, w64}
use Rattle.std.proofs.lemmas.Grind.{common_steps}
use Rattle.std.specs.Prelude.{bit_or}
use Rattle.std.specs.Int.{bit_at}
use Rattle.std.proofs.Math.ListN.{set}
use Rattle.std.proofs.lemmas.Bool.{and_parts, cases_eq, eqb-true, false_from_ne_true}
use Rattle.std.proofs.lemmas.Bool.Decides.{nat_tests}
use Rattle.std.proofs.lemmas.List.{get_or-set_other, length_push}
use Rattle.std.proofs.lemmas.Grind.{get_or-set_at}
use Rattle.std.proofs.lemmas.Nat.{div-mul-add}
use Rattle.std.proofs.lemmas.Nat.Bits.{bit_at_set_other, bit_at_set_same}
use Rattle.basket_sets.specs.declared.weighted.Weighted.{Weighted}
use Rattle.basket_sets.specs.Itemset.{IsRising, has}
use Rattle.basket_sets.proofs.theory.Tests.{or_false}
use Rattle.mine_supports.specs.declared.rows.Rows.{Rows}
use Rattle.mine_supports.specs.TidWord.{IsRowOf, basket_at}
use Rattle.mine_supports.specs.Rows.{AreRows, bit_in}
use Rattle.mine_supports.specs.UsedItems.{AreNumbers}
use Rattle.mine_supports.proofs.theory.UsedItems.{has_number}

-- the bits of rows once that of a tid is set in the rows of some numbers
abbrev pub AreMarkedAt : ℕ → ℕ → List ℕ → List ℕ → List ℕ → Type 0
AreMarkedAt words tid numbers old new = (number other : ℕ) → other < words * 64
    → bit_in new words number other ≡ (bit_in old words number other || (eqb other tid && has numbers number))

-- the bits of rows once that of a tid is set in the row of a number
abbrev pub IsSetAt : ℕ → ℕ → ℕ → List ℕ → List ℕ → Type 0
IsSetAt words tid at old new = (number other : ℕ) → other < words * 64
    → bit_in new words number other ≡ (bit_in old words number other || (eqb other tid && eqb at number))

-- a number more
pub marked_more : (words tid : ℕ) (numbers : List ℕ) (i : ℕ) (old bits new : List ℕ) → i < length numbers → AreMarkedAt words tid (take i numbers) old bits
    → IsSetAt words tid (get_or numbers i 0) bits new → AreMarkedAt words tid (take (i + 1) numbers) old new
marked_more words tid numbers i old bits new below marked sets number other inside = grind (arith, common_steps)

-- a word with one bit more
one_bit : (v k i : ℕ) → k < 64 → eqb (bit_at (bit_or v (1 * 2 ^ k % 2 ^ 64)) i) 1 ≡ (eqb (bit_at v i) 1 || eqb i k)
one_bit v k i low = elim (cases_eq i k) [
  | inl same ↦ (let one = bit_at_set_same w64 v k low in let now = ap (bit_at (bit_or v (1 * 2 ^ k % 2 ^ 64))) same in grind (arith, nat_tests))
  | inr differ ↦ (let other = bit_at_set_other w64 v k low i differ in grind (arith, nat_tests))
]

-- the bit of a tid in the row of a number
pub set_bit : (words tid k at v : ℕ) (bits : List ℕ) → k * words + words ≤ length bits → tid < words * 64
    → at ≡ k * words + tid / 64 → v ≡ bit_or (get_or bits at 0) (1 * 2 ^ (tid % 64) % 2 ^ 64) → IsSetAt words tid k bits (set bits at v)
set_bit words tid k at v bits long low stands value number other inside =
    let index : ℕ = number * words + other / 64 in
    let col : tid / 64 < words = omega arith in
    let column : other / 64 < words = omega arith in
    let all : at < length bits = omega (arith, long, col, stands) in
    elim (cases_eq index at) [
      | inl same ↦
          (let row : number ≡ k = sym (div-mul-add number words (other / 64) column) ∙ ap (λ n. n / words) (same ∙ stands) ∙ div-mul-add k words (tid / 64) col in
          let word : other / 64 ≡ tid / 64 = let e = ap (λ n. n * words) row in omega arith in
          let there : eqb (other % 64) (tid % 64) ≡ (eqb other tid && eqb k number) = grind (arith, nat_tests) in
          ap (λ n. eqb (bit_at n (other % 64)) 1) (get_or-set_at bits at index v 0 same all ∙ value) ∙ one_bit (get_or bits at 0) (tid % 64) (other % 64) (omega arith)
          ∙ (λ i. eqb (bit_at (get_or bits (sym same i) 0) (other % 64)) 1 || there i))
      | inr differ ↦
          (let apart : (eqb other tid && eqb k number) ≡ false = false_from_ne_true (eqb other tid && eqb k number)
          (λ e. let both = and_parts (eqb other tid) (eqb k number) e in let p = eqb-true other tid both.0 in let q = eqb-true k number both.1 in
          differ (let row = ap (λ n. n * words) q in omega arith)) in
          ap (λ n. eqb (bit_at n (other % 64)) 1) (get_or-set_other bits at index v 0 differ)
          ∙ sym (ap (λ b. bit_in bits words number other || b) apart ∙ or_false (bit_in bits words number other)))
    ]

-- ---- the rows of some baskets

-- a basket more
basket_more : (baskets : List Weighted) (basket : Weighted) (tid u : ℕ)
    → (has (basket_at baskets tid) u || (eqb tid (length baskets) && has basket.basket u)) ≡ has (basket_at (baskets ++ basket ∷ []) tid) u
basket_more baskets basket tid u = grind (arith, common_steps)

-- the rows of one basket more
pub rows_more : (used : List ℕ) (before : List Weighted) (basket : Weighted) (numbers bits : List ℕ) (old new : Rows) → IsRising used → AreRows used before old → AreNumbers used basket.basket numbers
    → length before < old.words * 64 → new.words ≡ old.words → new.bits.items ≡ bits → length bits ≡ length old.bits.items → AreMarkedAt old.words (length before) numbers old.bits.items bits
    → AreRows used (before ++ basket ∷ []) new
rows_more used before basket numbers bits old new up are named room words is long marked = grind (arith, common_steps, length_push, has_number, basket_more)

-- the row of an item among all rows
pub row_is : (items : List ℕ) (baskets : List Weighted) (rows : Rows) (number : ℕ) (row : List ℕ) → number < length items → AreRows items baskets rows
    → row ≡ take rows.words (drop (number * rows.words) rows.bits.items) → IsRowOf baskets (get_or items number 0) row
row_is items baskets rows number row within are is = grind (arith, common_steps)
