-- Shifts bring bits to those of local numbers.
use Rattle.std.proofs.Common.{◌≡◌, ℕ, ◌+◌, ◌-◌, ◌*◌, ◌/◌, ◌%◌, ◌^◌, ◌<◌, ◌≤◌, Bool, true, false, ◌&&◌, ◌||◌, List, [], ◌∷◌, ◌++◌, get_or, length, take, eqb, ltb, min, refl, sym, ap, ◌∙◌, subst, inl, inr, arith, add-zero, div-add-mod', zero, suc}
use Rattle.std.specs.Prelude.{bit_and, bit_or}
use Rattle.std.specs.Int.{bit_at}
use Rattle.std.specs.List.{list_any}
use Rattle.std.proofs.lemmas.Bool.{cases_eq, eq-eqb, le-ltb, lt-ltb, ltb-true, ne_eqb}
use Rattle.std.proofs.lemmas.List.{get_or_append_left, length-append}
use Rattle.std.proofs.lemmas.List.Elements.{All-push}
use Rattle.std.proofs.lemmas.List.Folds.{list_any-append, list_any_more}
use Rattle.std.proofs.lemmas.Nat.{pow_pos}
use Rattle.std.proofs.lemmas.Nat.Bits.{bit_at-lt, bit_at-zero, bit_at_and, bit_at_cat_high, bit_at_cat_low}
use Rattle.basket_sets.proofs.theory.Rising.{same_test}
use Rattle.basket_sets.proofs.theory.Tests.{or_false}
use Rattle.mine_baskets.specs.declared.words.TheConstants.{WORD_RANKS}
use Rattle.mine_baskets.specs.Words.{has_rank}
use Rattle.mine_baskets.proofs.theory.Bits.{has_either, one_rank}
use Rattle.mine_conditional.specs.declared.shift.Shift.{Shift}
use Rattle.mine_conditional.specs.Shift.{AreShifts, shifted}

one_of_both : (x y : ℕ) → x < 2 → y < 2 → eqb (min x y) 1 ≡ (eqb x 1 && eqb y 1)
one_of_both zero zero low high = refl
one_of_both zero (suc zero) low high = refl
one_of_both zero (suc (suc y)) low high = absurd (omega arith)
one_of_both (suc zero) zero low high = refl
one_of_both (suc zero) (suc zero) low high = refl
one_of_both (suc zero) (suc (suc y)) low high = absurd (omega arith)
one_of_both (suc (suc x)) y low high = absurd (omega arith)

has_both : (a b rank : ℕ) → has_rank (bit_and a b) rank ≡ (has_rank a rank && has_rank b rank)
has_both a b rank = ap (λ n. eqb n 1) (bit_at_and a b (63 - rank)) ∙ one_of_both (bit_at a (63 - rank)) (bit_at b (63 - rank)) (bit_at-lt a (63 - rank)) (bit_at-lt b (63 - rank))

-- the bits that are shifted out don't count
low_bits : (n i : ℕ) → i < 64 → bit_at (n % 18446744073709551616) i ≡ bit_at n i
low_bits n i low =
    sym (bit_at_cat_low (n / 18446744073709551616) 64 (n % 18446744073709551616) i low) ∙ ap (λ m. bit_at m i) (div-add-mod' n 18446744073709551616)

bit_moved : (n s i : ℕ) → s ≤ i → i < 64 → bit_at (n * 2 ^ s % 18446744073709551616) i ≡ bit_at n (i - s)
bit_moved n s i from low = low_bits (n * 2 ^ s) i low ∙ ap (λ m. bit_at m i) (sym (add-zero (n * 2 ^ s))) ∙ bit_at_cat_high n s 0 i (pow_pos s) from

rank_moved : (bits by number : ℕ) → number + by < WORD_RANKS → has_rank (bits * 2 ^ by % 18446744073709551616) number ≡ has_rank bits (number + by)
rank_moved bits by number low =
    let same : 63 - number - by ≡ 63 - (number + by) = omega arith in
    ap (λ n. eqb n 1) (bit_moved bits by (63 - number) (omega arith) (omega arith) ∙ ap (bit_at bits) same)

abbrev pub brings : ℕ → ℕ → Shift → Bool
brings bits number shift = has_rank (shifted bits shift) number

and_or : (x a b : Bool) → (x && (a || b)) ≡ ((x && a) || (x && b))
and_or true a b = refl
and_or false a b = refl

or_assoc : (a b c : Bool) → (a || (b || c)) ≡ ((a || b) || c)
or_assoc true b c = refl
or_assoc false b c = refl

and_false : (b : Bool) → (b && false) ≡ false
and_false true = refl
and_false false = refl

and_true : (b : Bool) → (b && true) ≡ b
and_true true = refl
and_true false = refl

-- one number more in a shift
one_more : (bits number by mask at : ℕ) → at < WORD_RANKS → number < WORD_RANKS
    → brings bits number (record { by = by; mask = bit_or mask (2 ^ (63 - at)) })
    ≡ (brings bits number (record { by = by; mask = mask }) || (has_rank (bits * 2 ^ by % 18446744073709551616) number && eqb at number))
one_more bits number by mask at low few =
    let moved = bits * 2 ^ by % 18446744073709551616 in
    has_both moved (bit_or mask (2 ^ (63 - at))) number
    ∙ ap (λ b. has_rank moved number && b) (has_either mask (2 ^ (63 - at)) number ∙ ap (λ b. has_rank mask number || b) (one_rank at number low few))
    ∙ and_or (has_rank moved number) (has_rank mask number) (eqb at number)
    ∙ ap (λ b. b || (has_rank moved number && eqb at number)) (sym (has_both moved mask number))

-- no number yet
no_rank : (rank : ℕ) → has_rank 0 rank ≡ false
no_rank rank = ap (λ n. eqb n 1) (bit_at-zero (63 - rank))

pub brings_none : (bits number by : ℕ) → brings bits number (record { by = by; mask = 0 }) ≡ false
brings_none bits number by =
    let moved = bits * 2 ^ by % 18446744073709551616 in
    has_both moved 0 number ∙ ap (λ b. has_rank moved number && b) (no_rank number) ∙ and_false (has_rank moved number)

up_to : (at number : ℕ) (own moved : Bool) → (at ≡ number → moved ≡ own) → ((ltb number at && own) || (moved && eqb at number)) ≡ (ltb number (at + 1) && own)
up_to at number own moved same = elim (cases_eq at number) [
  | inl e ↦
      (λ i. (le-ltb number at (omega arith) i && own) || (moved && eq-eqb at number e i))
      ∙ and_true moved ∙ same e ∙ ap (λ b. b && own) (sym (lt-ltb number (at + 1) (omega arith)))
  | inr differ ↦
      ap (λ b. (ltb number at && own) || (moved && b)) (ne_eqb at number differ)
      ∙ ap (λ b. (ltb number at && own) || b) (and_false moved) ∙ or_false (ltb number at && own)
      ∙ ap (λ b. b && own)
      (same_test (ltb number at) (ltb number (at + 1)) (λ h. let less = ltb-true number at h in lt-ltb number (at + 1) (omega arith))
      (λ h. let less = ltb-true number (at + 1) h in lt-ltb number at (omega (arith, differ))))
]

any_push : (bits number : ℕ) (old : List Shift) (shift : Shift) → list_any (brings bits number) (old ++ shift ∷ []) ≡ (list_any (brings bits number) old || brings bits number shift)
any_push bits number old shift = list_any-append (brings bits number) old (shift ∷ []) ∙ ap (λ b. list_any (brings bits number) old || b) (or_false (brings bits number shift))

-- a shift that brings nothing yet
pub fresh_shift : (kept : List ℕ) (at by : ℕ) (old : List Shift) → by < WORD_RANKS → AreShifts kept at old → AreShifts kept at (old ++ record { by = by; mask = 0 } ∷ [])
fresh_shift kept at by old low so_far = record {
  low = All-push (λ (shift : Shift). shift.by < WORD_RANKS) old (record { by = by; mask = 0 }) so_far.low low;
  bring = λ bits number few.
      any_push bits number old (record { by = by; mask = 0 })
      ∙ ap (λ b. list_any (brings bits number) old || b) (brings_none bits number by) ∙ or_false (list_any (brings bits number) old) ∙ so_far.bring bits number few;
}

-- the last shift with one number more
pub more_mask : (kept : List ℕ) (at by : ℕ) (old : List Shift) (mask : ℕ) → at + by ≡ get_or kept at 0 → get_or kept at 0 < WORD_RANKS
    → AreShifts kept at (old ++ record { by = by; mask = mask } ∷ []) → AreShifts kept (at + 1) (old ++ record { by = by; mask = bit_or mask (2 ^ (63 - at)) } ∷ [])
more_mask kept at by old mask is below so_far = record {
  low = All-push (λ (shift : Shift). shift.by < WORD_RANKS) old (record { by = by; mask = bit_or mask (2 ^ (63 - at)) })
      (λ k d here. subst (λ (shift : Shift). shift.by < WORD_RANKS) (get_or_append_left old (record { by = by; mask = mask } ∷ []) d k here)
      (so_far.low k d (omega (arith, here, length-append old (record { by = by; mask = mask } ∷ []))))) (omega arith);
  bring = λ bits number few.
      let moved = has_rank (bits * 2 ^ by % 18446744073709551616) number in
      let own = has_rank bits (get_or kept number 0) in
      any_push bits number old (record { by = by; mask = bit_or mask (2 ^ (63 - at)) })
      ∙ ap (λ b. list_any (brings bits number) old || b) (one_more bits number by mask at (omega arith) few)
      ∙ or_assoc (list_any (brings bits number) old) (brings bits number (record { by = by; mask = mask })) (moved && eqb at number)
      ∙ ap (λ b. b || (moved && eqb at number)) (sym (any_push bits number old (record { by = by; mask = mask })) ∙ so_far.bring bits number few)
      ∙ up_to at number own moved
      (λ e. rank_moved bits by number (omega arith) ∙ ap (has_rank bits) (let same : number + by ≡ get_or kept at 0 = omega arith in same ∙ ap (λ k. get_or kept k 0) e));
}

-- the bits by the first shifts, and one more
pub shift_more : (bits : ℕ) (shifts : List Shift) (i new : ℕ) (d : Shift) → i < length shifts
    → ((number : ℕ) → has_rank new number ≡ list_any (brings bits number) (take i shifts))
    → (number : ℕ) → has_rank (bit_or new (shifted bits (get_or shifts i d))) number ≡ list_any (brings bits number) (take (i + 1) shifts)
shift_more bits shifts i new d here so_far number =
    has_either new (shifted bits (get_or shifts i d)) number
    ∙ ap (λ b. b || brings bits number (get_or shifts i d)) (so_far number)
    ∙ sym (list_any_more (brings bits number) shifts i d here)

-- what all shifts bring are the bits of the kept ranks
pub bits_brought : (kept : List ℕ) (shifts list : List Shift) (bits new : ℕ) → AreShifts kept (length kept) shifts → list ≡ shifts → length kept ≤ WORD_RANKS
    → ((number : ℕ) → has_rank new number ≡ list_any (brings bits number) list)
    → (number : ℕ) → number < length kept → has_rank new number ≡ has_rank bits (get_or kept number 0)
bits_brought kept shifts list bits new are same few brought number less =
    brought number ∙ ap (list_any (brings bits number)) same ∙ are.bring bits number (omega arith)
    ∙ ap (λ b. b && has_rank bits (get_or kept number 0)) (lt-ltb number (length kept) less)
