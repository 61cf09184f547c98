-- Parts of a piece, and digits at its prefix.
use Rattle.std.proofs.lemmas.Grind.{common_steps}
use Rattle.std.proofs.Common.{◌≡◌, ℕ, ◌+◌, ◌*◌, ◌^◌, ◌-◌, ◌<◌, ◌≤◌, true, List, ◌++◌, length, take, drop, get_or, sym, ap, ◌∙◌, append_assoc, length-drop, leb, arith}
use Rattle.std.specs.List.{list_all}
use Rattle.std.proofs.lemmas.Bool.{and_parts, and_from, leb-true}
use Rattle.std.proofs.lemmas.List.{length-take, take_rest}
use Rattle.std.proofs.Math.Nat.{pow-le-pow_right}
use Rattle.std.proofs.Math.Seq.{take-add}
use Rattle.std.proofs.lemmas.List.Folds.{list_all-append, list_all_more}
use Rattle.basket_sets.specs.Number.{is_digit, value_of}

-- ---- a piece

-- a part of a piece, and a part of its rest
pub take_both : (xs : List ℕ) (i n : ℕ) → take i xs ++ take n (take (length xs - i) (drop i xs)) ≡ take (i + n) xs
take_both xs i n = ap (λ l. take i xs ++ take n l) (take_rest xs i) ∙ sym (take-add i n xs)

pub within_both : (xs : List ℕ) (i n : ℕ) → i ≤ length xs → n ≤ length (take (length xs - i) (drop i xs)) → i + n ≤ length xs
within_both xs i n below more = omega (arith, length-take (length xs - i) (drop i xs), length-drop i xs)

-- after what was before them
pub after_both : (before xs : List ℕ) (i n : ℕ) → (before ++ take i xs) ++ take n (take (length xs - i) (drop i xs)) ≡ before ++ take (i + n) xs
after_both before xs i n = append_assoc before (take i xs) (take n (take (length xs - i) (drop i xs))) ∙ ap (λ l. before ++ l) (take_both xs i n)

-- ---- digits

-- digits and one more
pub digits_more : (bytes : List ℕ) (i : ℕ) → i < length bytes → is_digit (get_or bytes i 0) ≡ true → list_all is_digit (take i bytes) ≡ true → list_all is_digit (take (i + 1) bytes) ≡ true
digits_more bytes i below digit digits = list_all_more is_digit bytes i 0 below ∙ and_from (list_all is_digit (take i bytes)) (is_digit (get_or bytes i 0)) digits digit

-- and the value of a number with it
pub value_more : (bytes word : List ℕ) (i value digit : ℕ) → i < length bytes → get_or bytes i 0 ≡ 48 + digit → value_of (word ++ take i bytes) ≡ value
    → value_of (word ++ take (i + 1) bytes) ≡ value * 10 + digit
value_more bytes word i value digit below byte is = grind (arith, common_steps)

-- a few digits write a small number
pub digit_below : (byte digit : ℕ) → is_digit byte ≡ true → byte ≡ 48 + digit → digit < 10
digit_below byte digit d e = let range = and_parts (leb 48 byte) (leb byte 57) d in let high = leb-true byte 57 range.1 in omega arith

pub few_digits : (i value : ℕ) → value < 10 ^ i → i < 8 → value < 10000000
few_digits i value small below = let most = pow-le-pow_right {n = 10} (omega arith) {i = i} {j = 7} (omega arith) in omega arith

pub one_digit_more : (i value byte digit : ℕ) → value < 10 ^ i → is_digit byte ≡ true → byte ≡ 48 + digit → value * 10 + digit < 10 ^ (i + 1)
one_digit_more i value byte digit small d e = grind (arith, common_steps)

-- a number at the prefix, and more digits after them
pub number_goes_on : (bytes : List ℕ) (i more : ℕ) → list_all is_digit (take i bytes) ≡ true → list_all is_digit (take more (take (length bytes - i) (drop i bytes))) ≡ true
    → list_all is_digit (take (i + more) bytes) ≡ true
number_goes_on bytes i more a b =
    ap (list_all is_digit) (sym (take_both bytes i more)) ∙ list_all-append is_digit (take i bytes) (take more (take (length bytes - i) (drop i bytes)))
    ∙ and_from (list_all is_digit (take i bytes)) (list_all is_digit (take more (take (length bytes - i) (drop i bytes)))) a b
