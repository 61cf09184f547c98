-- Numbers that are written are read back.
use Rattle.std.proofs.Common.{◌≡◌, ◌∙◌, ℕ, ◌+◌, ◌*◌, ◌-◌, ◌%◌, ◌^◌, ◌<◌, ◌≤◌, Bool, true, ◌&&◌, leb, List, [], ◌∷◌, ◌++◌, length, decimal, ap, arith}
use Rattle.std.specs.List.{list_all}
use Rattle.std.proofs.lemmas.Bool.{and_from, le-leb}
use Rattle.std.proofs.lemmas.Fmt.{decimal_by_steps}
use Rattle.std.proofs.lemmas.List.{length-append}
use Rattle.std.proofs.lemmas.List.Folds.{list_all-append}
use Rattle.std.proofs.lemmas.List.Sums.{fold_push}
use Rattle.basket_sets.specs.Number.{is_digit, value_of}

-- ---- tests of lists

pub and_true : (b : Bool) → (b && true) ≡ b
and_true b = grind arith

pub all_push : {X : Type 0} (p : X → Bool) (xs : List X) (x : X) → list_all p (xs ++ x ∷ []) ≡ (list_all p xs && p x)
all_push p xs x = list_all-append p xs (x ∷ []) ∙ ap (λ b. list_all p xs && b) (and_true (p x))

-- ---- the digits of a number

pub value_push : (word : List ℕ) (byte : ℕ) → value_of (word ++ byte ∷ []) ≡ value_of word * 10 + (byte - 48)
value_push word byte = fold_push (λ value b. value * 10 + (b - 48)) 0 word byte

pub record IsNumeral (number : ℕ) (word : List ℕ) : Type 0 where
  pub digits : list_all is_digit word ≡ true
  pub value : value_of word ≡ number
  pub some : 0 < length word

pub digit_is : (byte : ℕ) → 48 ≤ byte → byte ≤ 57 → is_digit byte ≡ true
digit_is byte low high = and_from (leb 48 byte) (leb byte 57) (le-leb 48 byte low) (le-leb byte 57 high)

pub numeral : (n : ℕ) → n < 2 ^ 64 → IsNumeral n (decimal n)
numeral = decimal_by_steps IsNumeral
    (λ m l. record { digits = and_true (is_digit (48 + m)) ∙ digit_is (48 + m) (omega arith) (omega arith); value = omega arith; some = omega arith })
    (λ m ds l h. record {
      digits = all_push is_digit ds (48 + m % 10) ∙ and_from (list_all is_digit ds) (is_digit (48 + m % 10)) h.digits (digit_is (48 + m % 10) (omega arith) (omega arith));
      value = value_push ds (48 + m % 10) ∙ (let e = h.value in omega arith);
      some = omega (arith, length-append ds ((48 + m % 10) ∷ []));
    })
