-- Where a text may be cut, and what is UTF-8.
use Rattle.std.proofs.Common.{◌≡◌, ℕ, ◌-◌, ◌<◌, ◌≤◌, true, false, List, length, get_or, Result, Bor, drop, arith}
use Rattle.std.proofs.lemmas.Grind.{common_steps}
use Rattle.std.specs.Str.{IsUtf8, IsCharBoundary, is_utf8}
use Rattle.std.specs.Option.{MatchOption}
use Rattle.std.specs.Result.{MatchResult, result_ok}
use Rattle.std.proofs.lemmas.Str.{IsCharBoundary-after_ascii, is_utf8-from_IsUtf8, IsUtf8-from_is_utf8}
use Rattle.std.proofs.lemmas.Bool.{false_from_ne_true}
use Rattle.std.proofs.lemmas.Bool.Decides.{nat_tests}
use Rattle.std.specs.List.{prefix_len, suffix_len, slice_range}
use Rattle.basket_csv.specs.Field.{is_space, trimmed}

space_is_ascii : (byte : ℕ) → is_space byte ≡ true → byte < 128
space_is_ascii byte e = grind (arith, nat_tests)

pub cut_after_spaces : (text : List ℕ) (n : ℕ) → IsUtf8 text → n ≤ length text → (0 < n → is_space (get_or text (n - 1) 0) ≡ true) → 0 < n → IsCharBoundary text n
cut_after_spaces text n utf8 within space some = grind (arith, common_steps, space_is_ascii, IsCharBoundary-after_ascii)

pub not_utf8 : (bytes : List ℕ) → ¬ (IsUtf8 bytes) → is_utf8 bytes ≡ false
not_utf8 bytes none = false_from_ne_true (is_utf8 bytes) (λ e. none (IsUtf8-from_is_utf8 bytes e))

-- the text of bytes that were read as one
pub text_read : {E : Type 0} (Q : E → Type 0) (r : Result (Bor (List ℕ)) E) (bytes : List ℕ)
    → MatchResult r (λ text. (text.now ≡ bytes) × IsUtf8 bytes) (λ e. ¬ (IsUtf8 bytes) × Q e)
    → MatchOption (result_ok r) (is_utf8 bytes ≡ false) (λ text. (text.now ≡ bytes) × (is_utf8 bytes ≡ true))
text_read h1 h2 h3 h4 = grind (arith, common_steps, is_utf8-from_IsUtf8, not_utf8)

-- a text that was cut twice
pub trim_is : (text bytes rest rest_bytes trim : List ℕ) (start end : ℕ) → bytes ≡ text → start ≡ prefix_len is_space bytes → rest ≡ drop start text
    → rest_bytes ≡ rest → end ≡ length rest_bytes - suffix_len is_space rest_bytes → trim ≡ slice_range rest 0 end → trim ≡ trimmed text
trim_is text bytes rest rest_bytes trim start end a b d e f g = grind (arith, common_steps)
