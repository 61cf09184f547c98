-- Fronts of good texts are good, and the first fault is that of the byte that ends one badly.
use Rattle.std.proofs.lemmas.Grind.{common_steps}
use Rattle.std.proofs.Common.{◌≡◌, ℕ, true, List, [], ◌∷◌, ◌++◌, refl, arith}
use Rattle.basket_counts.specs.Counts.{is_tail, is_line, is_good, fault_at}
use Rattle.basket_read.proofs.theory.Numbers.{numbers_prefix}
use Rattle.basket_read.specs.Grammar.{PrefixesAreGood, GoodIsFaultless, FirstFaultIsExact}
use Rattle.basket_read.proofs.theory.Grammar as grammar

-- ---- a line

tail_front : (tail : List ℕ) (byte : ℕ) → is_tail (tail ++ byte ∷ []) ≡ true → is_tail tail ≡ true
tail_front tail byte good = grind (arith, common_steps)

pub line_prefix : (line : List ℕ) (byte : ℕ) → is_line (line ++ byte ∷ []) ≡ true → is_line line ≡ true
line_prefix line byte good = grind (arith, common_steps, tail_front, numbers_prefix)

pub line_prefixes_are_good : PrefixesAreGood is_line
line_prefixes_are_good = grammar.line_prefixes_are_good is_line fault_at refl line_prefix

-- ---- a text

pub prefixes_are_good : PrefixesAreGood is_good
prefixes_are_good = grammar.prefixes_are_good is_line fault_at refl line_prefix

pub good_is_faultless : GoodIsFaultless is_good fault_at
good_is_faultless = grammar.good_is_faultless is_line fault_at refl line_prefix

pub first_fault_is_exact : FirstFaultIsExact is_good fault_at
first_fault_is_exact = grammar.first_fault_is_exact is_line fault_at refl line_prefix
