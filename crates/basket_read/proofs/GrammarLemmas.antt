-- Fronts of good texts are good, and the first fault is that of the byte that ends one badly.
use Rattle.std.proofs.lemmas.Grind.{common_steps}
use Rattle.std.proofs.Common.{◌≡◌, ℕ, true, false, List, [], ◌∷◌, ◌++◌, refl, arith}
use Rattle.std.specs.List.{list_all}
use Rattle.basket_read.specs.Fimi.{is_line_feed, is_nil, is_number, is_line, is_good, fault_at}
use Rattle.basket_read.proofs.theory.Numbers.{numbers_prefix}
use Rattle.basket_read.specs.Grammar.{PrefixesAreGood, GoodIsFaultless, FirstFaultIsExact}
use Rattle.basket_read.proofs.theory.Grammar as grammar

-- ---- a line

-- parts that are empty are numbers
nil_numbers : (words : List (List ℕ)) → list_all is_nil words ≡ true → list_all is_number words ≡ true
nil_numbers [] h = refl
nil_numbers ([] ∷ words) h = nil_numbers words h
nil_numbers ((d ∷ word) ∷ words) h = absurd cc

pub line_prefix : (line : List ℕ) (byte : ℕ) → is_line (line ++ byte ∷ []) ≡ true → is_line line ≡ true
line_prefix line byte good = grind (arith, common_steps, nil_numbers, numbers_prefix)

-- a line feed stands in no line
pub no_line_feed : (line : List ℕ) (byte : ℕ) → is_line (line ++ byte ∷ []) ≡ true → is_line_feed byte ≡ false
no_line_feed line byte h1 = grind (arith, common_steps)

-- ---- a text

pub prefixes_are_good : PrefixesAreGood is_good
prefixes_are_good = grammar.prefixes_are_good is_line fault_at refl line_prefix

pub good_is_faultless : GoodIsFaultless is_good fault_at
good_is_faultless = grammar.good_is_faultless is_line fault_at refl line_prefix

pub first_fault_is_exact : FirstFaultIsExact is_good fault_at
first_fault_is_exact = grammar.first_fault_is_exact is_line fault_at refl line_prefix
