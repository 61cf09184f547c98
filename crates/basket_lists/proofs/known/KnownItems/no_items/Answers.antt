use Rattle.std.proofs.Common.{◌≡◌, ℕ, [], ap, arith}
use Rattle.std.proofs.lemmas.Grind.{common_steps}
use Rattle.std.proofs.lemmas.Nat.{pow_pos}
use Rattle.basket_lists.specs.Packed.{Coding, digits, number_of, indexes_of, size_of}
use Rattle.basket_sets.proofs.theory.Rising.{nil_rises}
use Rattle.basket_lists.proofs.known.KnownItems.no_items.Goals as goal

-- a code of no items has no indexes
none_at : (coding : Coding) (code : ℕ) → size_of coding code ≡ 0 → indexes_of coding code ≡ []
none_at coding code none = ap (λ s. digits coding.item_bits s (number_of coding code)) none

pub returns-clause-packed : goal.returns-clause-packed
returns-clause-packed c = grind (arith, common_steps, none_at, pow_pos, nil_rises)

pub returns-clause-same : goal.returns-clause-same
returns-clause-same c = grind (arith, common_steps)
