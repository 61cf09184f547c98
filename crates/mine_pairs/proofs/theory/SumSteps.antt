-- Sums by rank.
use Rattle.std.proofs.Common.{◌≡◌, ℕ, ◌+◌, ◌<◌, ◌≤◌, Bool, false, List, [], ◌∷◌, ◌++◌, length, take, get_or, set, eqb, sym, ◌∙◌, arith}
use Rattle.std.proofs.lemmas.Grind.{common_steps}
use Rattle.std.specs.Prelude.{replicate}
use Rattle.std.specs.List.{filter}
use mir.Val.{bool_byte}
use Rattle.std.proofs.lemmas.Bool.{cases_eq, eq-eqb}
use Rattle.std.proofs.lemmas.List.{ext_get_or, get_or-replicate, get_or-set_same, length-replicate}
use Rattle.basket_sets.specs.Counts.{AllBelow}
use Rattle.basket_sets.specs.Itemset.{IsRising, has, rising}
use Rattle.basket_sets.proofs.theory.Members.{Member-filter}
use Rattle.basket_sets.proofs.theory.Rising.{Member-from_has, has-from_Member, has_more, not_before, rising_distinct, Member-rising}
use Rattle.basket_sets.proofs.theory.Tests.{or_true}
use Rattle.mine_pairs.specs.Sums.{AreSums, WithBasket}

-- ---- a basket's ranks, one after another

pub with_more : (basket : List ℕ) (i weight : ℕ) (old now : List ℕ) → IsRising basket → i < length basket → get_or basket i 0 < length now → length now ≡ length old → WithBasket (take i basket) weight old now
    → WithBasket (take (i + 1) basket) weight old (set now (get_or basket i 0) (get_or now (get_or basket i 0) 0 + weight))
with_more basket i weight old now up here inside long added rank below = grind (arith, common_steps, cases_eq, not_before, rising_distinct, has_more, eq-eqb, or_true, get_or-set_same)

-- ---- the list of the sums that are not 0

-- a rank put down after those that are listed, and kept where its sum was 0
pub listed_more : (count : ℕ) (sums found : List ℕ) (end rank weight more : ℕ) → AreSums count sums (take end found) → rank < count → end < length found
    → more ≡ bool_byte (eqb (get_or sums rank 0) 0) → AreSums count (set sums rank (get_or sums rank 0 + weight)) (take (end + more) (set found end rank))
listed_more count sums found end rank weight more are here room counted = grind (arith, common_steps)

pub all_zero : (count : ℕ) (sums : List ℕ) → length sums ≡ count → ((rank : ℕ) → get_or sums rank 0 ≡ 0) → sums ≡ replicate count 0
all_zero count sums long zero_at = ext_get_or 0 sums (replicate count 0) (long ∙ sym (length-replicate count 0))
    (λ rank here. zero_at rank ∙ sym (get_or-replicate count rank 0 0 (omega arith)))

pub below_rising : (count : ℕ) (p : ℕ → Bool) (found : List ℕ) → AllBelow count found → AllBelow count (rising (filter p found))
below_rising count p found below rank h = grind (arith, common_steps, Member-rising, Member-from_has, has-from_Member, Member-filter)

pub not_listed : (count : ℕ) (sums found : List ℕ) (rank : ℕ) → AreSums count sums found → has found rank ≡ false → get_or sums rank 0 ≡ 0
not_listed count sums found rank are none = grind (arith, common_steps)

-- a bit is at most 1
pub one_at_most : (b : Bool) → bool_byte b ≤ 1
one_at_most h1 = grind (arith, common_steps)
