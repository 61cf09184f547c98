-- A share of all parts together is met in one of them.
use Rattle.std.proofs.Common.{◌≡◌, ◌⊎◌, inl, ℕ, ◌+◌, ◌*◌, ◌<◌, ◌≤◌, Bool, true, false, List, [], ◌∷◌, filter, le_of_mul-le-mul_right, cond, refl, arith}
use Rattle.std.proofs.lemmas.Grind.{common_steps}
use Rattle.std.specs.Prelude.{nat_le}
use Rattle.std.proofs.lemmas.Bool.{false≢true}
use Rattle.std.proofs.lemmas.Bool.Decides.{nat_tests}
use Rattle.std.proofs.lemmas.Nat.{mul-le}
use Rattle.basket_sets.specs.declared.minimum.Minimum.TheVariants.{Count, Share}
use Rattle.basket_sets.specs.declared.weighted.Weighted.{Weighted}
use Rattle.basket_sets.specs.Frequent.{frequent_of}
use Rattle.basket_sets.specs.Minimum.{meets}
use Rattle.basket_sets.specs.Support.{support_of, total_of}
use Rattle.basket_sets.proofs.theory.Rising.{same_test}
use Rattle.basket_sets.proofs.theory.Support.{support-append}
use Rattle.basket_laws.specs.Parts.{SomePartHasIt, is_frequent_in_some, whole_of}

-- the support is 0, or below the share of the total
abbrev IsBelow : ℕ × ℕ → ℕ → ℕ → Type 0
IsBelow share support total = (support ≡ 0) ⊎ (support * share.1 < share.0 * total)

below_unless_met : (share : ℕ × ℕ) (support total : ℕ) → meets (Share share) support total ≡ false → IsBelow share support total
below_unless_met share support total unmet = grind (arith, common_steps)

not_met : (share : ℕ × ℕ) (support total : ℕ) → IsBelow share support total → meets (Share share) support total ≡ true → ⊥
not_met share support total below met = grind (arith, common_steps)

add_below : (share : ℕ × ℕ) (a b s t : ℕ) → IsBelow share a s → IsBelow share b t → IsBelow share (a + b) (s + t)
add_below share a b s t one other = grind (arith, common_steps)

all_below : (parts : List (List Weighted)) (share : ℕ × ℕ) (set : List ℕ) → is_frequent_in_some parts (Share share) set ≡ false
    → IsBelow share (support_of (whole_of parts) set) (total_of (whole_of parts))
all_below [] share set none = inl refl
all_below (part ∷ parts) share set none = grind (arith, common_steps, all_below parts share set, false≢true, below_unless_met, support-append, add_below)

pub some_part_has_it : SomePartHasIt
some_part_has_it parts share set met = grind (arith, common_steps, not_met, all_below)

-- ---- a count as a share

-- a test that is the same for each number is the same in a filter
same_filter : {A : Type 0} (p q : A → Bool) → ((x : A) → p x ≡ q x) → (list : List A) → filter p list ≡ filter q list
same_filter p q same [] = refl
same_filter p q same (x ∷ list) = λ i. cond (same x i) (x ∷ same_filter p q same list i) (same_filter p q same list i)

module _ (baskets : List Weighted) (least : ℕ) (some : 1 ≤ total_of baskets) where
  at_least : (support : ℕ) → nat_le least support ≡ nat_le (least * total_of baskets) (support * total_of baskets)
  at_least support = same_test _ _
      (λ e. let below : least ≤ support = grind (arith, nat_tests, e) in let product = mul-le least (total_of baskets) support (total_of baskets) below (omega arith) in grind (arith, nat_tests, product))
      (λ e. let product : least * total_of baskets ≤ support * total_of baskets = grind (arith, nat_tests, e) in let below = le_of_mul-le-mul_right product some in grind (arith, nat_tests, below))

  pub count_is_share : frequent_of baskets (Count least) ≡ frequent_of baskets (Share (least, total_of baskets))
  count_is_share = grind (arith, common_steps, same_filter, at_least)
