-- Merging equal baskets: it keeps each support, and what holds of every basket or weight.
use Rattle.std.proofs.Common.{◌≡◌, ℕ, ◌+◌, Bool, List, [], ◌∷◌, cond, nat_eq, fold, length, refl, sym, ap, arith, ◌≤◌}
use Rattle.std.proofs.lemmas.Grind.{common_steps}
use Rattle.std.specs.List.{sum_by, AllByRecursion}
use Rattle.std.specs.Cmp.Lexicographic.{pointwise, bytes_decides}
use Rattle.std.proofs.lemmas.Bool.{cond_both}
use Rattle.std.proofs.lemmas.List.Sums.{sum_by-cons}
use Rattle.basket_sets.specs.declared.weighted.Weighted.{Weighted}
use Rattle.basket_sets.specs.Itemset.{contains}
use Rattle.basket_sets.specs.Support.{total_of}
use Rattle.basket_sets.specs.Database.{weighted, with_basket, MergingKeepsSupports, merged_of}

-- ---- sums

-- equal summands make equal sums
pub sum_by-same : {X : Type 0} (f g : X → ℕ) (xs : List X) → ((x : X) → f x ≡ g x) → sum_by f xs ≡ sum_by g xs
sum_by-same f g xs e = λ i. sum_by (λ x. e x i) xs

-- a sum of two sums
pub sum_by-add : {X : Type 0} (f g : X → ℕ) (xs : List X) → sum_by f xs + sum_by g xs ≡ sum_by (λ x. f x + g x) xs
sum_by-add f g [] = refl
sum_by-add f g (x ∷ xs) = grind (arith, common_steps, sum_by-add f g xs)

-- ---- one more basket

module _ (chosen : List ℕ → Bool) where
  -- what a receipt weighs, if its basket is chosen
  abbrev weight_if : Weighted → ℕ
  weight_if receipt = cond (chosen receipt.basket) receipt.weight 0

  added_weight : (receipts : List Weighted) (receipt : Weighted) → sum_by weight_if (with_basket receipts receipt) ≡ sum_by weight_if receipts + weight_if receipt
  added_weight [] receipt = let one = sum_by-cons weight_if receipt [] in omega arith
  added_weight (other ∷ others) receipt =
      let old = sum_by-cons weight_if other others in
      cond_both (pointwise nat_eq receipt.basket other.basket) _ _ (λ l. sum_by weight_if l ≡ sum_by weight_if (other ∷ others) + weight_if receipt)
      (λ e. let first = sum_by-cons weight_if (weighted other.basket (other.weight + receipt.weight)) others in
      let two = both (chosen other.basket) in
      let its = ap (λ l. cond (chosen l) receipt.weight 0) (sym ((bytes_decides receipt.basket other.basket).0 e)) in
      omega arith)
      (λ differ. let first = sum_by-cons weight_if other (with_basket others receipt) in let rest = added_weight others receipt in omega arith)
    where
      both : (b : Bool) → cond b (other.weight + receipt.weight) 0 ≡ cond b other.weight 0 + cond b receipt.weight 0
      both h1 = grind (arith, common_steps)

  all_weights : (receipts baskets : List Weighted) → sum_by weight_if (fold with_basket receipts baskets) ≡ sum_by weight_if receipts + sum_by weight_if baskets
  all_weights receipts [] = omega arith
  all_weights receipts (receipt ∷ baskets) = grind (arith, common_steps, all_weights (with_basket receipts receipt) baskets, added_weight, sum_by-cons)

-- one more basket adds its weight
pub total_with : (receipts : List Weighted) (receipt : Weighted) → total_of (with_basket receipts receipt) ≡ total_of receipts + receipt.weight
total_with receipts receipt = added_weight (λ basket. contains basket []) receipts receipt

-- merging keeps the weight of the receipts whose baskets are chosen
pub merging_keeps_weights : (chosen : List ℕ → Bool) (baskets : List Weighted)
    → sum_by (λ receipt. cond (chosen receipt.basket) receipt.weight 0) (merged_of baskets) ≡ sum_by (λ receipt. cond (chosen receipt.basket) receipt.weight 0) baskets
merging_keeps_weights chosen baskets = omega (arith, all_weights chosen [] baskets)

-- merging changes no support
pub merging_keeps_supports : MergingKeepsSupports
merging_keeps_supports baskets set = merging_keeps_weights (λ basket. contains basket set) baskets

-- what holds of each receipt, and still does with more weight, holds of each merged one
pub merged_baskets : (P : Weighted → Type 0) → ((receipt : Weighted) (more : ℕ) → P receipt → P (weighted receipt.basket (receipt.weight + more)))
    → (baskets : List Weighted) → AllByRecursion P baskets → AllByRecursion P (merged_of baskets)
merged_baskets P heavier baskets each = all [] baskets tt each
  where
    one : (receipts : List Weighted) (receipt : Weighted) → AllByRecursion P receipts → P receipt → AllByRecursion P (with_basket receipts receipt)
    one [] receipt each its = (its, tt)
    one (other ∷ others) receipt each its = cond_both (pointwise nat_eq receipt.basket other.basket) _ _ (AllByRecursion P)
        (λ same. (heavier other receipt.weight each.0, each.1)) (λ differ. (each.0, one others receipt each.1 its))

    all : (receipts baskets : List Weighted) → AllByRecursion P receipts → AllByRecursion P baskets → AllByRecursion P (fold with_basket receipts baskets)
    all receipts [] done each = done
    all receipts (receipt ∷ baskets) done each = all (with_basket receipts receipt) baskets (one receipts receipt done each.0) each.1

-- merging makes no list longer
pub length-merged_of : (baskets : List Weighted) → length (merged_of baskets) ≤ length baskets
length-merged_of baskets = omega (arith, all [] baskets)
  where
    one : (receipts : List Weighted) (receipt : Weighted) → length (with_basket receipts receipt) ≤ length receipts + 1
    one [] receipt = omega arith
    one (other ∷ others) receipt = cond_both (pointwise nat_eq receipt.basket other.basket) _ _ (λ l. length l ≤ length (other ∷ others) + 1) (λ same. omega arith) (λ differ. omega (arith, one others receipt))

    all : (receipts baskets : List Weighted) → length (fold with_basket receipts baskets) ≤ length receipts + length baskets
    all receipts [] = omega arith
    all receipts (receipt ∷ baskets) = omega (arith, all (with_basket receipts receipt) baskets, one receipts receipt)
