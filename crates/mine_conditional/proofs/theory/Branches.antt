-- Baskets of which each that has a rank has the lower ones, and those that pass a test.
use Rattle.std.proofs.Common.{◌≡◌, ℕ, ◌≤◌, Bool, true, List, [], ◌∷◌, cond, refl, inl, inr, arith}
use Rattle.std.proofs.lemmas.Grind.{common_steps}
use Rattle.std.specs.List.{flat_map, list_all, range_with_len}
use Rattle.basket_sets.specs.declared.weighted.Weighted.{Weighted}
use Rattle.basket_sets.specs.Itemset.{contains, has}
use Rattle.basket_sets.proofs.theory.Members.{Member, Member-append}
use Rattle.basket_sets.proofs.theory.Rising.{Member-from_has}
use Rattle.basket_sets.proofs.theory.Tests.{each_of}
use Rattle.mine_conditional.specs.Paths.{is_branch}

module _ {X : Type 0} (test : Weighted → Bool) (f : Weighted → X) where
  abbrev pub picked_basket : Weighted → List X
  picked_basket receipt = cond (test receipt) (f receipt ∷ []) []

  pub into_picked : (receipts : List Weighted) (receipt : Weighted) → Member receipt receipts → test receipt ≡ true → Member (f receipt) (flat_map picked_basket receipts)
  into_picked [] receipt m h = absurd m
  into_picked (p ∷ receipts) receipt (inl e) h = grind (arith, common_steps)
  into_picked (p ∷ receipts) receipt (inr m) h = grind (arith, common_steps, into_picked receipts receipt m h)

  pub from_picked : (receipts : List Weighted) (x : X) → Member x (flat_map picked_basket receipts) → (receipt : Weighted) × Member receipt receipts × (test receipt ≡ true) × (f receipt ≡ x)
  from_picked [] x m = absurd m
  from_picked (p ∷ receipts) x m = elim (Member-append x (picked_basket p) (flat_map picked_basket receipts) m) [
    | inl n ↦ here (test p) refl n
    | inr n ↦ (let r = from_picked receipts x n in (r.0, inr r.1, r.2, r.3))
  ]
    where
      here : (b : Bool) → test p ≡ b → Member x (cond b (f p ∷ []) []) → (receipt : Weighted) × Member receipt (p ∷ receipts) × (test receipt ≡ true) × (f receipt ≡ x)
      here h1 h2 h3 = grind (arith, common_steps)

-- ---- single branches

abbrev pub AreHeavy : List Weighted → Type 0
AreHeavy baskets = (receipt : Weighted) → Member receipt baskets → 1 ≤ receipt.weight

-- each basket that has the rank has all lower ones
abbrev pub IsFullAt : ℕ → List Weighted → Type 0
IsFullAt rank baskets = (receipt : Weighted) → Member receipt baskets → has receipt.basket rank ≡ true → contains receipt.basket (range_with_len 0 rank) ≡ true

pub full_from_branch : (baskets : List Weighted) → is_branch baskets ≡ true → (rank : ℕ) → IsFullAt rank baskets
full_from_branch baskets h rank receipt m here =
    each_of (λ r. contains receipt.basket (range_with_len 0 r)) receipt.basket
    (each_of (λ (p : Weighted). list_all (λ r. contains p.basket (range_with_len 0 r)) p.basket) baskets h receipt m) rank (Member-from_has receipt.basket rank here)
