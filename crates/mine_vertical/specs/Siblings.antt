-- Siblings: the extensions of one set.
use Rattle.std.specs.Prelude.{◌≡◌, ℕ, List, [], ◌∷◌, All, filter, length, map, nat_le}
use Rattle.std.specs.List.{range_with_len}
use Rattle.basket_sets.specs.declared.weighted.Weighted.{Weighted}
use Rattle.basket_sets.specs.Support.{support_of}
use Rattle.mine_baskets.specs.Covers.{cover_of, weights_of}
use Rattle.mine_conditional.specs.Paths.{IsConditional}
use Rattle.mine_pairs.specs.Pairs.{kept_ranks}
use Rattle.mine_vertical.specs.declared.joins.Sibling.{Sibling}
use Rattle.mine_vertical.specs.declared.local_baskets.LocalBaskets.{LocalBaskets}
use Rattle.mine_vertical.specs.LocalBaskets.{baskets_in, numbered_in}

-- the row of a sibling stands for the cover of a set with the sibling's number, beside the cover of the set
abbrev pub IsSibling : {R : Type 0} → (List ℕ → List ℕ → List ℕ → R → Type 0) → List Weighted → List ℕ → Sibling R → Type 0
IsSibling stands baskets set sibling = stands (weights_of baskets) (cover_of baskets set) (cover_of baskets (sibling.number ∷ set)) sibling.row

-- two siblings that extend a set, over weights
pub record ArePair {R : Type 0} (stands : List ℕ → List ℕ → List ℕ → R → Type 0) (weights : List ℕ) (first second : Sibling R) (baskets : List Weighted) (set : List ℕ) : Type 0 where
  pub weighs : weights ≡ weights_of baskets
  pub first_is : IsSibling stands baskets set first
  pub second_is : IsSibling stands baskets set second

-- siblings that extend a set, over baskets
abbrev pub AreSiblings : {R : Type 0} → (List ℕ → List ℕ → List ℕ → R → Type 0) → LocalBaskets → List (Sibling R) → List ℕ → Type 0
AreSiblings stands local siblings set = All (IsSibling stands (baskets_in local) set) siblings

-- the siblings that extend a set with one number more: those of others that are frequent with it, by a least support
pub record AreKept {R : Type 0} (stands : List ℕ → List ℕ → List ℕ → R → Type 0) (least number : ℕ) (others kept : List (Sibling R)) (baskets : List Weighted) (set : List ℕ) : Type 0 where
  pub numbers : map (λ other. other.number) kept ≡ filter (λ other. nat_le least (support_of baskets (other ∷ number ∷ set))) (map (λ other. other.number) others)
  pub rows : All (IsSibling stands baskets (number ∷ set)) kept

-- a sibling over baskets for each of their numbers
pub record AreOver {R : Type 0} (stands : List ℕ → List ℕ → List ℕ → R → Type 0) (local : LocalBaskets) (siblings : List (Sibling R)) : Type 0 where
  pub numbers : map (λ sibling. sibling.number) siblings ≡ range_with_len 0 (length local.ranks.items)
  pub rows : AreSiblings stands local siblings []

-- the conditional database of a rank, whose ranks are those that are kept, and a sibling for each of them
pub record AreClassSiblings {R : Type 0} (stands : List ℕ → List ℕ → List ℕ → R → Type 0) (all : List Weighted) (least rank : ℕ) (local : LocalBaskets) (siblings : List (Sibling R)) : Type 0 where
  pub ranks : local.ranks.items ≡ kept_ranks all least rank
  pub conditional : IsConditional all least rank (numbered_in local)
  pub over : AreOver stands local siblings
