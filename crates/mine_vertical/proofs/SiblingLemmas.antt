-- Siblings that are joined, and the weights of their baskets.
use Rattle.std.proofs.Common.{◌≡◌, ℕ, ◌+◌, ◌<◌, ◌≤◌, Bool, false, true, List, [], ◌∷◌, ◌++◌, length, get_or, take, map, cond, sym, ap, ◌∙◌, subst, arith}
use Rattle.std.proofs.lemmas.Grind.{common_steps}
use Rattle.std.specs.Prelude.{All, nat_le, sum}
use Rattle.std.specs.List.{filter}
use Rattle.std.proofs.lemmas.List.{get_or-map, length-map}
use Rattle.std.proofs.lemmas.List.Sums.{sum-map}
use Rattle.basket_sets.specs.declared.weighted.Weighted.{Weighted}
use Rattle.basket_sets.specs.Database.{HasWeight, weighted}
use Rattle.basket_sets.specs.Support.{support_of, total_of}
use Rattle.mine_baskets.specs.Covers.{cover_of, weights_of}
use Rattle.mine_rows.specs.Cover.{common, cover_weight}
use Rattle.mine_vertical.specs.declared.joins.Sibling.{Sibling}
use Rattle.mine_vertical.specs.Siblings.{AreKept, ArePair, IsSibling}
use Rattle.mine_vertical.proofs.CoverLemmas.{common_cover, cover_weighs}

-- ---- weights

pub weights_some : (baskets : List Weighted) → All HasWeight baskets → All (λ weight. 1 ≤ weight) (weights_of baskets)
weights_some baskets all k d here =
    let inside : k < length baskets = omega (arith, here, length-map baskets (λ (p : Weighted). p.weight)) in
    subst (λ n. 1 ≤ n) (sym (get_or-map (λ (p : Weighted). p.weight) baskets k (weighted [] 0) d inside)) (all k (weighted [] 0) inside)

pub weights_weigh : (baskets : List Weighted) → sum (weights_of baskets) ≡ total_of baskets
weights_weigh baskets = sum-map (λ (p : Weighted). p.weight) baskets

-- ---- siblings that are joined

module _ {R : Type 0} (stands : List ℕ → List ℕ → List ℕ → R → Type 0) (weights : List ℕ) (baskets : List Weighted) (set : List ℕ) where
  -- a row that is made of two siblings' rows
  pub joined_stands : (sibling other : Sibling R) (row : R) → ArePair stands weights sibling other baskets set
      → ((parent first second : List ℕ) → stands weights parent first sibling.row → stands weights parent second other.row → stands weights first (common first second) row)
      → stands (weights_of baskets) (cover_of baskets (sibling.number ∷ set)) (cover_of baskets (other.number ∷ sibling.number ∷ set)) row
  joined_stands sibling other row pair made = grind (arith, common_steps, common_cover)

  -- and whether that is frequent is told by the support of both
  pub joined_support : (sibling other : Sibling R) (least : ℕ) (frequent : Bool) → ArePair stands weights sibling other baskets set
      → ((parent first second : List ℕ) → stands weights parent first sibling.row → stands weights parent second other.row → frequent ≡ nat_le least (cover_weight weights (common first second)))
      → frequent ≡ nat_le least (support_of baskets (other.number ∷ sibling.number ∷ set))
  joined_support sibling other least frequent pair is =
      let parent = cover_of baskets set in
      let first = cover_of baskets (sibling.number ∷ set) in
      let second = cover_of baskets (other.number ∷ set) in
      is parent first second (subst (λ w. stands w parent first sibling.row) (sym pair.weighs) pair.first_is) (subst (λ w. stands w parent second other.row) (sym pair.weighs) pair.second_is)
      ∙ ap (nat_le least) ((λ i. cover_weight (pair.weighs i) (common_cover baskets set sibling.number other.number i)) ∙ cover_weighs baskets (other.number ∷ sibling.number ∷ set))

module _ {R : Type 0} (stands : List ℕ → List ℕ → List ℕ → R → Type 0) (least number : ℕ) (others below : List (Sibling R)) (baskets : List Weighted) (set : List ℕ) (i : ℕ) (other : Sibling R)
    (here : i < length others) (at : other ≡ get_or others i other) (before : AreKept stands least number (take i others) below baskets set) where
  abbrev test : ℕ → Bool
  test other = nat_le least (support_of baskets (other ∷ number ∷ set))

  abbrev numbers : List (Sibling R) → List ℕ
  numbers siblings = map (λ (o : Sibling R). o.number) siblings

  more : filter test (numbers (take (i + 1) others)) ≡ filter test (numbers (take i others)) ++ cond (test other.number) (other.number ∷ []) []
  more = grind (arith, common_steps)

  -- one more sibling is kept or not
  pub kept_more : (both : Sibling R) → both.number ≡ other.number → IsSibling stands baskets (number ∷ set) both → nat_le least (support_of baskets (other.number ∷ number ∷ set)) ≡ true
      → AreKept stands least number (take (i + 1) others) (below ++ both ∷ []) baskets set
  kept_more both same is enough = grind (arith, common_steps, more)

  pub dropped_more : nat_le least (support_of baskets (other.number ∷ number ∷ set)) ≡ false → AreKept stands least number (take (i + 1) others) below baskets set
  dropped_more rare = grind (arith, common_steps)
