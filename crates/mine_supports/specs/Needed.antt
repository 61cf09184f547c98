-- Baskets that can contain a set of so many items.
use Rattle.std.specs.Prelude.{◌≤◌, ℕ, All, Bool, IsTrue, List, filter, length, nat_le}
use Rattle.basket_sets.specs.declared.weighted.Weighted.{Weighted}
use Rattle.basket_sets.specs.Itemset.{IsRising, contains, has}

-- whether a basket has at least so many of the used items
abbrev pub is_needed : List ℕ → ℕ → Weighted → Bool
is_needed used least basket = nat_le least (length (filter (has used) basket.basket))

-- the baskets that have
abbrev pub needed : List ℕ → ℕ → List Weighted → List Weighted
needed used least baskets = filter (is_needed used least) baskets

-- a set has at least so many items, each counted once
pub record IsAtLeast (least : ℕ) (set : List ℕ) : Type 0 where
  pub some : List ℕ
  pub rises : IsRising some
  pub within : IsTrue (contains set some)
  pub enough : least ≤ length some

-- so have all of the sets
abbrev pub AreAtLeast : ℕ → List (List ℕ) → Type 0
AreAtLeast least sets = All (IsAtLeast least) sets
