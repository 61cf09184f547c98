-- Covers: the indexes of the baskets that contain a set, their tids.
use Rattle.std.specs.Prelude.{◌≡◌, ◌<◌, ◌++◌, ℕ, List, [], ◌∷◌, filter, length, map, slice_index_or, if◌then◌else◌}
use Rattle.std.specs.List.{range_with_len}
use Rattle.std.specs.declared.vec.Vec.{Vec}
use Rattle.std.specs.declared.alloc.Global.{Global}
use Rattle.basket_sets.specs.declared.weighted.Weighted.{Weighted}
use Rattle.basket_sets.specs.Itemset.{contains, has}
use Rattle.mine_baskets.specs.ListBaskets.{RankBaskets}

-- the basket of a tid
abbrev pub basket_at : List Weighted → ℕ → List ℕ
basket_at baskets tid = slice_index_or (map (λ p. p.basket) baskets) tid []

-- the cover of a set: the tids, rising, whose baskets contain it
abbrev pub cover_of : List Weighted → List ℕ → List ℕ
cover_of baskets set = filter (λ tid. contains (basket_at baskets tid) set) (range_with_len 0 (length baskets))

-- the weights of the baskets
abbrev pub weights_of : List Weighted → List ℕ
weights_of baskets = map (λ p. p.weight) baskets

-- covers as lists
abbrev pub covers_in : List (Vec ℕ Global) → List (List ℕ)
covers_in covers = map (λ cover. cover.items) covers

-- covers where a tid is added to those of the ranks of its basket
pub record HasTid (tid : ℕ) (basket : List ℕ) (old new : List (List ℕ)) : Type 0 where
  pub same : length new ≡ length old
  pub at : (rank : ℕ) → rank < length old → slice_index_or new rank [] ≡ slice_index_or old rank [] ++ (if has basket rank then tid ∷ [] else [])

-- the cover of each rank of baskets
pub record AreCovers (value : RankBaskets) (covers : List (Vec ℕ Global)) : Type 0 where
  pub long : length covers ≡ value.ranks
  pub at : (rank : ℕ) (none : Vec ℕ Global) → rank < value.ranks → (slice_index_or covers rank none).items ≡ cover_of value.baskets (rank ∷ [])
