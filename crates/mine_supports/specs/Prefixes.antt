use Rattle.std.specs.Prelude.{◌≡◌, ◌<◌, ◌≤◌, ◌-◌, ◌++◌, ◌∷◌, [], ℕ, List, length, slice_index_or, take}
use Rattle.std.specs.declared.alloc.Global.{Global}
use Rattle.std.specs.declared.vec.Vec.{Vec}
use Rattle.basket_sets.specs.declared.weighted.Weighted.{Weighted}
use Rattle.mine_supports.specs.declared.tid_words.TidWord.{TidWord}
use Rattle.mine_supports.specs.TidWord.{AreKept, AreTidsOf}

-- for each number of first items of a set, as far as they go, the tids of the baskets that contain those items
pub record ArePrefixes (baskets : List Weighted) (items : List ℕ) (prefixes : List (Vec TidWord Global)) : Type 0 where
  pub some : 1 ≤ length prefixes
  pub each : (depth : ℕ) (d : Vec TidWord Global) → depth < length prefixes → AreTidsOf baskets (take depth items) (slice_index_or prefixes depth d).items

-- the tids of the last prefix
abbrev pub AreLast : List (Vec TidWord Global) → List TidWord → Type 0
AreLast prefixes tids = (d : Vec TidWord Global) → tids ≡ (slice_index_or prefixes (length prefixes - 1) d).items

-- one prefix more, with those tids of the last one that a row has too
pub record IsNext (row : List ℕ) (old new : List (Vec TidWord Global)) : Type 0 where
  pub kept : Vec TidWord Global
  pub pushed : new ≡ old ++ kept ∷ []
  pub keeps : (tids : List TidWord) → AreLast old tids → AreKept row tids kept.items
