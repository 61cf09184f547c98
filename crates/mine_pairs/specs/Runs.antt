-- The runs of a rank: the indexes where it stands in baskets that lie one after another.
use Rattle.std.specs.Prelude.{◌≡◌, ◌<◌, ◌+◌, ◌++◌, ℕ, Bool, List, [], ◌∷◌, All, length, map, nat_lt, if◌then◌else◌, slice_index, slice_index_or}
use Rattle.std.specs.List.{flat_map}
use Rattle.std.specs.declared.vec.Vec.{Vec}
use Rattle.std.specs.declared.alloc.Global.{Global}
use Rattle.basket_sets.specs.declared.weighted.Weighted.{Weighted}
use Rattle.mine_baskets.specs.declared.span.Span.{Span}
use Rattle.mine_classes.specs.Conditional.{kept_basket}
use Rattle.mine_baskets.specs.ListBaskets.{HaveSameWeights, IsRankBasket}
use Rattle.mine_pairs.specs.Pairs.{pairs_of}
use Rattle.mine_baskets.specs.Span.{IsWithin, baskets_at, span_front}

-- the baskets that have a rank, kept to the ranks below it
abbrev pub below : ℕ → List Weighted → List Weighted
below rank baskets = flat_map (kept_basket (λ other. nat_lt other rank) rank) baskets

-- runs with more weight at the last
abbrev pub with_last_heavier : ℕ → List Span → List Span
with_last_heavier weight [] = []
with_last_heavier weight (run ∷ []) = record { start = run.start; end = run.end; weight = run.weight + weight } ∷ []
with_last_heavier weight (run ∷ next ∷ runs) = run ∷ with_last_heavier weight (next ∷ runs)

-- a run added at the end, or its weight to the last one where that is the same
abbrev pub with_run : Bool → Span → List Span → List Span
with_run same run runs = if same then with_last_heavier run.weight runs else runs ++ run ∷ []

-- the ranks of a basket up to a depth, from a first rank on, have its runs: below a depth that it shares with the basket before, the weight of a run that is there
pub record HaveRuns (ranks : List ℕ) (basket : Span) (shared depth first : ℕ) (old new : List (List Span)) : Type 0 where
  pub long : length new ≡ length old
  pub on : (k n : ℕ) → k < depth → n < length old → slice_index ranks k ≡ first + n
      → slice_index_or new n [] ≡ with_run (nat_lt k shared) (span_front basket k) (slice_index_or old n [])
  pub off : (n : ℕ) → ((k : ℕ) → k < depth → slice_index ranks k ≡ first + n → ⊥) → slice_index_or new n [] ≡ slice_index_or old n []

-- the lists of runs that vectors have
abbrev pub lists_in : List (Vec Span Global) → List (List Span)
lists_in of = map (λ runs. runs.items) of

-- the baskets that have the rank are those that end in its runs
pub record AreRunsOf (ranks : List ℕ) (baskets : List Weighted) (rank : ℕ) (runs : List Span) : Type 0 where
  pub within : All (IsWithin (length ranks)) runs
  pub each : All (IsRankBasket rank) (baskets_at ranks runs)
  pub weights : HaveSameWeights (below rank baskets) (baskets_at ranks runs)

-- the runs of so many ranks from a first one on
pub record HaveRunsFrom (first count : ℕ) (ranks : List ℕ) (baskets : List Weighted) (of : List (List Span)) : Type 0 where
  pub long : length of ≡ count
  pub are : (n : ℕ) → n < count → AreRunsOf ranks baskets (first + n) (slice_index_or of n [])

-- the frequent pairs of each of the first ranks, by a least support
abbrev pub ArePairsOf : List Weighted → ℕ → List (Vec (ℕ × ℕ) Global) → Type 0
ArePairsOf baskets least pairs = (rank : ℕ) (none : Vec (ℕ × ℕ) Global) → rank < length pairs → (slice_index_or pairs rank none).items ≡ pairs_of baskets least rank
