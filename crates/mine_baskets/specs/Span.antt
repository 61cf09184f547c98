-- Parts of a list of ranks, with weights.
use Rattle.std.specs.Prelude.{◌≤◌, ◌+◌, ℕ, List, map}
use Rattle.std.specs.List.{slice_range}
use Rattle.basket_sets.specs.declared.weighted.Weighted.{Weighted}
use Rattle.basket_sets.specs.Database.{weighted}
use Rattle.mine_baskets.specs.declared.span.Span.{Span}

-- the part lies in a list of so many ranks
pub record IsWithin (count : ℕ) (span : Span) : Type 0 where
  pub ordered : span.start ≤ span.end
  pub within : span.end ≤ count

-- the basket that a part is
abbrev pub basket_at : List ℕ → Span → Weighted
basket_at ranks span = weighted (slice_range ranks span.start span.end) span.weight

abbrev pub baskets_at : List ℕ → List Span → List Weighted
baskets_at ranks spans = map (basket_at ranks) spans

-- so many of its first ranks
abbrev pub span_front : Span → ℕ → Span
span_front span depth = record { start = span.start; end = span.start + depth; weight = span.weight }

-- the part after so many more ranks
abbrev pub moved_span : ℕ → Span → Span
moved_span before span = record { start = before + span.start; end = before + span.end; weight = span.weight }
