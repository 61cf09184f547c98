-- Sets whose items are concatenated in one list.
use Rattle.std.specs.Prelude.{◌≤◌, ℕ, List, length, map}
use Rattle.std.specs.List.{slice_range}
use Rattle.basket_lists.specs.declared.set_span.SetSpan.{SetSpan}
use Rattle.basket_sets.specs.declared.counted.Counted.{Counted}
use Rattle.basket_sets.specs.Itemset.{IsRising}

-- the span lies among so many items
pub record IsWithin (count : ℕ) (span : SetSpan) : Type 0 where
  pub ordered : span.start ≤ span.end
  pub within : span.end ≤ count

-- a set stands there
pub record IsSpanOfSet (items : List ℕ) (span : SetSpan) : Type 0 where
  pub within : IsWithin (length items) span
  pub rises : IsRising (slice_range items span.start span.end)

-- the set with its count
abbrev pub spanned : List ℕ → SetSpan → Counted
spanned items span = record { set = slice_range items span.start span.end; count = span.count }

abbrev pub spanned_sets : List ℕ → List SetSpan → List Counted
spanned_sets items spans = map (spanned items) spans
