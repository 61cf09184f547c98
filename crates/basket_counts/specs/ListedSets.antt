-- What lines that were read say.
use Rattle.std.specs.Prelude.{◌≡◌, ℕ, List, [], ◌∷◌, map, Option, Some, None, unwrap_or, Result, IsOkAnd}
use Rattle.std.specs.Option.{option_or}
use Rattle.basket_read.specs.declared.counted_line.CountedLine.{CountedLine}
use Rattle.basket_read.specs.declared.fault.ReadFault.{ReadFault}
use Rattle.basket_counts.specs.declared.listed_sets.ListedSets.{ListedSets}
use Rattle.basket_counts.specs.Counts.{ListedSet}

-- the entries as lines, with the count 0 for one that is missing
abbrev pub lines_of : List ListedSet → List CountedLine
lines_of entries = map (λ (entry : ListedSet). record { set = entry.set; count = unwrap_or entry.count 0; line = entry.line }) entries

-- the line of an entry without a count
abbrev pub uncounted_at : Option ℕ → ℕ → Option ℕ
uncounted_at None line = Some line
uncounted_at (Some count) line = None

-- the first line without one
abbrev pub first_uncounted : List ListedSet → Option ℕ
first_uncounted [] = None
first_uncounted (entry ∷ entries) = option_or (uncounted_at entry.count entry.line) (first_uncounted entries)

-- what was read is these entries
pub record HasEntries (listed : ListedSets) (entries : List ListedSet) : Type 0 where
  pub lines : listed.lines.items ≡ lines_of entries
  pub uncounted : listed.uncounted ≡ first_uncounted entries

-- what was read is the entries that are defined
abbrev pub AreEntries : ListedSets → Result (List ListedSet) ReadFault → Type 0
AreEntries listed defined = IsOkAnd defined (HasEntries listed)
