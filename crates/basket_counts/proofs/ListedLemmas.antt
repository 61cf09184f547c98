-- Entries one after the other.
use Rattle.std.proofs.lemmas.Grind.{common_steps}
use Rattle.std.proofs.Common.{◌≡◌, ℕ, List, [], ◌∷◌, ◌++◌, map, Option, Some, None, Result, Ok, Err, refl, ap, arith}
use Rattle.std.specs.Option.{option_or}
use Rattle.basket_read.specs.declared.counted_line.CountedLine.{CountedLine}
use Rattle.basket_read.specs.declared.fault.ReadFault.{ReadFault}
use Rattle.basket_read.specs.declared.fault.ReadFault.TheVariants.{NoCount}
use Rattle.basket_counts.specs.Counts.{ListedSet, sets_among, counts_among}
use Rattle.basket_counts.specs.ListedSets.{lines_of, first_uncounted}

pub uncounted_append : (entries more : List ListedSet) → first_uncounted (entries ++ more) ≡ option_or (first_uncounted entries) (first_uncounted more)
uncounted_append [] more = refl
uncounted_append (entry ∷ entries) more = grind (arith, common_steps, uncounted_append entries more)

-- the sets of lines are those of the entries
pub sets_are : (entries : List ListedSet) → map (λ (line : CountedLine). line.set) (lines_of entries) ≡ sets_among entries
sets_are [] = refl
sets_are (entry ∷ entries) = ap (λ l. entry.set ∷ l) (sets_are entries)

-- the lines, or the fault of the first without a count
abbrev told : List CountedLine → Option ℕ → Result (List CountedLine) ReadFault
told lines None = Ok lines
told lines (Some line) = Err (NoCount line)

pub counts_are : (entries : List ListedSet) → counts_among entries ≡ told (lines_of entries) (first_uncounted entries)
counts_are [] = refl
counts_are (entry ∷ entries) = grind (arith, common_steps, counts_are entries)
