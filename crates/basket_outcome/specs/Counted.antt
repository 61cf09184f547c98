-- What sets with their counts say for a question.
use Rattle.std.specs.Prelude.{◌≡◌, Bool, true, false, ◌&&◌, not, if◌then◌else◌, List, [], Option, Some, None, Result, Ok, Err}
use Rattle.basket_core.specs.Listing.{Listing}
use Rattle.basket_parts.specs.Gap.{first_gap}
use Rattle.basket_parts.specs.CombinedCounts.{frequent_in, has_set, total_in}
use Rattle.basket_plan.specs.declared.plan.Ask.{Ask}
use Rattle.basket_plan.specs.declared.plan.Ask.TheVariants.{Items, Sets, Rules}
use Rattle.basket_plan.specs.Plan.{Question}
use Rattle.basket_read.specs.declared.counted_line.CountedLine.{CountedLine}
use Rattle.basket_read.specs.declared.fault.ReadFault.{ReadFault}
use Rattle.basket_read.specs.declared.fault.ReadFault.TheVariants.{NoTotal}
use Rattle.basket_rules.specs.Consistency.{IsConsistent}
use Rattle.basket_sets.specs.declared.minimum.Minimum.{Minimum}
use Rattle.basket_sets.specs.declared.minimum.Minimum.TheVariants.{Count, Share}

-- whether the weight of all baskets matters: a share is one of it, and so is a lift
abbrev pub is_share : Minimum → Bool
is_share (Count least) = false
is_share (Share share) = true

abbrev pub needs_total : Ask → Minimum → Bool
needs_total (Rules confidence) minimum = true
needs_total _ minimum = is_share minimum

-- whether the subsets of the sets that meet the minimum matter
abbrev pub needs_subsets : Ask → Bool
needs_subsets Items = false
needs_subsets Sets = false
needs_subsets _ = true

abbrev pub unless_fault : Option ReadFault → Listing → Result Listing ReadFault
unless_fault (Some fault) listing = Err fault
unless_fault None listing = Ok listing

-- the first gap, where that matters
abbrev pub gap_in : Question → List CountedLine → Option ReadFault
gap_in question lines = if needs_subsets question.ask then first_gap lines question.minimum else None

-- of counted sets that are put together those that meet the minimum, and the weight of all baskets, unless that is asked for and isn't there, or a subset
abbrev pub listing_in : Question → List CountedLine → Result Listing ReadFault
listing_in question lines =
    if needs_total question.ask question.minimum && not (has_set lines []) then Err NoTotal
    else unless_fault (gap_in question lines) (record { sets = frequent_in lines question.minimum; total = total_in lines })

-- where subsets matter, all are there
abbrev pub IsWhole : Ask → Listing → Type 0
IsWhole ask listing = needs_subsets ask ≡ true → IsConsistent listing.sets
