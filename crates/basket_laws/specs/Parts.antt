-- Parts of a database, counted apart and put together.
use Rattle.std.specs.Prelude.{◌≡◌, ◌≤◌, ℕ, Bool, IsTrue, List, All, map}
use Rattle.std.specs.List.{Contains, flat_map, list_any}
use Rattle.basket_parts.specs.CombinedCounts.{frequent_in}
use Rattle.basket_read.specs.declared.counted_line.CountedLine.{CountedLine}
use Rattle.basket_sets.specs.declared.counted.Counted.{Counted}
use Rattle.basket_sets.specs.declared.minimum.Minimum.{Minimum}
use Rattle.basket_sets.specs.declared.minimum.Minimum.TheVariants.{Count, Share}
use Rattle.basket_sets.specs.declared.weighted.Weighted.{Weighted}
use Rattle.basket_sets.specs.Frequent.{IsNonemptySet, counted, frequent_of, is_frequent}
use Rattle.basket_sets.specs.Itemset.{IsRising}
use Rattle.basket_sets.specs.Support.{total_of}
use Rattle.mine_sets.specs.Asked.{asked_of}

-- the parts, concatenated
abbrev pub whole_of : List (List Weighted) → List Weighted
whole_of parts = flat_map (λ part. part) parts

-- whether a set is frequent in some part
abbrev pub is_frequent_in_some : List (List Weighted) → Minimum → List ℕ → Bool
is_frequent_in_some parts minimum set = list_any (λ part. is_frequent part minimum set) parts

-- a set that is frequent in all parts together, at a share, is so in one of them
abbrev pub SomePartHasIt : Type 0
SomePartHasIt = (parts : List (List Weighted)) (share : ℕ × ℕ) (set : List ℕ)
    → IsTrue (is_frequent (whole_of parts) (Share share) set) → IsTrue (is_frequent_in_some parts (Share share) set)

-- the set of a line with its count
abbrev pub said_of : CountedLine → Counted
said_of line = record { set = line.set; count = line.count }

-- what is counted of some sets in each part, part after part: the empty set and the sets, with their supports
abbrev pub counts_of_parts : List (List Weighted) → List (List ℕ) → List Counted
counts_of_parts parts sets = flat_map (λ part. map (counted part) (asked_of sets)) parts

-- lines with the counts of parts list, put together, exactly the frequent sets of all parts concatenated, where the sets that were counted have each that is frequent in some part
abbrev pub PartsMakeTheWhole : Type 0
PartsMakeTheWhole = (parts : List (List Weighted)) (share : ℕ × ℕ) (sets : List (List ℕ)) (lines : List CountedLine)
    → All IsRising sets
    → ((set : List ℕ) → IsNonemptySet set → IsTrue (is_frequent_in_some parts (Share share) set) → Contains sets set)
    → map said_of lines ≡ counts_of_parts parts sets
    → frequent_in lines (Share share) ≡ frequent_of (whole_of parts) (Share share)

-- a minimum that is a count is the share that it has of all baskets, where there are some
abbrev pub CountIsShare : Type 0
CountIsShare = (baskets : List Weighted) (least : ℕ) → 1 ≤ total_of baskets → frequent_of baskets (Count least) ≡ frequent_of baskets (Share (least, total_of baskets))
