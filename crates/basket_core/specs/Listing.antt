-- The complete list of the frequent sets.
use Rattle.std.specs.Prelude.{ℕ, List}
use Rattle.basket_sets.specs.declared.counted.Counted.{Counted}
use Rattle.basket_ranks.specs.Codes.{Coding, frequent_of_coding}
use Rattle.basket_sets.specs.Support.{total_of}

-- sets with their supports, and the weight of all baskets together
pub record Listing : Type 0 where
  pub sets : List Counted
  pub total : ℕ

-- the frequent sets of the baskets of a coding, in report order
abbrev pub listing_of : Coding → Listing
listing_of coding = record { sets = frequent_of_coding coding; total = total_of coding.baskets }
