-- What a miner of classes returns, and what the results for all classes add up to.
use Rattle.std.specs.Prelude.{◌≡◌, ◌≤◌, ◌<◌, ◌+◌, ◌-◌, ◌*◌, ◌^◌, ◌⊎◌, ℕ, Bool, false, Err, IfOk, IsTrue, List, [], ◌∷◌, OnOk, Result, filter, length, map, slice_index_or}
use Rattle.std.specs.List.{flat_map, range_with_len, sum_by}
use Rattle.basket_sets.specs.declared.weighted.Weighted.{Weighted}
use Rattle.basket_sets.specs.declared.minimum.Minimum.{Minimum}
use Rattle.basket_sets.specs.declared.counted.Counted.{Counted}
use Rattle.mine_limit.specs.declared.fault.MineFault.{MineFault}
use Rattle.mine_limit.specs.declared.fault.MineFault.TheVariants.{TooMany}
use Rattle.basket_ranks.specs.Codes.{Coding, IsCoding, baskets_of, coding_of, decoded_set, merged_coding}
use Rattle.basket_sets.specs.Frequent.{ListsOnce, frequent_of, is_frequent}
use Rattle.mine_classes.specs.Classes.{ListsClass, class_of}

-- the sets of a class of coded baskets as items, each once with its support, in any order
pub record ListsClassItems (coding : Coding) (rank : ℕ) (list : List Counted) : Type 0 where
  pub sets : List Counted
  pub listed : ListsClass coding.baskets coding.minimum rank sets
  pub decoded : list ≡ map (decoded_set coding.items) sets

-- how many sets a class of coded baskets has
abbrev pub class_size : Coding → ℕ → ℕ
class_size coding rank = length (class_of coding.baskets coding.minimum rank)

-- how many steps a miner counts for each set that it finds, at most
abbrev pub MOST_SET_WORK : ℕ
MOST_SET_WORK = 2 ^ 32 - 1

-- the class of a rank is listed, with a number of steps, and told to a tally; or the tally is over, the class is longer than its limit, or memory is out
pub record MinesClass {T : Type 0} (told_of limit_of : T → ℕ) (is_over : T → Bool) (coding : Coding) (rank : ℕ) (before after : T) (result : Result (List Counted × ℕ) MineFault) : Type 0 where
  pub listed : IfOk result (λ mined. ListsClassItems coding rank mined.0)
  pub few : IfOk result (λ mined. mined.1 ≤ class_size coding rank * MOST_SET_WORK)
  pub told : IfOk result (λ mined. told_of after ≡ told_of before + length mined.0)
  pub going_on : OnOk result (is_over after ≡ false)
  pub too_many : (limit : ℕ) → result ≡ Err (TooMany limit) → (limit ≡ limit_of before) × (IsTrue (is_over after) ⊎ (limit < class_size coding rank))
  pub at_most : told_of after ≤ told_of before + class_size coding rank
  pub limit : limit_of after ≡ limit_of before

-- each rank is that of a frequent item
abbrev pub RanksAreFrequent : Coding → Type 0
RanksAreFrequent coding = (rank : ℕ) → rank < length coding.items → IsTrue (is_frequent coding.baskets coding.minimum (rank ∷ []))

-- so it is where a database was coded, and where equal baskets of ranks were merged
abbrev pub CodedRanksAreFrequent : Type 0
CodedRanksAreFrequent = (baskets : List Weighted) (minimum : Minimum) → RanksAreFrequent (coding_of baskets minimum) × RanksAreFrequent (merged_coding (coding_of baskets minimum))

-- a list of a class has as many sets as the class
abbrev pub ListsHaveClassSize : Type 0
ListsHaveClassSize = (coding : Coding) (rank : ℕ) (list : List Counted) → ListsClassItems coding rank list → length list ≡ class_size coding rank

-- a list for each rank, from 0 on, of its class as items
abbrev pub ListClassItems : Coding → List (List Counted) → Type 0
ListClassItems coding classes = (rank : ℕ) → rank < length classes → ListsClassItems coding rank (slice_index_or classes rank [])

-- the lists of all classes are together the frequent sets of the baskets that were coded, each once
abbrev pub ClassItemsAreAll : Type 0
ClassItemsAreAll = (coding : Coding) (classes : List (List Counted)) → IsCoding coding → length classes ≡ length coding.items
    → ListClassItems coding classes → ListsOnce (baskets_of coding) coding.minimum (flat_map (λ class. class) classes)

-- for any test of a set with its support: as many sets of all classes pass it, added up, as frequent sets
abbrev pub ClassesAddUp : Type 0
ClassesAddUp = (coding : Coding) (test : Counted → Bool) → IsCoding coding
    → sum_by (λ rank. length (filter test (class_of coding.baskets coding.minimum rank))) (range_with_len 0 (length coding.items)) ≡ length (filter test (frequent_of coding.baskets coding.minimum))
