-- The tids of a block of baskets as bits of words. A row is a word for each 64 tids, by its number.
use Rattle.std.specs.Prelude.{◌≡◌, ◌+◌, ◌*◌, ◌/◌, ◌%◌, ◌==◌, ℕ, Bool, List, [], ◌∷◌, bit_and, count_ones, map, slice_index, slice_index_or, if◌then◌else◌}
use Rattle.std.specs.Int.{bit_at}
use Rattle.std.specs.List.{sum_by}
use Rattle.basket_sets.specs.declared.weighted.Weighted.{Weighted}
use Rattle.basket_sets.specs.Itemset.{has}
use Rattle.basket_sets.specs.Support.{weight_at}
use Rattle.mine_supports.specs.declared.tid_words.TidWord.{TidWord}

-- whether a row has a tid
abbrev pub has_tid : (ℕ → ℕ) → ℕ → Bool
has_tid row tid = bit_at (row (tid / 64)) (tid % 64) == 1

-- what those tids of one word and weight weigh together that a row has
abbrev pub part_weight : (ℕ → ℕ) → TidWord → ℕ
part_weight row part = count_ones (bit_and part.bits (row part.word)) * part.weight

-- what those tids weigh together that a row has
abbrev pub shared_weight : (ℕ → ℕ) → List TidWord → ℕ
shared_weight row tids = sum_by (part_weight row) tids

-- of some tids those that a row has: whatever another row has of them, it has of the tids that both rows have
pub record AreKept (row : List ℕ) (tids kept : List TidWord) : Type 0 where
  pub weighs : (other : ℕ → ℕ) → shared_weight other kept ≡ shared_weight (λ word. bit_and (slice_index row word) (other word)) tids

-- what the baskets weigh together that contain a set, and whose tids a row has, the first at a tid
abbrev pub weight_from : ℕ → (ℕ → ℕ) → List ℕ → List Weighted → ℕ
weight_from tid row set [] = 0
weight_from tid row set (first ∷ others) = (if has_tid row tid then weight_at set first else 0) + weight_from (tid + 1) row set others

-- the tids of the baskets that contain a set: what any row has of them weighs as much as those baskets whose tids it has
pub record AreTidsOf (baskets : List Weighted) (set : List ℕ) (tids : List TidWord) : Type 0 where
  pub weighs : (row : ℕ → ℕ) → shared_weight row tids ≡ weight_from 0 row set baskets

-- the basket at a tid, or an empty one after the last
abbrev pub basket_at : List Weighted → ℕ → List ℕ
basket_at baskets tid = slice_index_or (map (λ basket. basket.basket) baskets) tid []

-- the row of an item: it has the tids of the baskets that have the item
pub record IsRowOf (baskets : List Weighted) (item : ℕ) (row : List ℕ) : Type 0 where
  pub each : (tid : ℕ) → has_tid (λ word. slice_index row word) tid ≡ has (basket_at baskets tid) item

-- tids to which some more can be added: those of the same word and weight that have none of them
pub record IsJoinable (part more : TidWord) : Type 0 where
  pub word : part.word ≡ more.word
  pub weight : part.weight ≡ more.weight
  pub apart : bit_and part.bits more.bits ≡ 0
