-- Weights of baskets, added up for each item.
use Rattle.std.specs.Prelude.{◌≡◌, ◌<◌, ◌-◌, ◌^◌, ℕ, List, length, slice_index}
use Rattle.basket_sets.specs.declared.weighted.Weighted.{Weighted}
use Rattle.mine_supports.specs.declared.tid_words.TidWord.{TidWord}
use Rattle.mine_supports.specs.TidWord.{IsRowOf, shared_weight}

-- a row that has every tid
abbrev pub all_tids : ℕ → ℕ
all_tids word = 2 ^ 64 - 1

-- as far as there are sums, each is what those of the tids weigh whose baskets have the item
pub record AreSums (baskets : List Weighted) (tids : List TidWord) (sums : List ℕ) : Type 0 where
  pub each : (item : ℕ) (row : List ℕ) → item < length sums → IsRowOf baskets item row → slice_index sums item ≡ shared_weight (λ word. slice_index row word) tids
