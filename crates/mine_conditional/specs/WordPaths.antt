-- What words weigh that have some ranks.
use Rattle.std.specs.Prelude.{ℕ, if◌then◌else◌}
use Rattle.mine_baskets.specs.declared.words.Word.{Word}
use Rattle.mine_baskets.specs.Words.{has_rank}

-- the weight of a word where it has a rank
abbrev pub rank_weight : ℕ → Word → ℕ
rank_weight rank word = if has_rank word.bits rank then word.weight else 0

-- the weight of a word where it has two ranks
abbrev pub pair_weight : ℕ → ℕ → Word → ℕ
pair_weight rank other word = if has_rank word.bits rank then rank_weight other word else 0
