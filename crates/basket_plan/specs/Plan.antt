use Rattle.std.specs.Prelude.{ℕ, Bool, true, false, ◌==◌, ◌||◌}
use Rattle.basket_plan.specs.declared.plan.Ask.{Ask}
use Rattle.basket_plan.specs.declared.layout.Form.{Form}
use Rattle.basket_plan.specs.declared.layout.Form.TheVariants.{Fimi, Baskets, Single, Counts, CsvCounts}
use Rattle.basket_plan.specs.declared.layout.Layout.{Layout}
use Rattle.basket_plan.specs.declared.plan.Miner.{Miner}
use Rattle.basket_sets.specs.declared.minimum.Minimum.{Minimum}

-- whether the items of an input have names
abbrev pub has_names : Form → Bool
has_names Fimi = false
has_names Baskets = true
has_names Single = true
has_names Counts = false
has_names CsvCounts = true

-- what a plan asks of an input, and how that is written
pub record Question : Type 0 where
  pub ask : Ask
  pub minimum : Minimum
  pub limit : ℕ
  pub layout : Layout

-- a question, the miner, how many workers share the mining, and into how many pieces it is cut
pub record Planned : Type 0 where
  pub question : Question
  pub miner : Miner
  pub workers : ℕ
  pub pieces : ℕ

-- how an input is written over which given sets are counted, how many workers share that, and how many pieces it is cut into
pub record Counting : Type 0 where
  pub layout : Layout
  pub workers : ℕ
  pub pieces : ℕ

-- the greatest limit
abbrev pub GREATEST_LIMIT : ℕ
GREATEST_LIMIT = 4294967295

-- a byte that may stand between fields: a comma, a semicolon, a tab or a bar
abbrev pub is_separator : ℕ → Bool
is_separator byte = byte == 44 || byte == 59 || byte == 9 || byte == 124
