-- What rows stand for: a cover beside the cover of the set that was extended.
use Rattle.std.specs.Prelude.{◌≡◌, IsTrue, ℕ, List, length}
use Rattle.basket_sets.specs.Itemset.{contains}
use Rattle.mine_rows.specs.declared.tids.TidList.{TidList}
use Rattle.mine_rows.specs.declared.diffs.DiffList.{DiffList}
use Rattle.mine_rows.specs.declared.bit_rows.BitRow.{BitRow}
use Rattle.mine_rows.specs.Bits.{words_of}
use Rattle.mine_rows.specs.Cover.{IsCover, lacking, cover_weight}

-- the cover itself, and what it weighs
pub record IsTidList (weights parent cover : List ℕ) (row : TidList) : Type 0 where
  pub covers : IsCover weights cover
  pub tids : row.tids.items ≡ cover
  pub count : row.count ≡ cover_weight weights cover

-- what the cover lacks of its parent's, and what the cover weighs
pub record IsDiffList (weights parent cover : List ℕ) (row : DiffList) : Type 0 where
  pub above : IsCover weights parent
  pub covers : IsCover weights cover
  pub inside : IsTrue (contains parent cover)
  pub missing : row.missing.items ≡ lacking parent cover
  pub count : row.count ≡ cover_weight weights cover

-- a bit for each tid, which is one where the tid is in the cover, and what the cover weighs
pub record IsBitRow (weights parent cover : List ℕ) (row : BitRow) : Type 0 where
  pub covers : IsCover weights cover
  pub words : row.words.items ≡ words_of (length weights) cover
  pub count : row.count ≡ cover_weight weights cover
