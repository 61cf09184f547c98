use Rattle.std.proofs.Common.{refl}
use Rattle.mine_rows.specs.Bits.{word_at}
use Rattle.mine_rows.specs.Planes.{bits_of}
use Rattle.mine_rows.proofs.worked.rows_have_bits.Goals as goal

pub returns-clause-row : goal.returns-clause-row
unfolding word_at
returns-clause-row c = refl

pub returns-clause-planes : goal.returns-clause-planes
unfolding bits_of
returns-clause-planes c = refl
