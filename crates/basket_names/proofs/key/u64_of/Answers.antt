use Rattle.std.proofs.Common.{rules}
use Rattle.std.proofs.lemmas.Nat.{le_bytes_8}
use Rattle.basket_names.proofs.key.u64_of.Goals as goal

pub returns : goal.returns
returns c = le_bytes_8 c.args.bytes _ (search rules) (search rules) c.from_le_bytes.ensures
