use Rattle.std.proofs.Common.{arith}
use Rattle.std.proofs.lemmas.Grind.{common_steps}
use Rattle.std.proofs.lemmas.List.Elements.{All-push, All-same}
use Rattle.mine_pieces.proofs.theory.Numbers.{numbers_next}
use Rattle.mine_pieces.proofs.pieces.Pieces.add_values.Goals as goal

pub loop-part-preserved : goal.loop-part-preserved
loop-part-preserved g c = grind (arith, common_steps, numbers_next, All-same, All-push)
