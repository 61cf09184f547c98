use Rattle.std.proofs.lemmas.Result.{IfOk-weaker}
use Rattle.mine_pairs.specs.Pairs.{pairs_of}
use Rattle.mine_pieces.proofs.theory.Parts.{entries_by_part}
use Rattle.mine_phases.proofs.pairs.count_pairs.Goals as goal

pub returns : goal.returns
returns g c = IfOk-weaker c.by_pieces.result _ _ (λ pairs has. entries_by_part (λ list. list.items) (pairs_of c.args.runs.now.baskets c.args.least) c.args.runs.now.ranks pairs.items has) c.by_pieces.ensures
