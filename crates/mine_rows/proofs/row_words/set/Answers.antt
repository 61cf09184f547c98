use Rattle.std.proofs.Common.{arith}
use Rattle.std.proofs.lemmas.Grind.{common_steps}
use Rattle.std.proofs.Math.ListN.{set}
use Rattle.std.proofs.lemmas.List.{length-set, take_at}
use Rattle.std.proofs.lemmas.Nat.{one_shl}
use Rattle.mine_rows.proofs.WordLemmas.{words_set}
use Rattle.mine_rows.proofs.row_words.set.Goals as goal

pub returns-clause-set : goal.returns-clause-set
returns-clause-set c = λ test with_tid are one same. grind (arith, common_steps, take_at, set, length-set, one_shl, words_set)
