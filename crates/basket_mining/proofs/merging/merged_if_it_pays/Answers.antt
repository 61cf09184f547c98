use Rattle.std.proofs.Common.{ap}
use Rattle.std.proofs.lemmas.Result.{IfOk-weaker}
use Rattle.basket_mining.proofs.MiningLemmas.{merged_list, merged_total}
use Rattle.basket_mining.proofs.merging.merged_if_it_pays.Goals as goal

pub returns-clause-list : goal.returns-clause-list
returns-clause-list c = IfOk-weaker c.merged.result _ _ (λ merged is. merged_list c.args.coded merged is) c.merged.ensures

pub returns-clause-total : goal.returns-clause-total
returns-clause-total c = IfOk-weaker c.merged.result _ _ (λ merged is. merged_total c.args.coded merged is) c.merged.ensures

pub returns-clause-minimum : goal.returns-clause-minimum
returns-clause-minimum c = IfOk-weaker c.merged.result _ _ (λ merged is. ap (λ coding. coding.minimum) is) c.merged.ensures
