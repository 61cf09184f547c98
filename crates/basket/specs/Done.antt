-- What a run comes to beside its report.
use Rattle.std.specs.Prelude.{◌≡◌, ℕ, List, [], Option, Some, None, IfOk, IfSome}
use Rattle.basket.specs.declared.done.Done.{Done}
use Rattle.basket_mining.specs.declared.mining.Work.{Work}
use Rattle.basket_mining.specs.Greatest.{greatest_support}
use Rattle.basket_mining.specs.Mining.{work_of}
use Rattle.basket_plan.specs.declared.plan.Ask.{Ask}
use Rattle.basket_plan.specs.declared.plan.Ask.TheVariants.{Items}
use Rattle.basket_plan.specs.declared.plan.Miner.{Miner}
use Rattle.basket_plan.specs.Plan.{Question}
use Rattle.basket_outcome.specs.declared.contents.Contents.{Contents}
use Rattle.basket_outcome.specs.declared.contents.Contents.TheVariants as contents
use Rattle.basket_outcome.specs.Contents.{contents_of}
use Rattle.basket_sets.specs.declared.weighted.Weighted.{Weighted}

-- the work over baskets, unless items are asked for, which are counted and not mined
abbrev pub work_asked : Ask → Work → Option Work
work_asked Items work = None
work_asked _ work = Some work

-- what a run over baskets comes to
abbrev pub done_over : Miner → Question → List Weighted → Done
done_over miner question baskets = record { work = work_asked question.ask (work_of miner baskets question.minimum); greatest = Some (greatest_support baskets) }

-- what a run comes to over what an input says: counted sets are not mined
abbrev pub done_for : Miner → Question → Contents → Done
done_for miner question (contents.Baskets baskets names) = done_over miner question baskets
done_for miner question (contents.Counts lines names) = record { work = None; greatest = None }

-- that is what a run by this miner comes to over what a reader had left
abbrev pub IsDoneFor : Miner → Question → Option (List ℕ) → Done → Type 0
IsDoneFor miner question left done = IfSome left (λ bytes. IfOk (contents_of question.layout [] bytes) (λ contents. done ≡ done_for miner question contents))
