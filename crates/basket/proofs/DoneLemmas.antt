-- What a run comes to beside its report.
use Rattle.std.proofs.Common.{◌≡◌, ◌≢◌, ◌∙◌, ℕ, List, [], Option, Some, None, Result, Ok, Err, ap, refl, subst, sym, arith}
use Rattle.std.proofs.lemmas.Grind.{common_steps}
use Rattle.std.specs.Prelude.{IfOk, IfSome}
use Rattle.basket_mining.specs.declared.mining.Work.{Work}
use Rattle.basket_mining.specs.Greatest.{greatest_support}
use Rattle.basket_mining.specs.Mining.{work_of}
use Rattle.basket_plan.specs.declared.plan.Ask.{Ask}
use Rattle.basket_plan.specs.declared.plan.Ask.TheVariants.{Items}
use Rattle.basket_plan.specs.declared.plan.Miner.{Miner}
use Rattle.basket_plan.specs.Plan.{Question}
use Rattle.basket_read.specs.declared.fault.ReadFault.{ReadFault}
use Rattle.basket_outcome.specs.declared.contents.Contents.{Contents}
use Rattle.basket_outcome.specs.declared.contents.Contents.TheVariants as contents
use Rattle.basket_outcome.specs.Contents.{contents_of}
use Rattle.basket_sets.specs.declared.weighted.Weighted.{Weighted}
use Rattle.basket.specs.declared.done.Done.{Done}
use Rattle.basket.specs.Done.{IsDoneFor, done_for, done_over, work_asked}

-- all but items is mined
pub mined : (ask : Ask) (work : Work) → ask ≢ Items → Some work ≡ work_asked ask work
mined h1 h2 h3 = grind (arith, common_steps)

-- items are counted and not mined
pub counted : (miner : Miner) (question : Question) (baskets : List Weighted) (greatest : ℕ) → question.ask ≡ Items → greatest ≡ greatest_support baskets
    → record { work = None; greatest = Some greatest } ≡ done_over miner question baskets
counted miner question baskets greatest items is =
    let same = sym items in
    λ i. record { work = work_asked (same i) (work_of miner baskets question.minimum); greatest = Some (is i) }

-- the input says baskets of which that is the greatest support
abbrev pub HasGreatest : Question → ℕ → List ℕ → Type 0
HasGreatest question greatest bytes = (baskets : List Weighted) × (names : Option (List (List ℕ)))
    × (contents_of question.layout [] bytes ≡ Ok (contents.Baskets baskets names)) × (greatest ≡ greatest_support baskets)

pub done_for_items : (miner : Miner) (question : Question) (left : Option (List ℕ)) (greatest : ℕ) → question.ask ≡ Items
    → IfSome left (HasGreatest question greatest) → IsDoneFor miner question left (record { work = None; greatest = Some greatest })
done_for_items miner question None greatest items said = tt
done_for_items miner question (Some bytes) greatest items (baskets, names, is, most) =
    subst (λ r. IfOk r (λ contents. record { work = None; greatest = Some greatest } ≡ done_for miner question contents)) (sym is) (counted miner question baskets greatest items most)

-- what is done over what an input says is that for its report
pub done_in : (miner : Miner) (question : Question) (left : Option (List ℕ)) (contents : Contents) (done : Done)
    → IfSome left (λ bytes. contents_of question.layout [] bytes ≡ Ok contents) → done ≡ done_for miner question contents → IsDoneFor miner question left done
done_in miner question None contents done said is = tt
done_in miner question (Some bytes) contents done said is = subst (λ r. IfOk r (λ c. done ≡ done_for miner question c)) (sym said) is
