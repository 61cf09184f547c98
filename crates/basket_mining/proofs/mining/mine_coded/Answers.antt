use Rattle.std.proofs.Common.{◌≡◌, ◌∙◌, sym}
use Rattle.basket_plan.specs.declared.plan.Miner.TheVariants.{Apriori, Eclat, EclatDiff, EclatBits, FpGrowth}
use Rattle.basket_mining.proofs.mining.mine_coded.Goals as goal

pub returns-in-Apriori-clause-work : goal.returns-in-Apriori-clause-work
returns-in-Apriori-clause-work g c =
    let is : c.args.plan.now.miner ≡ Apriori = sym c.miner.ensures ∙ c.in-Apriori.is in
    rw is c.by_apriori.ensures.work

pub returns-in-Eclat-clause-work : goal.returns-in-Eclat-clause-work
returns-in-Eclat-clause-work g c =
    let is : c.args.plan.now.miner ≡ Eclat = sym c.miner.ensures ∙ c.in-Eclat.is in
    rw is c.by_eclat.ensures.work

pub returns-in-EclatDiff-clause-work : goal.returns-in-EclatDiff-clause-work
returns-in-EclatDiff-clause-work g c =
    let is : c.args.plan.now.miner ≡ EclatDiff = sym c.miner.ensures ∙ c.in-EclatDiff.is in
    rw is c.by_eclat-in-EclatDiff.ensures.work

pub returns-in-EclatBits-clause-work : goal.returns-in-EclatBits-clause-work
returns-in-EclatBits-clause-work g c =
    let is : c.args.plan.now.miner ≡ EclatBits = sym c.miner.ensures ∙ c.in-EclatBits.is in
    rw is c.by_eclat-in-EclatBits.ensures.work

pub returns-in-FpGrowth-clause-work : goal.returns-in-FpGrowth-clause-work
returns-in-FpGrowth-clause-work g c =
    let is : c.args.plan.now.miner ≡ FpGrowth = sym c.miner.ensures ∙ c.in-FpGrowth.is in
    rw is c.by_fp_growth.ensures.work
