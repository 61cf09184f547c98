-- How much a miner does for the frequent sets of a database.
use Rattle.std.specs.Prelude.{◌≡◌, List}
use Rattle.basket_mining.specs.declared.mining.Work.{Work}
use Rattle.basket_plan.specs.declared.plan.Miner.{Miner}
use Rattle.basket_plan.specs.declared.plan.Miner.TheVariants.{Apriori, Eclat, EclatDiff, EclatBits, FpGrowth}
use Rattle.basket_ranks.specs.Codes.{Coding, coding_of}
use Rattle.basket_sets.specs.declared.minimum.Minimum.{Minimum}
use Rattle.basket_sets.specs.declared.weighted.Weighted.{Weighted}
use Rattle.mine_apriori.specs.Work.{candidate_count}
use Rattle.mine_vertical.specs.Joins.{joins_of}
use Rattle.mine_fp.specs.Trees.{trees_of}

-- the candidates of Apriori
abbrev pub candidate_work : List Weighted → Minimum → Work
candidate_work baskets minimum = record { candidates = candidate_count baskets minimum; joins = 0; trees = 0 }

-- the joins of Eclat
abbrev pub join_work : List Weighted → Minimum → Work
join_work baskets minimum = record { candidates = 0; joins = joins_of (coding_of baskets minimum); trees = 0 }

-- the conditional trees of FP-growth
abbrev pub tree_work : List Weighted → Minimum → Work
tree_work baskets minimum = record { candidates = 0; joins = 0; trees = trees_of (coding_of baskets minimum) }

-- the work of a miner: the candidates of Apriori, the joins of Eclat, the conditional trees of FP-growth
abbrev pub work_of : Miner → List Weighted → Minimum → Work
work_of Apriori = candidate_work
work_of Eclat = join_work
work_of EclatDiff = join_work
work_of EclatBits = join_work
work_of FpGrowth = tree_work

abbrev pub IsWorkOf : Miner → List Weighted → Minimum → Work → Type 0
IsWorkOf miner baskets minimum work = work ≡ work_of miner baskets minimum

-- work over coded baskets is such work for each database that they come from
abbrev pub IsWorkOver : Coding → (List Weighted → Minimum → Work) → Work → Type 0
IsWorkOver coding such work = (baskets : List Weighted) (minimum : Minimum) → coding ≡ coding_of baskets minimum → work ≡ such baskets minimum
