use Rattle.mine_vertical.proofs.SiblingLemmas.{joined_stands, joined_support}
use Rattle.mine_vertical.proofs.joins.Joins.join.Goals as goal

pub returns-clause-row : goal.returns-clause-row
returns-clause-row g c = λ frequent baskets set pair.
    joined_stands g.R.Row.stands c.args.weights.now baskets set c.args.first.now c.args.second.now c.join.new.self pair (c.in_ok-frequent.ensures.row frequent)

pub returns-clause-support : goal.returns-clause-support
returns-clause-support g c = λ baskets set pair.
    joined_support g.R.Row.stands c.args.weights.now baskets set c.args.first.now c.args.second.now c.args.least c.in_ok-frequent.frequent pair c.in_ok-frequent.ensures.frequent
