use Rattle.std.proofs.Common.{[], arith}
use Rattle.std.proofs.lemmas.Grind.{common_steps}
use Rattle.std.proofs.lemmas.Bool.{eqb-true}
use Rattle.std.proofs.lemmas.List.{nil_from_length}
use Rattle.basket_csv.specs.Gathering.{HasRead}
use Rattle.basket_csv.proofs.SharedLemmas.{all_parts, all_right}
use Rattle.basket_csv.proofs.shared.read_all.Goals as goal

pub returns-then-is_empty-clause-fault : goal.returns-then-is_empty-clause-fault
returns-then-is_empty-clause-fault g c = grind (arith, common_steps, nil_from_length, eqb-true, all_right)

pub returns-then-is_empty-clause-parts : goal.returns-then-is_empty-clause-parts
returns-then-is_empty-clause-parts g c = grind (arith, common_steps, nil_from_length, eqb-true, all_right)

pub returns-clause-fault : goal.returns-clause-fault
returns-clause-fault g c =
    let header = c.args.reading.dialect.header in
    (all_parts (HasRead g.G.Gathering.has g.G.Gathering.names_of c.args.reading []) (g.G.Gathering.fault_of c.args.reading.weighted) c.args.reading.dialect.separator header c.args.bytes.now c.split_at.result.1.now c.in_ok-parts.field-0 c.in_ok-last.last c.push.new.self.items c.in_ok-parts.ensures c.split_at.ensures.back c.in_ok-last.ensures.part c.in_ok-push.ensures.items).0

pub returns-clause-parts : goal.returns-clause-parts
returns-clause-parts g c =
    let header = c.args.reading.dialect.header in
    (all_parts (HasRead g.G.Gathering.has g.G.Gathering.names_of c.args.reading []) (g.G.Gathering.fault_of c.args.reading.weighted) c.args.reading.dialect.separator header c.args.bytes.now c.split_at.result.1.now c.in_ok-parts.field-0 c.in_ok-last.last c.push.new.self.items c.in_ok-parts.ensures c.split_at.ensures.back c.in_ok-last.ensures.part c.in_ok-push.ensures.items).1
