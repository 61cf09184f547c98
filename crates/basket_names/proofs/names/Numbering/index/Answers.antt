use Rattle.std.proofs.Common.{sym}
use Rattle.basket_names.proofs.theory.Names.{known_place}
use Rattle.basket_names.proofs.names.Numbering.index.Goals as goal

pub returns-in-Some : goal.returns-in-Some
returns-in-Some c =
    let (stay, index) = known_place c.self.inside.names.keys c.args.self.now c.args.name.now c.in-Some.index (sym c.self.view_is) (sym c.in-Some.ensures.index) in
    record { names = stay; number = index }
