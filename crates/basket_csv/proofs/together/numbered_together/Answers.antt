use Rattle.std.proofs.Common.{[], refl, subst, sym}
use denote.Param.Send.{sendable}
use Rattle.basket_csv.specs.Rows.{InParts}
use Rattle.basket_csv.specs.Together.{AreTogether, IsNumbered}
use Rattle.basket_names.specs.Names.{in_order}
use Rattle.basket_csv.proofs.together.numbered_together.Goals as goal

pub returns-then-is_empty : goal.returns-then-is_empty
returns-then-is_empty g c = λ rows parts.
    subst (λ known. AreTogether g.G.Gathering.has g.G.Gathering.names_of c.args.reading (in_order known) c.in_ok-all.all.0 c.in_ok-all.all.1.items rows) (sym (c.is_empty.ensures.0 c.if-is_empty.true)) (c.in_ok-all.ensures rows parts)

pub followed_by-requires : goal.followed_by-requires
followed_by-requires g c = let (rows, parts) = c.requires in (search sendable, (c.args.reading, rows, c.in_ok-all.ensures rows parts))

pub returns : goal.returns
returns g c = λ rows parts.
    c.followed_by.ensures c.args.reading (in_order c.args.known) [] rows
    (record { together = c.in_ok-known.ensures; each = subst (λ l. InParts (IsNumbered g.G.Gathering.has g.G.Gathering.names_of c.args.reading c.in_ok-known.known) l []) (sym c.new.ensures.items) refl })
    (c.in_ok-all.ensures rows parts)
