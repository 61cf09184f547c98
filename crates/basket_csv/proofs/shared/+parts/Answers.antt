use Rattle.std.proofs.Common.{◌≡◌, ◌++◌, [], sym, subst, take-append-drop, ◌∙◌, length}
use Rattle.std.specs.Result.{IfOk}
use Rattle.std.proofs.lemmas.Bool.{eqb-true}
use Rattle.std.proofs.lemmas.List.{nil_from_length}
use Rattle.basket_csv.specs.Gathering.{HasRead}
use Rattle.basket_csv.specs.Shared.{AreRight}
use Rattle.basket_csv.proofs.SharedLemmas.{nothing_after}
use Rattle.basket_csv.proofs.shared.+parts.Goals as goal

pub read_parts-returns-in-Ok : goal.read_parts-returns-in-Ok
read_parts-returns-in-Ok g t c =
    let whole : c.split_at.result.0.now ++ c.split_at.result.1.now ≡ c.args.bytes.now = (λ i. c.split_at.ensures.front i ++ c.split_at.ensures.back i) ∙ take-append-drop c.end_of_part-end.result c.args.bytes.now in
    let first = c.split_at.result.0.now in
    let rest = c.split_at.result.1.now in
    let none : rest ≡ [] = nil_from_length rest (eqb-true (length rest) 0 (sym c.is_empty.ensures ∙ c.if-is_empty.true)) in
    subst (λ bytes. IfOk c.after.result (AreRight (HasRead g.G.Gathering.has g.G.Gathering.names_of c.args.reading []) (g.G.Gathering.fault_of c.args.reading.weighted) c.args.reading.dialect.separator c.args.header bytes)) whole
    (c.after.ensures c.args.reading first rest (sym c.split_at.ensures.front_len) c.in-Ok.ensures.part (nothing_after c.args.reading.dialect.separator c.args.header first rest none) (c.none.ensures c.args.reading rest))
