use Rattle.std.proofs.Common.{◌+◌, ◌++◌, ◌∷◌, [], ap, refl, ◌∙◌}
use Rattle.basket_csv.specs.Gathering.{HasRead}
use Rattle.basket_csv.proofs.SharedLemmas.{right_after}
use Rattle.basket_csv.proofs.shared.RightParts+Named+G.after.Goals as goal

pub returns : goal.returns
returns g c = λ reading first rest end part joins right.
    let later = c.args.self in
    right_after (HasRead g.G.Gathering.has g.G.Gathering.names_of reading []) (g.G.Gathering.fault_of reading.weighted) reading.dialect.separator c.args.header first rest later
    (record { parts = c.append.new.self; end = c.in_ok-end.end; before = c.in_ok-before.before; header = later.header }) c.args.read c.from.result
    (c.in_ok-append.ensures.items ∙ ap (λ l. l ++ later.parts.items) (c.in_ok-push.ensures.items ∙ ap (λ l. l ++ c.args.read.part ∷ []) c.in_ok-parts.ensures.items))
    (c.in_ok-end.ensures ∙ ap (λ n. n + later.end) end) c.in_ok-before.ensures refl c.from.ensures part joins right
