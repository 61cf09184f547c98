use Rattle.std.proofs.Common.{◌++◌, ◌∙◌, [], subst, sym}
use denote.Param.Send.{sendable}
use Rattle.std.specs.Prelude.{IfOk}
use Rattle.std.proofs.lemmas.List.{take-append-drop}
use Rattle.basket_csv.specs.Gathering.{HasRead}
use Rattle.basket_csv.specs.Rows.{InParts}
use Rattle.basket_csv.specs.Together.{AreTogether, HaveParts}
use Rattle.basket_csv.proofs.RowsLemmas.{in_halves}
use Rattle.basket_csv.proofs.TogetherLemmas.{back_parts, front_parts}
use Rattle.basket_csv.proofs.together.+together.Goals as goal

pub all_together-both_together-first-requires-clause-parts : goal.all_together-both_together-first-requires-clause-parts
all_together-both_together-first-requires-clause-parts g t c κs within =
    let has = g.G.Gathering.has in
    let names_of = g.G.Gathering.names_of in
    let whole = sym (take-append-drop _ c.args.parts.items) ∙ (λ i. sym c.in_ok-later.ensures.items i ++ sym c.in_ok-later.ensures.tail i) in
    front_parts has names_of c.args.reading c.split_off.new.self.items c.in_ok-later.later.items (subst (HaveParts has names_of c.args.reading) whole c.requires)

pub all_together-both_together-first-requires-clause-others : goal.all_together-both_together-first-requires-clause-others
all_together-both_together-first-requires-clause-others g t c κs within =
    let has = g.G.Gathering.has in
    let names_of = g.G.Gathering.names_of in
    let whole = sym (take-append-drop _ c.args.parts.items) ∙ (λ i. sym c.in_ok-later.ensures.items i ++ sym c.in_ok-later.ensures.tail i) in
    back_parts has names_of c.args.reading c.split_off.new.self.items c.in_ok-later.later.items (subst (HaveParts has names_of c.args.reading) whole c.requires)

pub all_together-followed_by-requires : goal.all_together-followed_by-requires
all_together-followed_by-requires g t c =
    let has = g.G.Gathering.has in
    let names_of = g.G.Gathering.names_of in
    let reading = c.args.reading in
    let (rows, parts) = c.requires in
    let whole = sym (take-append-drop _ c.args.parts.items) ∙ (λ i. sym c.in_ok-later.ensures.items i ++ sym c.in_ok-later.ensures.tail i) in
    let (first, others, same, before, after) = in_halves (HasRead has names_of reading []) c.split_off.new.self.items c.in_ok-later.later.items rows (subst (λ l. InParts (HasRead has names_of reading []) l rows) whole parts) in
    (search (sendable, c.requires-raw), (reading, others, subst (λ r. IfOk r (λ all. AreTogether has names_of reading [] all.0 all.1.items others)) c.in_ok-later-2.was (c.both_together-first.ensures.others others after)))

pub all_together-returns : goal.all_together-returns
all_together-returns g t c = λ rows parts.
    let has = g.G.Gathering.has in
    let names_of = g.G.Gathering.names_of in
    let reading = c.args.reading in
    let whole = sym (take-append-drop _ c.args.parts.items) ∙ (λ i. sym c.in_ok-later.ensures.items i ++ sym c.in_ok-later.ensures.tail i) in
    let (first, others, same, before, after) = in_halves (HasRead has names_of reading []) c.split_off.new.self.items c.in_ok-later.later.items rows (subst (λ l. InParts (HasRead has names_of reading []) l rows) whole parts) in
    subst (λ r. IfOk c.followed_by.result (λ all. AreTogether has names_of reading [] all.0 all.1.items r)) (sym same)
    (c.followed_by.ensures reading [] first others
    (subst (λ r. IfOk r (λ all. AreTogether has names_of reading [] all.0 all.1.items first)) c.in_ok-first.was (c.both_together-first.ensures.parts first before))
    (subst (λ r. IfOk r (λ all. AreTogether has names_of reading [] all.0 all.1.items others)) c.in_ok-later-2.was (c.both_together-first.ensures.others others after)))
