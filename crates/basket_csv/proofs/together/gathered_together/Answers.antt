use Rattle.std.proofs.Common.{◌++◌, ◌∙◌, [], ap, append_assoc, refl, subst, sym, arith}
use denote.Param.Send.{sendable}
use Rattle.std.specs.Prelude.{IfOk}
use Rattle.basket_csv.specs.Rows.{InParts}
use Rattle.basket_csv.specs.Together.{IsNumbered}
use Rattle.basket_csv.proofs.RowsLemmas.{in_at, in_made}
use Rattle.basket_csv.proofs.together.gathered_together.Goals as goal

pub map_vec-requires-after_bounds : goal.map_vec-requires-after_bounds
map_vec-requires-after_bounds g c κs within i x below is =
    let (names, rows, parts) = c.requires in
    let (own, h) = in_at (IsNumbered g.G.Gathering.has g.G.Gathering.names_of c.args.reading names) c.args.parts.items rows i x parts below is in
    (c.args.reading, names, own, h)

pub loop-part-init : goal.loop-part-init
loop-part-init g c =
    let has = g.G.Gathering.has in
    let names_of = g.G.Gathering.names_of in
    let reading = c.args.reading in
    record {
      can = tt;
      ends = tt;
      all = λ names rows parts. (
        [],
        rows,
        refl,
        refl,
        subst (λ l. InParts (λ part own. IfOk part (λ all. has all reading names own)) l rows) (sym c.into_iter-part-iterator.ensures.into_iter_gives.0)
            (in_made (IsNumbered has names_of reading names) (λ part own. IfOk part (λ all. has all reading names own)) c.args.parts.items c.in_ok-renamed.renamed.items rows parts
            (omega (arith, c.in_ok-renamed.ensures.len, c.in_ok-renamed.renamed.ok.0, c.args.parts.ok.0))
            (λ i d part own below at h.
            let gives = (c.in_ok-renamed.ensures.each i d below).1 in
            gives.call.met reading names own (subst (λ p. IsNumbered has names_of reading names p own) (at ∙ gives.job_is part) h))),
      );
    }

pub joined-requires : goal.joined-requires
joined-requires g c =
    let has = g.G.Gathering.has in
    let reading = c.args.reading in
    let (names, rows, parts) = c.requires in
    let (done, rest, cut, so_far, left) = c.loop-part.invariant.all names rows parts in
    let (own, next, more, mine, in_rest) = subst (λ l. InParts (λ part own. IfOk part (λ all. has all reading names own)) l rest) c.in-Some.ensures.steps.0 left in
    (search sendable, (reading, names, own, subst (λ r. IfOk r (λ all. has all reading names own)) c.in_ok-part.was mine))

pub loop-part-preserved : goal.loop-part-preserved
loop-part-preserved g c =
    let has = g.G.Gathering.has in
    let reading = c.args.reading in
    record {
      can = tt;
      ends = tt;
      all = λ names rows parts.
          let (done, rest, cut, so_far, left) = c.loop-part.invariant.all names rows parts in
          let (own, next, more, mine, in_rest) = subst (λ l. InParts (λ part own. IfOk part (λ all. has all reading names own)) l rest) c.in-Some.ensures.steps.0 left in (
            done ++ own,
            next,
            cut ∙ ap (λ r. done ++ r) more ∙ sym (append_assoc done own next),
            c.in_ok-joined.ensures reading names done own so_far (subst (λ r. IfOk r (λ all. has all reading names own)) c.in_ok-part.was mine),
            in_rest,
          );
    }
