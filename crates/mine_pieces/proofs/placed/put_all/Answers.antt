use Rattle.std.proofs.Common.{◌≡◌, ap, sym, ◌∙◌, subst}
use Rattle.std.specs.Vec.Iter.{into_iter_items}
use Rattle.std.proofs.lemmas.Bool.{false≢true}
use Rattle.mine_pieces.specs.Placed.{HaveRoom, placed}
use Rattle.mine_pieces.specs.WorkerResult.{numbers_of}
use Rattle.mine_pieces.proofs.theory.Placing.{next_lacks, room_next}
use Rattle.mine_pieces.proofs.placed.put_all.Goals as goal

pub loop-number-preserved : goal.loop-number-preserved
loop-number-preserved g c =
    let places = c.loop-number.collector in
    let piece = c.in-Some.number in
    let value = c.in-Some.value in
    let left = into_iter_items c.next.new.self in
    let steps = c.in-Some.ensures.steps.0 in
    let put : c.put.new.self ≡ _ = c.in-Ok.ensures.done in
    record {
      can = tt;
      ends = tt;
      room = subst (λ p. HaveRoom p (numbers_of left)) (sym put) (room_next places piece value (numbers_of left) (subst (λ l. HaveRoom places (numbers_of l)) steps c.loop-number.invariant.room));
      rest = ap (λ p. placed p left) put ∙ ap (placed places) (sym steps) ∙ c.loop-number.invariant.rest;
    }

pub unreachable-requires : goal.unreachable-requires
unreachable-requires g c =
    let lacks = next_lacks c.loop-number.collector c.in-Some.number (numbers_of (into_iter_items c.next.new.self))
    (subst (λ l. HaveRoom c.loop-number.collector (numbers_of l)) c.in-Some.ensures.steps.0 c.loop-number.invariant.room) in
    false≢true (c.in_default.ensures.ok.1 lacks)
