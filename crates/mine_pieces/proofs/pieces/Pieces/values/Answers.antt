use Rattle.std.proofs.Common.{ap, ◌∙◌, arith}
use Rattle.std.proofs.lemmas.Grind.{common_steps}
use Rattle.std.proofs.lemmas.List.{append-nil}
use Rattle.std.proofs.lemmas.List.Concat.{flat_map-append}
use Rattle.mine_pieces.proofs.theory.Claims.{after, after-le, after_push}
use Rattle.mine_pieces.proofs.pieces.Pieces.values.Goals as goal

pub loop-piece-smaller : goal.loop-piece-smaller
loop-piece-smaller g c =
    let before = c.loop-piece.seat.held.claimed in
    let low = after-le before c.in-Some.piece c.in-Some.ensures.rises in
    let high = ap (λ h. after h.claimed) c.in-Some.ensures.piece.1 ∙ after_push before c.in-Some.piece c.in-Some.ensures.rises in
    let within = c.in-Some.ensures.piece.0 in omega arith

pub loop-piece-preserved : goal.loop-piece-preserved
loop-piece-preserved g c = grind (arith, common_steps, after, after_push, append-nil, flat_map-append)
