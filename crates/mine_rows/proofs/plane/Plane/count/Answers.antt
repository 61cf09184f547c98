use Rattle.std.proofs.Common.{take, ap, ◌∙◌}
use Rattle.mine_rows.specs.Bits.{shared_bits}
use Rattle.mine_rows.proofs.BitLemmas.{shared_front}
use Rattle.mine_rows.proofs.plane.Plane.count.Goals as goal

pub returns : goal.returns
returns c =
    let plane = c.args.self.now in
    let words = c.args.words.now.items in
    c.and_count.ensures ∙ ap (λ l. shared_bits (take plane.used l) (take plane.used c.as_slice-2.result.now)) c.as_slice.ensures
    ∙ ap (λ l. shared_bits (take plane.used words) (take plane.used l)) c.as_slice-2.ensures ∙ shared_front plane.used words plane.words.items plane.ended
