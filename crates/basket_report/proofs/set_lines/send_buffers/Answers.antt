use Rattle.std.proofs.Common.{◌≡◌, ◌++◌, take, sym, ap, ◌∙◌, subst, arith}
use Rattle.std.proofs.lemmas.Grind.{common_steps}
use Rattle.basket_report.specs.Report.{report_of}
use Rattle.basket_report.specs.LineBuffer.{HasLines}
use Rattle.basket_report.specs.Style.{Numbered}
use Rattle.basket_report.proofs.set_lines.send_buffers.Goals as goal

pub loop-buffer-preserved : goal.loop-buffer-preserved
loop-buffer-preserved g c =
    let l = c.loop-buffer in
    let sets = c.args.sets.now in
    let buffer = c.buffer-item.result in
    let has : HasLines sets buffer = subst (HasLines sets) (sym c.buffer-item.is) (c.requires.buffers l.buffer-index buffer c.loop-buffer-test.true) in
    let from : buffer.from ≡ l.next = sym c.from.ensures ∙ c.if-from-next.false in
    let lines : report_of Numbered (take l.next sets) ++ c.text.result.now ≡ report_of Numbered (take c.to-next.result sets) =
    ap (λ n. report_of Numbered (take n sets) ++ c.text.result.now) (sym from) ∙ ap (λ t. report_of Numbered (take buffer.from sets) ++ t) c.text.ensures
    ∙ has.lines ∙ ap (λ n. report_of Numbered (take n sets)) (sym c.to-next.ensures) in
    grind (arith, common_steps)
