use Rattle.std.proofs.Common.{◌≡◌, false, take, sym, ◌∙◌, subst, arith}
use Rattle.std.proofs.lemmas.List.{take_all}
use Rattle.std.specs.Io.KnownBytes.{Appends}
use Rattle.basket_report.specs.Report.{report_of}
use Rattle.basket_report.specs.Style.{Numbered}
use Rattle.basket_report.proofs.BytesLemmas.{front_on_err}
use Rattle.basket_report.proofs.set_lines.SetLines.write.Goals as goal

pub returns-clause-err : goal.returns-clause-err
returns-clause-err g c =
    let sets = c.args.sets.now in
    let start = g.W.Sink.taken c.args.writer.now in
    let fresh : g.W.Sink.has_failed c.loop-index.writer ≡ false = sym c.failed.ensures ∙ c.if-failed.false in
    let all : take c.loop-index.index sets ≡ sets = take_all c.loop-index.index sets (omega (arith, c.len.ensures, c.loop-index-test.false)) in
    front_on_err c.flush.result start (g.W.Sink.taken c.loop-index.writer) (g.W.Sink.taken c.flush.new.self) (report_of Numbered sets)
    (subst (λ some. Appends start (g.W.Sink.taken c.loop-index.writer) (report_of Numbered some)) all (c.loop-index.invariant.way.working fresh)) c.flush.ensures.bytes
