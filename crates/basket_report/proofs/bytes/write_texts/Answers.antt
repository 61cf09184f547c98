use Rattle.std.proofs.Common.{◌≡◌, false, take, sym, ◌∙◌, subst, arith}
use Rattle.std.proofs.lemmas.List.{take_all}
use Rattle.std.specs.Io.KnownBytes.{Appends}
use Rattle.basket_report.specs.Bytes.{joined}
use Rattle.basket_report.proofs.BytesLemmas.{front_on_err}
use Rattle.basket_report.proofs.bytes.write_texts.Goals as goal

pub returns-clause-err : goal.returns-clause-err
returns-clause-err g c =
    let texts = c.args.texts.now in
    let start = g.W.Sink.taken c.args.writer.now in
    let fresh : g.W.Sink.has_failed c.loop-text.writer ≡ false = sym c.failed.ensures ∙ c.if-failed.false in
    let all : take c.loop-text.text-index texts ≡ texts = take_all c.loop-text.text-index texts (omega (arith, c.loop-text-test.false)) in
    front_on_err c.flush.result start (g.W.Sink.taken c.loop-text.writer) (g.W.Sink.taken c.flush.new.self) (joined texts)
    (subst (λ some. Appends start (g.W.Sink.taken c.loop-text.writer) (joined some)) all (c.loop-text.invariant.working fresh)) c.flush.ensures.bytes
