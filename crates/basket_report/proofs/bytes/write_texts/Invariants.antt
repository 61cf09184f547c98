use Rattle.std.proofs.Common.{take}
use Rattle.basket_report.specs.Bytes.{IsWritten, joined}
use Rattle.basket_report.proofs.bytes.write_texts.Given as goal

abbrev pub invariant-loop-text : goal.invariant-loop-text
invariant-loop-text g l = IsWritten (g.W.Sink.taken l.fn.writer) (g.W.Sink.taken l.writer) (g.W.Sink.has_failed l.writer) (g.W.Sink.ends_in_flush l.writer) (joined (take l.text-index l.texts))
