use Rattle.std.proofs.Common.{sym, subst}
use Rattle.std.specs.Prelude.{OnErr}
use Rattle.basket_report.specs.Bytes.{TakesPrefix}
use Rattle.basket_outcome.specs.declared.prepared.PreparedReport.{PreparedReport}
use Rattle.basket_outcome.specs.Prepared.{prepared_text}
use Rattle.basket_outcome.proofs.prepared.PreparedReport.write.Goals as goal

pub returns-in-Sets-clause-err : goal.returns-in-Sets-clause-err
returns-in-Sets-clause-err g c =
    subst (λ (made : PreparedReport). OnErr c.write.result (TakesPrefix (g.W.Sink.taken c.args.writer.now) (g.W.Sink.taken c.write.new.writer) (prepared_text made))) (sym c.in-Sets.is) c.write.ensures.err
