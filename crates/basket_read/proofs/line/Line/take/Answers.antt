use Rattle.std.proofs.Common.{refl}
use Rattle.std.proofs.lemmas.Bool.{ne_eqb}
use Rattle.std.proofs.lemmas.Result.{IfOk-weaker}
use Rattle.basket_read.specs.Cut.{cut_at}
use Rattle.basket_read.specs.Fimi.{is_times}
use Rattle.basket_read.proofs.LineLemmas.{numbers_so_far, took}
use Rattle.basket_read.proofs.line.Line.take.Goals as goal

pub returns : goal.returns
returns c = λ line s.
    IfOk-weaker c.take.result _ _ (λ taken numbers. took c.args.self.now line s taken _ c.args.byte (ne_eqb c.args.byte 120 c.if-byte-eq120.false) refl numbers)
    (c.take.ensures (cut_at is_times line).last (numbers_so_far c.args.self.now line s))
