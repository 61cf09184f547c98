use Rattle.std.proofs.Common.{take}
use Rattle.basket_read.specs.Cut.{cut_at}
use Rattle.basket_read.specs.Fimi.{is_line_feed}
use Rattle.basket_read.proofs.TextLemmas.{line_so_far, goes_on}
use Rattle.basket_read.proofs.text.Text.take_run.Goals as goal

pub returns-clause-text : goal.returns-clause-text
returns-clause-text c = λ counting bytes t.
    goes_on c.args.self.now counting bytes t c.take_run.new.self (take c.in_ok-take_run.field-0 c.args.piece.now)
    (c.in_ok-take_run.ensures.line (cut_at is_line_feed bytes).last (line_so_far c.args.self.now counting bytes t))
