use Rattle.std.proofs.Common.{refl, sym, ◌∙◌}
use Rattle.basket_read.specs.Cut.{cut_at}
use Rattle.basket_counts.specs.Counts.{is_open}
use Rattle.basket_counts.proofs.LineLemmas.{tail_good, tail_so_far, tail_took}
use Rattle.basket_counts.proofs.line.SetLine.take.Goals as goal

pub returns-in-Some-clause-line : goal.returns-in-Some-clause-line
returns-in-Some-clause-line c = λ line s.
    let some = sym c.is_there.ensures ∙ c.if-is_there.true in
    tail_took c.args.self.now line s some _ c.args.byte c.in-Some.tail
    (sym c.in-Some.is ∙ c.with.ensures (cut_at is_open line).last (tail_good c.args.self.now line s some) (tail_so_far c.args.self.now line s some)) refl refl
