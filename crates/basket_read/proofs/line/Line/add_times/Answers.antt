use Rattle.std.proofs.Common.{◌≤◌, leb, refl, ap, sym, ◌∙◌, arith}
use Rattle.std.specs.Prelude.{unwrap_or}
use Rattle.std.proofs.lemmas.Bool.{le-leb}
use Rattle.basket_read.proofs.LineLemmas.{ends_weight, times_told, takes_times}
use Rattle.basket_read.proofs.line.Line.add_times.Goals as goal

pub returns-then-weight-eq0 : goal.returns-then-weight-eq0
returns-then-weight-eq0 c = λ line byte times s.
    times_told c.args.self.now line s byte times ∙ (λ i. ends_weight (c.in_default.is i) (sym c.lone.ensures i)) ∙ ap (leb 1) (sym c.unwrap_or-weight.ensures ∙ c.if-weight-eq0.true)

pub returns : goal.returns
returns c = λ line byte times s.
    let weight = c.unwrap_or-weight.result in
    let some : 1 ≤ weight = let other = c.if-weight-eq0.false in omega arith in
    takes_times c.args.self.now line s byte times _ weight c.in_default.is (ap (λ n. unwrap_or n 0) (sym c.lone.ensures) ∙ sym c.unwrap_or-weight.ensures) some
    (times_told c.args.self.now line s byte times ∙ (λ i. ends_weight (c.in_default.is i) (sym c.lone.ensures i)) ∙ ap (leb 1) (sym c.unwrap_or-weight.ensures) ∙ le-leb 1 weight some)
    refl c.clear.ensures
