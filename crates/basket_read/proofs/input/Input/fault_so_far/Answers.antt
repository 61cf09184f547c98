use Rattle.std.proofs.Common.{sym, arith}
use Rattle.std.proofs.lemmas.Grind.{common_steps}
use Rattle.basket_read.proofs.InputLemmas.{text_so_far, fault_few, no_bytes, half_a_mark}
use Rattle.basket_read.proofs.input.Input.fault_so_far.Goals as goal

pub returns-then-self : goal.returns-then-self
returns-then-self c = λ counting bytes r. grind (arith, common_steps, fault_few, text_so_far, no_bytes)

pub returns : goal.returns
returns c = λ counting bytes r. sym (half_a_mark c.args.self.now counting bytes r c.if-self.false c.if-self-eq0.false)
