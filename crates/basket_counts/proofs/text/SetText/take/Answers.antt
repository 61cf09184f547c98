use Rattle.std.proofs.Common.{◌+◌, ◌++◌, ◌∷◌, [], ap, subst, ◌∙◌, cond, Some, sym}
use Rattle.std.proofs.lemmas.Bool.{ne_eqb}
use Rattle.basket_read.specs.Cut.{cut_at}
use Rattle.basket_read.specs.Fimi.{is_line_feed}
use Rattle.basket_sets.specs.Number.{is_digit}
use Rattle.basket_read.specs.declared.fault.ReadFault.TheVariants.{Byte}
use Rattle.basket_counts.specs.Line.{digit_fault_in, IsTaken}
use Rattle.basket_counts.proofs.TextLemmas.{line_so_far, goes_on, refuses, takes_line_feed}
use Rattle.basket_counts.proofs.text.SetText.take.Goals as goal

pub returns-then-byte-eq10 : goal.returns-then-byte-eq10
returns-then-byte-eq10 c = λ line bytes t.
    takes_line_feed c.args.self.now line bytes t _ c.args.byte (ap is_line_feed c.if-byte-eq10.true) c.in_ok-end_line.ensures.line
    ((rw c.in_ok-self.ensures.ok_part at c.checked_add.ensures).1 ∙ ap (λ n. n + 1) c.in_ok-end_line.ensures.ended) c.in_ok-end_line.ensures.listed

pub returns-then-not-branch : goal.returns-then-not-branch
returns-then-not-branch c = λ line bytes t no_memory.
    refuses c.args.self.now line bytes t c.args.byte (ne_eqb c.args.byte 10 c.if-byte-eq10.false)
    (subst (λ taken. IsTaken taken c.take.new.self ((cut_at is_line_feed bytes).last ++ c.args.byte ∷ [])) c.if-not-branch.true (c.in_ok-take.ensures.line (cut_at is_line_feed bytes).last (line_so_far c.args.self.now line bytes t)))
    ∙ ap (λ tail. Some (cond (is_digit c.args.byte) (digit_fault_in tail (c.args.self.now.ended + 1) c.args.byte) (Byte (c.args.self.now.ended + 1) c.args.byte)))
    (sym (c.in_ok-take.ensures.refused c.if-not-branch.true))
    ∙ c.fault_at.ensures no_memory

pub returns : goal.returns
returns c = λ line bytes t.
    goes_on c.args.self.now line bytes t c.take.new.self (c.args.byte ∷ [])
    (subst (λ taken. IsTaken taken c.take.new.self ((cut_at is_line_feed bytes).last ++ c.args.byte ∷ [])) c.if-not-branch.false (c.in_ok-take.ensures.line (cut_at is_line_feed bytes).last (line_so_far c.args.self.now line bytes t)))
