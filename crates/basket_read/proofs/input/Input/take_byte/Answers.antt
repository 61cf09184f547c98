use Rattle.std.proofs.Common.{◌≡◌, arith}
use Rattle.std.proofs.lemmas.Result.{err_from_is_err_and}
use Rattle.basket_read.proofs.InputLemmas.{mark_so_far, half_mark, first_fault_is, takes_first}
use Rattle.basket_read.proofs.input.Input.take_byte.Goals as goal
use Rattle.basket_read.proofs.input.Input.take_byte.Goals.{else-self-lt3-via-then-self-lt3+else-byte-self, else-self-lt3-via-else-self-lt3}

pub returns-then-self-gt0 : goal.returns-then-self-gt0
returns-then-self-gt0 c = λ counting bytes r _.
    half_mark c.args.self.now counting bytes r c.args.byte c.requires (elim c.else-self-lt3.branch [ else-self-lt3-via-then-self-lt3+else-byte-self w ↦ (λ _. w.if-byte-self.false) | else-self-lt3-via-else-self-lt3 w ↦ (λ few. absurd (let above = w.if-self-lt3.false in omega arith)) ]) c.if-self-gt0.true

pub returns-in_err-feed : goal.returns-in_err-feed
returns-in_err-feed c = λ counting bytes r.
    let p = err_from_is_err_and c.from_residual.result c.from_residual.ensures.1 in
    let none : c.args.self.now.taken ≡ 0 = let few = c.if-self-gt0.false in omega arith in
    rw (p.1, p.2) (first_fault_is c.args.self.now counting bytes r c.args.byte c.requires none (elim c.else-self-lt3.branch [ else-self-lt3-via-then-self-lt3+else-byte-self w ↦ (λ _. w.if-byte-self.false) | else-self-lt3-via-else-self-lt3 w ↦ (λ few. absurd (let above = w.if-self-lt3.false in omega arith)) ]) c.in_err-feed.field-0.0
    (c.in_err-feed.ensures counting _ (mark_so_far c.args.self.now counting bytes r c.requires).1))

pub returns : goal.returns
returns c = λ counting bytes r.
    let none : c.args.self.now.taken ≡ 0 = let few = c.if-self-gt0.false in omega arith in
    takes_first c.args.self.now counting bytes r c.args.byte c.requires none (elim c.else-self-lt3.branch [ else-self-lt3-via-then-self-lt3+else-byte-self w ↦ (λ _. w.if-byte-self.false) | else-self-lt3-via-else-self-lt3 w ↦ (λ few. absurd (let above = w.if-self-lt3.false in omega arith)) ]) c.feed.new.self
    (c.in_ok-feed.ensures counting _ (mark_so_far c.args.self.now counting bytes r c.requires).1)
