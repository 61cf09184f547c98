use Rattle.std.proofs.Common.{◌-◌, ap, ◌∙◌, arith, Some}
use Rattle.std.proofs.lemmas.Result.{err_from_is_err_and}
use Rattle.basket_read.specs.declared.fault.ReadFault.TheVariants.{TooLong}
use Rattle.basket_read.specs.Fimi.{text_of, or_else}
use Rattle.basket_read.proofs.InputLemmas.{text_so_far, with_text, text_fault, long_fault}
use Rattle.basket_read.proofs.input.Input.take_text.Goals as goal

pub returns-in_err-feed : goal.returns-in_err-feed
returns-in_err-feed g c = λ counting bytes r.
    let p = err_from_is_err_and c.from_residual.result c.from_residual.ensures.1 in
    let room = 4294967295 - c.args.self.now.taken in
    rw (p.1, p.2) (λ no_memory.
    long_fault c.args.self.now counting bytes r c.args.piece.now room c.requires.decided (omega (arith, r.few, r.taken)) c.if-piece-room.true
    ∙ ap (λ f. or_else f (Some TooLong)) (c.in_err-feed.ensures counting (text_of bytes) (text_so_far c.args.self.now counting bytes r c.requires.decided).1 no_memory))

pub returns-then-piece-room : goal.returns-then-piece-room
returns-then-piece-room g c = λ counting bytes r _.
    let room = 4294967295 - c.args.self.now.taken in
    long_fault c.args.self.now counting bytes r c.args.piece.now room c.requires.decided (omega (arith, r.few, r.taken)) c.if-piece-room.true
    ∙ ap (λ f. or_else f (Some TooLong)) (c.in_ok-feed.ensures counting (text_of bytes) (text_so_far c.args.self.now counting bytes r c.requires.decided).1).faultless

pub returns-in_err-feed-2 : goal.returns-in_err-feed-2
returns-in_err-feed-2 g c = λ counting bytes r.
    let p = err_from_is_err_and c.from_residual-in_err-feed-2.result c.from_residual-in_err-feed-2.ensures.1 in
    rw (p.1, p.2) (λ no_memory.
    text_fault c.args.self.now counting bytes r c.args.piece.now c.in_err-feed-2.field-0.0 c.requires.decided (omega (arith, r.few, r.taken))
    (c.in_err-feed-2.ensures counting (text_of bytes) (text_so_far c.args.self.now counting bytes r c.requires.decided).1 no_memory))

pub returns : goal.returns
returns g c = λ counting bytes r.
    with_text c.args.self.now counting bytes r c.feed-2.new.text c.args.piece.now c.requires.decided (omega (arith, r.few, r.taken))
    (c.in_ok-feed-2.ensures counting (text_of bytes) (text_so_far c.args.self.now counting bytes r c.requires.decided).1)
