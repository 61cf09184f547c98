use Rattle.std.proofs.Common.{◌+◌, ◌++◌, ◌∷◌, [], take, length, refl, subst, sym, arith}
use Rattle.std.proofs.lemmas.List.{take_all}
use Rattle.std.proofs.lemmas.Bool.{ltb-false}
use Rattle.std.proofs.lemmas.Result.{err_from_is_err_and}
use Rattle.basket_read.specs.Fault.{ReturnsFault}
use Rattle.basket_read.specs.Text.{IsTextSoFar}
use Rattle.basket_read.proofs.RunLemmas.{after_both}
use Rattle.basket_read.specs.Fimi.{fault_at, first_fault, is_line}
use Rattle.basket_read.proofs.theory.Grammar.{fault_in_piece, take_next}
use Rattle.basket_read.proofs.text.Text.feed.Goals as goal

pub returns-in_err-take-in-Some : goal.returns-in_err-take-in-Some
returns-in_err-take-in-Some c = λ counting bytes t.
    let i = c.loop-taken.taken + c.in_ok-taken.field-0 in
    let here = c.in-Some.ensures.lookup.3 in
    let so_far = subst (IsTextSoFar c.take_run.new.self counting) (after_both bytes c.args.piece.now c.loop-taken.taken c.in_ok-taken.field-0)
    (c.in_ok-taken.ensures.text counting (bytes ++ take c.loop-taken.taken c.args.piece.now) (c.loop-taken.invariant.text counting bytes t)) in
    let p = err_from_is_err_and c.from_residual-in_err-take-in-Some.result c.from_residual-in_err-take-in-Some.ensures.1 in
    rw (p.1, p.2) (fault_in_piece is_line fault_at refl bytes c.args.piece.now i c.in_err-take-in-Some.field-0.0 here.0
    (subst (λ byte. ReturnsFault c.in_err-take-in-Some.field-0.0 (first_fault ((bytes ++ take i c.args.piece.now) ++ byte ∷ []))) (here.1 0) (c.in_err-take-in-Some.ensures counting (bytes ++ take i c.args.piece.now) so_far)))

pub returns-in-None : goal.returns-in-None
returns-in-None c = λ counting bytes t.
    let i = c.loop-taken.taken + c.in_ok-taken.field-0 in
    let so_far = subst (IsTextSoFar c.take_run.new.self counting) (after_both bytes c.args.piece.now c.loop-taken.taken c.in_ok-taken.field-0)
    (c.in_ok-taken.ensures.text counting (bytes ++ take c.loop-taken.taken c.args.piece.now) (c.loop-taken.invariant.text counting bytes t)) in
    subst (λ l. IsTextSoFar c.take_run.new.self counting (bytes ++ l)) (take_all i c.args.piece.now (ltb-false i (length c.args.piece.now) (sym c.in-None.ensures.lookup.0))) so_far

pub loop-taken-preserved : goal.loop-taken-preserved
loop-taken-preserved c =
    let i = c.loop-taken.taken + c.in_ok-taken.field-0 in
    let here = c.in-Some.ensures.lookup.3 in
    record {
      within = omega (arith, here.0);
      text = λ counting bytes t.
          let so_far = subst (IsTextSoFar c.take_run.new.self counting) (after_both bytes c.args.piece.now c.loop-taken.taken c.in_ok-taken.field-0)
          (c.in_ok-taken.ensures.text counting (bytes ++ take c.loop-taken.taken c.args.piece.now) (c.loop-taken.invariant.text counting bytes t)) in
          subst (IsTextSoFar c.take.new.self counting) (take_next bytes c.args.piece.now i here.0)
          (subst (λ byte. IsTextSoFar c.take.new.self counting ((bytes ++ take i c.args.piece.now) ++ byte ∷ [])) (here.1 0) (c.in_ok-take-in-Some.ensures counting (bytes ++ take i c.args.piece.now) so_far));
    }
