use Rattle.std.proofs.Common.{◌≡◌, ◌+◌, ◌++◌, ◌∷◌, [], take, refl, sym, ap, ◌∙◌, subst, arith}
use Rattle.std.proofs.lemmas.List.{take_all, take_rest}
use Rattle.std.proofs.lemmas.Result.{err_from_is_err_and}
use Rattle.basket_read.specs.Cut.{parts_of}
use Rattle.basket_read.specs.Fimi.{is_line_feed}
use Rattle.basket_read.specs.Fault.{ReturnsFault}
use Rattle.basket_counts.specs.Counts.{is_line, fault_at_from, fault_from, entries_from}
use Rattle.basket_counts.specs.ListedSets.{HasEntries}
use Rattle.basket_counts.specs.Text.{IsTextSoFar}
use Rattle.basket_read.proofs.theory.Grammar.{fault_in_piece, take_next}
use Rattle.basket_counts.proofs.TextLemmas.{run_taken, says_all}
use Rattle.basket_counts.proofs.text.listed_in.Goals as goal

pub returns-in_err-take-in-Some : goal.returns-in_err-take-in-Some
returns-in_err-take-in-Some c =
    let i = c.loop-text.taken + c.in_ok-taken.field-0 in
    let here = run_taken c.loop-text.text c.take_run.new.self (c.args.before + 1) c.args.bytes.now _ c.loop-text.taken c.in_ok-taken.field-0 c.loop-text.invariant.text (take_rest c.args.bytes.now c.loop-text.taken) c.in_ok-taken.ensures.line in
    let byte = c.in-Some.ensures.lookup.3 in
    let p = err_from_is_err_and c.from_residual-in_err-take-in-Some.result c.from_residual-in_err-take-in-Some.ensures.1 in
    rw (p.1, p.2) (fault_in_piece is_line (fault_at_from (c.args.before + 1)) refl [] c.args.bytes.now i c.in_err-take-in-Some.field-0.0 byte.0
    (subst (λ b. ReturnsFault c.in_err-take-in-Some.field-0.0 (fault_from (c.args.before + 1) (take i c.args.bytes.now ++ b ∷ []))) (byte.1 0)
    (c.in_err-take-in-Some.ensures (c.args.before + 1) (take i c.args.bytes.now) here)))

pub loop-text-preserved : goal.loop-text-preserved
loop-text-preserved c =
    let i = c.loop-text.taken + c.in_ok-taken.field-0 in
    let here = run_taken c.loop-text.text c.take_run.new.self (c.args.before + 1) c.args.bytes.now _ c.loop-text.taken c.in_ok-taken.field-0 c.loop-text.invariant.text (take_rest c.args.bytes.now c.loop-text.taken) c.in_ok-taken.ensures.line in
    let byte = c.in-Some.ensures.lookup.3 in
    record {
      within = omega (arith, byte.0);
      text = subst (IsTextSoFar c.take.new.self (c.args.before + 1)) (ap (λ b. take i c.args.bytes.now ++ b ∷ []) (byte.1 0) ∙ take_next [] c.args.bytes.now i byte.0)
          (c.in_ok-take-in-Some.ensures (c.args.before + 1) (take i c.args.bytes.now) here);
    }

pub returns-in-None : goal.returns-in-None
returns-in-None c =
    let i = c.loop-text.taken + c.in_ok-taken.field-0 in
    let here = run_taken c.loop-text.text c.take_run.new.self (c.args.before + 1) c.args.bytes.now _ c.loop-text.taken c.in_ok-taken.field-0 c.loop-text.invariant.text (take_rest c.args.bytes.now c.loop-text.taken) c.in_ok-taken.ensures.line in
    let all : take i c.args.bytes.now ≡ c.args.bytes.now = take_all i c.args.bytes.now c.in-None.ensures.lookup.3 in (
      ap (fault_from (c.args.before + 1)) (sym all) ∙ here.faultless,
      subst (λ l. HasEntries c.end_line.new.self.listed (entries_from (c.args.before + 1) (parts_of is_line_feed l))) all
          (says_all _ (c.args.before + 1) (take i c.args.bytes.now) here c.end_line.new.self.listed c.in_ok-end_line-in-None.ensures.listed),
    )
