use Rattle.std.proofs.Common.{◌≡◌, ◌++◌, ℕ, List, Option, take, length, length-append, unwrap_or, Err, sym, ap, ◌∙◌, subst, arith}
use Rattle.std.proofs.lemmas.List.{length-take}
use Rattle.std.proofs.lemmas.Result.{err_from_is_err_and}
use Rattle.std.specs.Io.KnownBytes.{Consumes}
use Rattle.basket_read.specs.declared.fault.ReadFault.TheVariants.{Read}
use Rattle.std.proofs.KnownBytes.{Consumes-trans}
use Rattle.basket_read.proofs.ReadLemmas.{ended, some_gathered, stopped, stops_failed, stops_fault}
use Rattle.basket_read.proofs.batches.read_batches.Goals as goal

-- a batch comes after what was given before
taken_in : (old between new : Option (List ℕ)) (given batch items : List ℕ) (count : ℕ) → batch ≡ items → Consumes old between given → Consumes between new (take count items)
    → Consumes old new (given ++ take count batch)
taken_in old between new given batch items count same p q = Consumes-trans old between new given (take count batch) p (subst (λ l. Consumes between new (take count l)) (sym same) q)

pub returns-in_err-take-clause-read : goal.returns-in_err-take-clause-read
returns-in_err-take-clause-read g c =
    let read = c.reading.invariant.read in
    let p = err_from_is_err_and c.from_residual-in_err-take.result c.from_residual-in_err-take.ensures.1 in
    let batch = take c.in_ok-count.count c.deref.result.now in
    stopped c.args.counting _ _ _ c.from_residual-in_err-take.result c.in_err-take.field-0.0 (p.1 ∙ ap Err p.2)
    (stops_fault _ _ _ (read.0 ++ batch) c.in_err-take.field-0.0 (taken_in _ _ _ read.0 _ _ c.in_ok-count.count c.deref.ensures.value read.1 c.in_ok-count.ensures.given)
    (c.in_err-take.ensures c.args.counting read.0 read.2))

pub returns-then-failed-clause-read : goal.returns-then-failed-clause-read
returns-then-failed-clause-read g c =
    let read = c.reading.invariant.read in
    let batch = take c.in_ok-count.count c.deref.result.now in
    let on = c.in_ok-take.ensures c.args.counting read.0 read.2 in
    stops_failed _ _ _ (read.0 ++ batch) c.unwrap_or.result (sym c.failed.ensures ∙ c.if-failed.true) (taken_in _ _ _ read.0 _ _ c.in_ok-count.count c.deref.ensures.value read.1 c.in_ok-count.ensures.given)
    (c.unwrap_or.ensures ∙ ap (λ found. unwrap_or found Read) (c.fault_so_far.ensures c.args.counting (read.0 ++ batch) on))

pub returns-then-count-most-clause-read : goal.returns-then-count-most-clause-read
returns-then-count-most-clause-read g c =
    let read = c.reading.invariant.read in
    let batch = take c.in_ok-count.count c.deref.result.now in
    let on = c.in_ok-take.ensures c.args.counting read.0 read.2 in
    let working = sym c.failed.ensures ∙ c.if-failed.false in
    ended c.args.counting _ _ _ (read.0 ++ batch) c.finish.result working (taken_in _ _ _ read.0 _ _ c.in_ok-count.count c.deref.ensures.value read.1 c.in_ok-count.ensures.given)
    (c.in_ok-count.ensures.ended working c.if-count-most.true) (c.finish.ensures c.args.counting (read.0 ++ batch) on)

pub returns-then-count-most-clause-some : goal.returns-then-count-most-clause-some
returns-then-count-most-clause-some g c =
    let read = c.reading.invariant.read in
    some_gathered c.args.counting c.finish.result _ (c.finish.ensures c.args.counting _ (c.in_ok-take.ensures c.args.counting read.0 read.2))

pub reading-smaller : goal.reading-smaller
reading-smaller g c =
    let read = c.reading.invariant.read in
    let batch = take c.in_ok-count.count c.deref.result.now in
    let on = c.in_ok-take.ensures c.args.counting read.0 read.2 in
    let sum = length-append read.0 batch in
    let some = length-take c.in_ok-count.count c.deref.result.now in
    omega (arith, read.2.taken, on.taken, on.few, sum, some, ap length c.deref.ensures.value, c.in_ok-count.ensures.within, c.if-count-most.false, c.requires.some)

pub reading-preserved : goal.reading-preserved
reading-preserved g c =
    let read = c.reading.invariant.read in
    let batch = take c.in_ok-count.count c.deref.result.now in
    let on = c.in_ok-take.ensures c.args.counting read.0 read.2 in
    record {
      unfailed = sym c.failed.ensures ∙ c.if-failed.false;
      «open» = c.in_ok-count.ensures.«open» c.if-count-most.false;
      read = (read.0 ++ batch, taken_in _ _ _ read.0 _ _ c.in_ok-count.count c.deref.ensures.value read.1 c.in_ok-count.ensures.given, on);
    }
