use Rattle.std.proofs.Common.{◌+◌, ◌-◌, ◌/◌, sym, subst, arith}
use Rattle.std.specs.Result.{IfOk}
use Rattle.std.proofs.lemmas.List.{with_items_is}
use Rattle.basket_rules.specs.Covered.{AreMarks, IsBetween}
use Rattle.basket_rules.proofs.shared.+halves.Goals as goal

pub covered_range-returns : goal.covered_range-returns
covered_range-returns g t c =
    let list = c.args.covering.sets.now in
    let supersets = c.args.covering.supersets in
    let from = c.args.from in
    let end = c.args.end in
    let middle = from + (end - from) / 2 in
    let vec = c.in_ok-marks.marks in
    let new = c.add_marks.new.marks in
    let first : AreMarks list supersets (IsBetween from middle) vec.items = subst (λ r. IfOk r (λ marks. AreMarks list supersets (IsBetween from middle) marks.items)) c.in_ok-marks.was c.both_halves-marks.ensures.marks in
    let later : AreMarks list supersets (IsBetween middle end) c.in_ok-others.field-0.items = subst (λ r. IfOk r (λ marks. AreMarks list supersets (IsBetween middle end) marks.items)) c.in_ok-others.was c.both_halves-marks.ensures.others in
    let all : AreMarks list supersets (IsBetween from end) new = c.add_marks.ensures list supersets from middle end
    (subst (AreMarks list supersets (IsBetween from middle)) (sym c.deref_mut.ensures.value) first) (subst (AreMarks list supersets (IsBetween middle end)) (sym c.deref.ensures.value) later) in
    let before = first.long in
    let after = all.long in
    subst (AreMarks list supersets (IsBetween from end)) (sym (with_items_is vec new (omega (arith, vec.ok, before, after)))) all
