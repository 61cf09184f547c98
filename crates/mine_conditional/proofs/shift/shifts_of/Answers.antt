use Rattle.std.proofs.Common.{◌≡◌, ◌+◌, ◌-◌, ◌<◌, ◌≤◌, ◌++◌, ◌∷◌, [], ℕ, List, get_or, length, map, sym, ap, ◌∙◌, subst, arith}
use Rattle.std.specs.Prelude.{bit_or}
use Rattle.std.proofs.lemmas.List.{get_or-map, length-map}
use Rattle.basket_sets.specs.Counts.{AllBelow}
use Rattle.basket_sets.specs.Itemset.{IsRising}
use Rattle.basket_sets.proofs.theory.Rising.{has_at}
use Rattle.mine_baskets.specs.declared.words.TheConstants.{WORD_RANKS}
use Rattle.mine_conditional.specs.declared.shift.Shift.{Shift}
use Rattle.mine_conditional.specs.Shift.{AreShifts}
use Rattle.mine_conditional.proofs.NumberLemmas.{index_le}
use Rattle.mine_conditional.proofs.ShiftLemmas.{fresh_shift, more_mask}
use Rattle.mine_conditional.proofs.shift.shifts_of.Goals as goal
use Rattle.mine_conditional.proofs.shift.shifts_of.Goals.{then-by-last+in_ok-push, else-by-last}

abbrev ranks_of : List (ℕ × ℕ) → List ℕ
ranks_of pairs = map (λ (pair : ℕ × ℕ). pair.0) pairs

-- the rank of a pair, between its number and the ranks of a word
rank_fits : (pairs : List (ℕ × ℕ)) (at : ℕ) → IsRising (ranks_of pairs) → AllBelow WORD_RANKS (ranks_of pairs) → at < length pairs
    → (at ≤ (get_or pairs at (0, 0)).0) × ((get_or pairs at (0, 0)).0 < WORD_RANKS) × (get_or (ranks_of pairs) at 0 ≡ (get_or pairs at (0, 0)).0)
rank_fits pairs at up below less =
    let here : at < length (ranks_of pairs) = omega (arith, less, length-map pairs (λ (pair : ℕ × ℕ). pair.0)) in
    let is = get_or-map (λ (pair : ℕ × ℕ). pair.0) pairs at (0, 0) 0 less in
    let low = index_le (ranks_of pairs) at up here in
    let high = below (get_or (ranks_of pairs) at 0) (has_at (ranks_of pairs) at here) in
    (omega arith, omega arith, is)

pub overflow_cast-by : goal.overflow_cast-by
overflow_cast-by c =
    let fits = rank_fits c.args.pairs.now c.loop-number.number c.requires.rises c.requires.below c.loop-number-test.true in
    omega (arith, fits.0, fits.1)

pub overflow_sub-by : goal.overflow_sub-by
overflow_sub-by c = (rank_fits c.args.pairs.now c.loop-number.number c.requires.rises c.requires.below c.loop-number-test.true).0

pub bit_of-requires : goal.bit_of-requires
bit_of-requires c =
    let fits = rank_fits c.args.pairs.now c.loop-number.number c.requires.rises c.requires.below c.loop-number-test.true in
    omega (arith, fits.0, fits.1)

pub loop-number-preserved : goal.loop-number-preserved
loop-number-preserved c =
    let kept = ranks_of c.args.pairs.now in
    let at = c.loop-number.number in
    let rank = (get_or c.args.pairs.now at (0, 0)).0 in
    let fits = rank_fits c.args.pairs.now at c.requires.rises c.requires.below c.loop-number-test.true in
    let below : rank < WORD_RANKS = fits.1 in
    let low : at ≤ rank = fits.0 in
    let shifts = c.if-by-last.shifts.items in
    let last = c.if-by-last.last in
    let so_far = c.loop-number.invariant in
    let both : (at + last.by ≡ rank) × AreShifts kept at (shifts ++ last ∷ []) =
    elim c.if-by-last.branch [
      | then-by-last+in_ok-push w ↦
          (let by : at + (rank - at) ≡ rank = omega arith in (
            ap (λ (shift : Shift). at + shift.by) w.last-is ∙ by,
            subst (AreShifts kept at) (λ i. sym (ap (λ v. v.items) w.shifts-is ∙ w.in_ok-push.ensures.ok) i ++ sym w.last-is i ∷ [])
                (fresh_shift kept at (rank - at) (c.loop-number.shifts.items ++ c.loop-number.last ∷ []) (omega arith) so_far),
          ))
      | else-by-last w ↦ (
        omega (arith, ap (λ (shift : Shift). shift.by) w.last-is, w.if-by-last.false),
        subst (AreShifts kept at) (λ i. sym (ap (λ v. v.items) w.shifts-is) i ++ sym w.last-is i ∷ []) so_far,
      )
    ] in
    subst (λ bit. AreShifts kept (at + 1) (shifts ++ record { by = last.by; mask = bit_or last.mask bit } ∷ [])) (sym c.bit_of.ensures)
    (more_mask kept at last.by shifts last.mask (both.0 ∙ sym fits.2) (omega (arith, below, fits.2)) both.1)
