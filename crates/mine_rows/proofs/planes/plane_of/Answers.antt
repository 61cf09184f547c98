use Rattle.std.proofs.Common.{ℕ, ◌+◌, ◌&&◌, ◌/◌, ◌%◌, ◌^◌, length, get_or, sym, ap, ◌∙◌, arith, false, ltb}
use Rattle.std.proofs.lemmas.Bool.{eq-eqb, le-ltb, ne_eqb}
use Rattle.mine_rows.specs.Bits.{word_count, words_from}
use Rattle.mine_rows.specs.Planes.{has_bit}
use Rattle.mine_rows.proofs.PlaneLemmas.{tid_apart, tid_in, tid_out, word_is_there}
use Rattle.mine_rows.proofs.WordLemmas.{length-words, words_none, words_same}
use Rattle.mine_rows.proofs.planes.plane_of.Goals as goal
use Rattle.mine_rows.proofs.planes.plane_of.Goals.{then-weight-bit-eq1, else-weight-bit-eq1}

pub loop-tid-init : goal.loop-tid-init
loop-tid-init c =
    let n = word_count (length c.args.weights.now) in
    let none = words_same (λ t. ltb t 0 && has_bit c.args.bit (get_or c.args.weights.now t 0)) (λ t. false) 0 n
    (λ t low. ap (λ b. b && has_bit c.args.bit (get_or c.args.weights.now t 0)) (le-ltb t 0 (omega arith))) ∙ words_none 0 n in c.in_ok-words.ensures ∙ sym none

pub set-requires : goal.set-requires
set-requires c =
    let weights = c.args.weights.now in
    let i = c.loop-tid.tid in
    let long = ap length c.loop-tid.invariant ∙ length-words (λ t. ltb t i && has_bit c.args.bit (get_or weights t 0)) 0 (word_count (length weights)) in
    omega (arith, long, word_is_there i (length weights) c.loop-tid-test.true)

pub loop-tid-preserved : goal.loop-tid-preserved
loop-tid-preserved c =
    let weights = c.args.weights.now in
    let bit = c.args.bit in
    let i = c.loop-tid.tid in
    let n = word_count (length weights) in
    let has = λ (t : ℕ). has_bit bit (get_or weights t 0) in
    let before = λ (t : ℕ). ltb t i && has t in
    let after = λ (t : ℕ). ltb t (i + 1) && has t in
    elim c.if-weight-bit-eq1.branch [
      | then-weight-bit-eq1 w ↦
          (let old = c.loop-tid.invariant in
          let long = ap length old ∙ length-words before 0 n in
          ap (λ v. v.items) w.words-is
          ∙ w.set.ensures.set before after (old ∙ ap (words_from before 0) (sym long))
          (tid_in has i (eq-eqb (get_or weights i 0 / 2 ^ bit % 2) 1 w.if-weight-bit-eq1.true)) (λ t differ. tid_apart has i t differ)
          ∙ ap (words_from after 0) long)
      | else-weight-bit-eq1 w ↦
          (ap (λ v. v.items) w.words-is ∙ c.loop-tid.invariant
          ∙ sym (words_same after before 0 n (λ t low. tid_out has i (ne_eqb (get_or weights i 0 / 2 ^ bit % 2) 1 w.if-weight-bit-eq1.false) t)))
    ]
