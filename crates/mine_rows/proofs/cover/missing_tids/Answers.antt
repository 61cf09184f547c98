use Rattle.std.proofs.Common.{◌≡◌, ◌<◌, ◌+◌, ◌++◌, ◌∷◌, [], get_or, length, subst, sym, ap, ◌∙◌, arith}
use Rattle.mine_rows.proofs.CoverLemmas.{IsReached, has_reached, lacking_more, lacking_same, lacks_reached, reached_found, reached_missed}
use Rattle.mine_rows.proofs.cover.missing_tids.Goals as goal
use Rattle.mine_rows.proofs.cover.missing_tids.Goals.{then-at-cover+then-cover-at, else-at-cover+in_ok-push, else-at-cover-via-then-at-cover+else-cover-at, else-at-cover-via-else-at-cover}

pub loop-tid-preserved : goal.loop-tid-preserved
loop-tid-preserved c =
    let cover = c.args.cover.now in
    let tid = c.loop-tid.tid in
    let at = c.loop-tid.at in
    let is = c.loop-tid.invariant.reached in
    elim c.if-at-cover.branch [
      | then-at-cover+then-cover-at w ↦
          (let here : at < length cover = omega (arith, w.if-at-cover.true) in
          let same : get_or cover at 0 ≡ tid = omega (arith, w.if-cover-at.true) in
          record {
            reached = subst (IsReached cover (tid + 1)) (sym w.at-is) (reached_found cover c.requires tid at is here same);
            tids = ap (λ v. v.items) w.tids-is ∙ c.loop-tid.invariant.tids ∙ sym (lacking_same cover tid (has_reached cover tid at here same));
          })
      | else-at-cover+in_ok-push w ↦
          (let never : at < length cover → get_or cover at 0 ≡ tid → ⊥ = λ here same. elim w.else-at-cover.branch [
            | else-at-cover-via-then-at-cover+else-cover-at v ↦ v.if-cover-at.false same
            | else-at-cover-via-else-at-cover v ↦ (let last = v.if-at-cover.false in absurd (omega arith))
          ] in
          record {
            reached = subst (IsReached cover (tid + 1)) (sym w.at-is) (reached_missed cover c.requires tid at is never);
            tids = ap (λ v. v.items) w.tids-is ∙ w.in_ok-push.ensures.items ∙ ap (λ l. l ++ tid ∷ []) c.loop-tid.invariant.tids
                ∙ sym (lacking_more cover tid (lacks_reached cover c.requires tid at is never));
          })
    ]
