use Rattle.std.proofs.Common.{◌≡◌, ap, sym, ◌∙◌, subst, arith, length, get_or, slice_index, []}
use Rattle.std.proofs.lemmas.Grind.{common_steps}
use Rattle.std.specs.Prelude.{slice_range}
use Rattle.std.proofs.lemmas.List.{take_at}
use Rattle.basket_ranks.specs.Shards.{shard_of}
use Rattle.basket_sets.specs.Support.{support_of, total_of}
use Rattle.mine_pieces.proofs.theory.Claims.{after, after-le, after_push}
use Rattle.mine_sets.proofs.SupportLemmas.{HasAdded, added_fits, index_zero, nothing_added, part_added, part_fits}
use Rattle.mine_sets.proofs.supports.SetCounting.add_supports.Goals as goal

pub loop-piece-init : goal.loop-piece-init
loop-piece-init g c = grind (arith, common_steps, after, HasAdded, nothing_added)

pub add-requires-clause-light : goal.add-requires-clause-light
add-requires-clause-light g c k below =
    let baskets = c.args.self.now.baskets.now in
    let sets = c.args.self.now.counter.now in
    let pieces = c.args.self.now.phase.now.cutting.pieces in
    let piece = c.in-Some.piece in
    let part : slice_range baskets c.shard-start.result.0 c.shard-start.result.1 ≡ shard_of piece pieces baskets = λ i. slice_range baskets (c.shard-start.ensures.start i) (c.shard-start.ensures.end i) in
    let now = c.deref_mut.ensures.value in
    let fits = part_fits baskets pieces sets c.loop-piece.seat.held.claimed c.loop-piece.counts.items piece c.args.self.now.phase.now.cutting.some_pieces.0 c.in-Some.ensures.rises c.loop-piece.invariant.counted
    c.requires.light k (omega (arith, below, ap length now)) in
    omega (arith, fits, ap total_of part, ap (λ l. get_or l k 0) now)

pub loop-piece-smaller : goal.loop-piece-smaller
loop-piece-smaller g c =
    let before = c.loop-piece.seat.held.claimed in
    let low = after-le before c.in-Some.piece c.in-Some.ensures.rises in
    let high = ap (λ h. after h.claimed) c.in-Some.ensures.piece.1 ∙ after_push before c.in-Some.piece c.in-Some.ensures.rises in
    let within = c.in-Some.ensures.piece.0 in omega arith

pub loop-piece-preserved : goal.loop-piece-preserved
loop-piece-preserved g c =
    let before = c.loop-piece.seat.held in
    let was = c.loop-piece.invariant in
    let baskets = c.args.self.now.baskets.now in
    let sets = c.args.self.now.counter.now in
    let pieces = c.args.self.now.phase.now.cutting.pieces in
    let piece = c.in-Some.piece in
    let claim = c.in-Some.ensures.piece.1 in
    let high = ap (λ h. after h.claimed) claim ∙ after_push before.claimed piece c.in-Some.ensures.rises in
    let within = c.in-Some.ensures.piece.0 in
    let part : slice_range baskets c.shard-start.result.0 c.shard-start.result.1 ≡ shard_of piece pieces baskets = λ i. slice_range baskets (c.shard-start.ensures.start i) (c.shard-start.ensures.end i) in
    let value = c.deref_mut.ensures.value in
    let new = c.add.new.counts in
    let same : length new ≡ length c.loop-piece.counts.items = c.add.auto.counts ∙ ap length value in
    let back = take_at new _ c.loop-piece.counts.len (c.add.auto.counts ∙ c.deref_mut.ensures.len) in
    record {
      own = c.claim_piece.ensures.own ∙ was.own;
      within = omega arith;
      none = ap (λ h. h.added) claim ∙ was.none;
      counted = subst (HasAdded baskets pieces sets c.claim_piece.new.seat.held.claimed) (sym back)
          (subst (λ l. HasAdded baskets pieces sets l new) (sym (ap (λ h. h.claimed) claim))
          (part_added baskets pieces sets before.claimed c.loop-piece.counts.items piece c.args.self.now.phase.now.cutting.some_pieces.0 c.in-Some.ensures.rises was.counted new same
          (λ k here.
          let added = c.in_ok-add.ensures k here (omega (arith, here, was.counted.sized, ap length value)) in
          let was_so = ap (λ l. slice_index l k) value in
          let of_part = ap (λ l. support_of l (get_or sets k [])) part in
          omega (arith, added, was_so, of_part))));
    }

pub add_counts-requires-clause-room : goal.add_counts-requires-clause-room
add_counts-requires-clause-room g c k below =
    let baskets = c.args.self.now.baskets.now in
    let sets = c.args.self.now.counter.now in
    let was = c.loop-piece.invariant in
    let same = c.deref.ensures.value in
    let fits = added_fits baskets c.args.self.now.phase.now.cutting.pieces sets c.loop-piece.seat.held.claimed c.loop-piece.counts.items was.counted c.requires.light k (omega (arith, below, ap length same, was.counted.sized)) in
    let none = ap (λ h. slice_index h.added k) c.in_default.ensures.none ∙ ap (λ l. slice_index l k) was.none ∙ index_zero (length sets) k in
    omega (arith, fits, none, ap (λ l. slice_index l k) same)
