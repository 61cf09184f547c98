use Rattle.std.proofs.Common.{arith}
use Rattle.mine_rows.proofs.BitLemmas.{parts_share, shared_most}
use Rattle.mine_rows.proofs.bits.and_count.Goals as goal

pub shared_by_lanes-requires-clause-few : goal.shared_by_lanes-requires-clause-few
shared_by_lanes-requires-clause-few c =
    let parts = parts_share c.args.a.now c.args.b.now c.requires.same c.as_chunks.ensures.front c.as_chunks.ensures.back c.as_chunks-2.ensures.front c.as_chunks-2.ensures.back in
    let most = shared_most c.args.a.now c.args.b.now (λ i. (c.type_inv.a i).fits) in
    omega (arith, parts, most, c.requires.few)

pub overflow_add-result : goal.overflow_add-result
overflow_add-result c =
    let parts = parts_share c.args.a.now c.args.b.now c.requires.same c.as_chunks.ensures.front c.as_chunks.ensures.back c.as_chunks-2.ensures.front c.as_chunks-2.ensures.back in
    let most = shared_most c.args.a.now c.args.b.now (λ i. (c.type_inv.a i).fits) in
    omega (arith, c.shared_by_lanes.ensures, c.shared_by_words-2.ensures.ones, parts, most, c.requires.few)

pub returns : goal.returns
returns c =
    let parts = parts_share c.args.a.now c.args.b.now c.requires.same c.as_chunks.ensures.front c.as_chunks.ensures.back c.as_chunks-2.ensures.front c.as_chunks-2.ensures.back in
    omega (arith, c.shared_by_lanes.ensures, c.shared_by_words-2.ensures.ones, parts)
