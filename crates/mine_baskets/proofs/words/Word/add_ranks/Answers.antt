use Rattle.std.proofs.Common.{◌≡◌, ◌*◌, ◌%◌, ◌^◌, ◌++◌, sym, ap, ◌∙◌, arith, append-nil}
use Rattle.std.proofs.lemmas.Grind.{common_steps}
use Rattle.std.proofs.lemmas.Nat.{one_shl}
use Rattle.mine_baskets.specs.Words.{ranks_in}
use Rattle.mine_baskets.proofs.BitRankLemmas.{first_rank, no_ranks}
use Rattle.mine_baskets.proofs.words.Word.add_ranks.Goals as goal

pub loop-rest-preserved : goal.loop-rest-preserved
loop-rest-preserved c =
    let count = c.args.count in
    let bit = c.ilog2-bit.result in
    let rest = c.loop-rest.rest in
    let ranks = c.loop-rest.ranks.items in
    let shifted : 1 * 2 ^ bit % 2 ^ 64 ≡ 2 ^ bit = one_shl bit 64 c.ilog2-bit.ensures.bound in
    let next = first_rank rest bit c.ilog2-bit.ensures.power_le c.ilog2-bit.ensures.next_power_gt count c.requires (omega (arith, c.ilog2-bit.ensures.bound)) c.if-rank-count.false in
    grind (arith, common_steps)

pub returns : goal.returns
returns c =
    let ranks = c.loop-rest.ranks.items in
    sym (append-nil ranks) ∙ ap (λ l. ranks ++ l) (sym (ap (ranks_in c.args.count) c.loop-rest-test.false ∙ no_ranks c.args.count)) ∙ c.loop-rest.invariant
