use Rattle.std.proofs.Common.{◌<◌, ◌+◌, drop, get_or, length, subst, sym, arith}
use Rattle.std.proofs.lemmas.List.{drop_all, drop_more}
use Rattle.basket_sets.specs.Itemset.{IsRising}
use Rattle.basket_sets.proofs.theory.Rising.{has_at}
use Rattle.mine_baskets.specs.Covers.{HasTid, covers_in}
use Rattle.mine_baskets.proofs.CoversLemmas.{drop_rises, no_tid, pushed_tid}
use Rattle.mine_baskets.proofs.covers.add_tid.Goals as goal

pub bounds-covers-rank : goal.bounds-covers-rank
bounds-covers-rank c =
    let below = c.requires.below (get_or c.args.basket.now c.loop-rank.rank-index 0) (has_at c.args.basket.now c.loop-rank.rank-index c.loop-rank-test.true) in
    omega (arith, below, c.loop-rank.auto.covers)

pub loop-rank-preserved : goal.loop-rank-preserved
loop-rank-preserved c = λ end later.
    let basket = c.args.basket.now in
    let i = c.loop-rank.rank-index in
    let here = c.loop-rank-test.true in
    let rank = get_or basket i 0 in
    let covers = c.loop-rank.covers in
    let below = c.requires.below rank (has_at basket i here) in
    let within : rank < length covers = omega (arith, below, c.loop-rank.auto.covers) in
    let split = drop_more basket i 0 here in
    let up = subst IsRising split (drop_rises basket i c.requires.rises) in
    c.loop-rank.invariant end (subst (λ l. HasTid c.args.tid l (covers_in covers) end) (sym split)
    (pushed_tid c.args.tid rank (drop (i + 1) basket) up covers c.index-covers-rank.result c.push.new.self end within c.in_ok-push.ensures.items later))

pub returns : goal.returns
returns c =
    let covers = c.loop-rank.covers in
    c.loop-rank.invariant (covers_in covers) (subst (λ l. HasTid c.args.tid l (covers_in covers) (covers_in covers))
    (sym (drop_all c.loop-rank.rank-index c.args.basket.now (omega (arith, c.loop-rank-test.false)))) (no_tid c.args.tid (covers_in covers)))
