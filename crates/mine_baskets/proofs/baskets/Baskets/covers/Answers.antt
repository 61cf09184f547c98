use Rattle.std.proofs.Common.{[], get_or, length, ap, ◌∙◌, arith}
use Rattle.std.proofs.lemmas.Grind.{common_steps}
use Rattle.std.proofs.lemmas.List.{take_at}
use Rattle.basket_sets.specs.Database.{weighted}
use Rattle.mine_baskets.specs.Baskets.{baskets_in}
use Rattle.mine_baskets.specs.Covers.{covers_in}
use Rattle.mine_baskets.proofs.CoversLemmas.{all_covers, basket_of, length-covers_in, next_covers}
use Rattle.mine_baskets.proofs.baskets.Baskets.covers.Goals as goal

pub add_tid-requires-clause-below : goal.add_tid-requires-clause-below
add_tid-requires-clause-below c = λ item h. grind (arith, common_steps, length-covers_in)

pub loop-tid-preserved : goal.loop-tid-preserved
loop-tid-preserved c =
    let baskets = baskets_in c.args.self in
    let n = c.loop-tid.tid in
    let before = c.deref_mut.result.now in
    let is = c.deref_mut.ensures.value in
    let added = c.in_ok-add_tid.ensures in
    let back = take_at c.add_tid.new.covers _ c.loop-tid.covers.len (c.add_tid.auto.covers ∙ c.deref_mut.ensures.len) in
    let long = ap (λ l. length (covers_in l)) is ∙ c.loop-tid.invariant.long in
    record {
      long = ap (λ l. length (covers_in l)) back ∙ added.same ∙ long;
      at = λ rank low.
          ap (λ l. get_or (covers_in l) rank []) back
          ∙ next_covers baskets n c.args.self.count c.at-weight.result.0.now (covers_in before) (covers_in c.add_tid.new.covers)
          (basket_of baskets n (weighted c.at-weight.result.0.now c.at-weight.result.1) (omega (arith, c.loop-tid-test.true, c.len-tid-end.ensures)) c.at-weight.ensures.basket) long
          (λ rank low. ap (λ l. get_or (covers_in l) rank []) is ∙ c.loop-tid.invariant.at rank low) added rank low;
    }

pub returns : goal.returns
returns c =
    all_covers (baskets_in c.args.self) c.loop-tid.tid c.args.self.count c.loop-tid.covers.items (omega (arith, c.loop-tid-test.false, c.loop-tid.auto.tid-end, c.len-tid-end.ensures)) c.loop-tid.invariant.long c.loop-tid.invariant.at
