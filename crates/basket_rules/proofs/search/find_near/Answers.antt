use Rattle.std.proofs.Common.{◌≡◌, ◌<◌, ◌++◌, length, sym, subst, arith}
use Rattle.std.specs.declared.cmp.Ordering.TheVariants.{Less, Equal, Greater}
use Rattle.std.specs.List.{AllWithin}
use Rattle.basket_sets.specs.Order.{report_order}
use Rattle.basket_rules.proofs.SearchLemmas.{compared_at, greater_from, is_missing, smaller_up_to, stands}
use Rattle.basket_rules.proofs.search.find_near.Goals as goal

pub loop-at-preserved-in-Less : goal.loop-at-preserved-in-Less
loop-at-preserved-in-Less c =
    let list = c.args.sets.now in
    let key = c.args.front.now ++ c.args.rest.now in
    let at = c.in-Some.at in
    let below : at < length list = omega (arith, c.loop-at.invariant.within, c.in-Some.ensures.before) in
    let less = compared_at list key at c.items_at.result.now c.compare.result Less below c.items_at.ensures.is c.compare.ensures c.in-Less.is in
    record {
      within = omega (arith, c.loop-at.invariant.within, c.go_after.ensures.end);
      between = λ up. record {
        smaller = subst (λ n. AllWithin (λ s. report_order s.set key ≡ Less) list 0 n) (sym c.go_after.ensures.start) (smaller_up_to list key at up below less);
        greater = subst (λ n. AllWithin (λ s. report_order s.set key ≡ Greater) list n (length list)) (sym c.go_after.ensures.end) (c.loop-at.invariant.between up).greater;
      };
    }

pub loop-at-preserved : goal.loop-at-preserved
loop-at-preserved c =
    let list = c.args.sets.now in
    let key = c.args.front.now ++ c.args.rest.now in
    let at = c.in-Some.at in
    let below : at < length list = omega (arith, c.loop-at.invariant.within, c.in-Some.ensures.before) in
    let more = compared_at list key at c.items_at.result.now c.compare.result Greater below c.items_at.ensures.is c.compare.ensures c.in-Greater.is in
    record {
      within = omega (arith, below, c.go_before.ensures.end);
      between = λ up. record {
        smaller = subst (λ n. AllWithin (λ s. report_order s.set key ≡ Less) list 0 n) (sym c.go_before.ensures.start) (c.loop-at.invariant.between up).smaller;
        greater = subst (λ n. AllWithin (λ s. report_order s.set key ≡ Greater) list n (length list)) (sym c.go_before.ensures.end) (greater_from list key at up more);
      };
    }

pub returns-in-Equal-clause-found : goal.returns-in-Equal-clause-found
returns-in-Equal-clause-found c =
    let list = c.args.sets.now in
    let key = c.args.front.now ++ c.args.rest.now in
    let at = c.in-Some.at in
    let below : at < length list = omega (arith, c.loop-at.invariant.within, c.in-Some.ensures.before) in
    stands list key at below (compared_at list key at c.items_at.result.now c.compare.result Equal below c.items_at.ensures.is c.compare.ensures c.in-Equal.is)

pub returns-clause-missing : goal.returns-clause-missing
returns-clause-missing c = λ up.
    is_missing c.args.sets.now (c.args.front.now ++ c.args.rest.now) c.loop-at.search.start c.loop-at.search.end c.in_default.ensures.over (c.loop-at.invariant.between up)
