use Rattle.std.proofs.Common.{◌≡◌, ◌+◌, ℕ, List, cond, get_or, map, min, ◌*◌, ◌<◌, ◌^◌, add-zero, sym, ap, ◌∙◌, arith}
use Rattle.std.proofs.lemmas.List.{length-map}
use Rattle.basket_sets.specs.Itemset.{has}
use Rattle.mine_supports.specs.TidWord.{IsRowOf, basket_at, part_weight}
use Rattle.mine_supports.proofs.TidLemmas.{tids_at, words}
use Rattle.mine_supports.proofs.SumLemmas.{cleared, cleared_less, lowest, none_left, one_of_all, read_basket, no_basket, same_place, sum_more, weight_le}
use Rattle.mine_supports.proofs.sums.add_part.Goals as goal
use Rattle.mine_supports.proofs.sums.add_part.Goals.{After-get, in-Some, in_default}

pub add_weight-requires-clause-light : goal.add_weight-requires-clause-light
add_weight-requires-clause-light c item within =
    let inv = c.loop-rest.invariant.light item (omega (arith, within, c.loop-rest.auto.sums)) in
    let one = one_of_all c.loop-rest.rest (omega (arith, c.loop-rest-test.true)) (omega (arith, c.loop-rest.auto.rest-fits)) c.args.part.word c.args.part.weight in
    let light = c.requires.light item (omega (arith, within, c.loop-rest.auto.sums)) in
    omega (arith, inv, one, light)

pub loop-rest-smaller : goal.loop-rest-smaller
loop-rest-smaller c = cleared_less c.loop-rest.rest (omega (arith, c.loop-rest-test.true)) (omega (arith, c.loop-rest.auto.rest-fits))

rest_some : (c : After-get) → 0 < c.loop-rest.rest
rest_some c = omega (arith, c.loop-rest-test.true)

rest_fits : (c : After-get) → c.loop-rest.rest < 2 ^ 64
rest_fits c = omega (arith, c.loop-rest.auto.rest-fits)

same : (c : After-get) → basket_at (map (λ basket. basket.now) c.args.baskets.now) c.saturating_add.result ≡ basket_at (map (λ basket. basket.now) c.args.baskets.now) (c.args.part.word * 64 + lowest c.loop-rest.rest)
same c =
    same_place (map (λ basket. basket.now) c.args.baskets.now) 18446744073709551615 c.args.part.word (lowest c.loop-rest.rest) c.saturating_add.result
    (omega (arith, c.requires.fits, length-map c.args.baskets.now (λ basket. basket.now)))
    (c.saturating_add.ensures ∙ ap (λ n. min (n + lowest c.loop-rest.rest) 18446744073709551615) c.saturating_mul-first.ensures)

more : (c : After-get) (item : ℕ) (row : List ℕ) → IsRowOf (map (λ basket. basket.now) c.args.baskets.now) item row → (new : ℕ)
    → get_or c.loop-rest.sums item 0 + part_weight (words row) (tids_at c.args.part.word c.loop-rest.rest c.args.part.weight) ≡ get_or c.args.sums.now item 0 + part_weight (words row) c.args.part
    → new ≡ get_or c.loop-rest.sums item 0 + cond (has (basket_at (map (λ basket. basket.now) c.args.baskets.now) c.saturating_add.result) item) c.args.part.weight 0
    → new + part_weight (words row) (tids_at c.args.part.word (cleared c.loop-rest.rest) c.args.part.weight) ≡ get_or c.args.sums.now item 0 + part_weight (words row) c.args.part
more c item row is new before added =
    sum_more (map (λ basket. basket.now) c.args.baskets.now) item row c.args.part.word c.loop-rest.rest c.args.part.weight c.saturating_add.result (get_or c.loop-rest.sums item 0) new
    (get_or c.args.sums.now item 0 + part_weight (words row) c.args.part) (rest_some c) (rest_fits c) is (same c) added before

pub loop-rest-preserved : goal.loop-rest-preserved
loop-rest-preserved c =
    let before = (goal.at.loop-rest-preserved c).After-get in
    let rest = c.loop-rest.rest in
    let word = c.args.part.word in
    let weight = c.args.part.weight in
    let refs = c.args.baskets.now in
    let baskets = map (λ basket. basket.now) refs in
    let tid = c.saturating_add.result in
    let old = c.loop-rest.sums in
    let one = one_of_all rest (rest_some before) (rest_fits before) word weight in
    record {
      added = λ item row within is.
          let inv = c.loop-rest.invariant.added item row within is in
          elim c.match-get.branch [
            | in-Some w ↦ more before item row is (get_or c.match-get.sums item 0) inv (ap (λ l. get_or l item 0) w.sums-is ∙ w.add_weight.ensures item (omega (arith, within, c.loop-rest.auto.sums))
                ∙ ap (λ l. get_or old item 0 + cond (has l item) weight 0) (w.items.ensures.items ∙ sym (read_basket refs tid w.in-Some.basket.now w.in-Some.ensures.lookup.3.0 w.in-Some.ensures.lookup.1)))
            | in_default w ↦ more before item row is (get_or c.match-get.sums item 0) inv (ap (λ l. get_or l item 0) w.sums-is ∙ sym (ap (λ b. get_or old item 0 + cond b weight 0) (no_basket refs item tid w.in_default.ensures.lookup.3) ∙ add-zero (get_or old item 0)))
          ];
      light = λ item within.
          let inv = c.loop-rest.invariant.light item within in
          elim c.match-get.branch [
            | in-Some w ↦ (let now = ap (λ l. get_or l item 0) w.sums-is ∙ w.add_weight.ensures item (omega (arith, within, c.loop-rest.auto.sums)) in
                let le = weight_le (has w.items.result.now item) weight in omega (arith, now, le, one, inv))
            | in_default w ↦ (let now = ap (λ l. get_or l item 0) w.sums-is in omega (arith, now, one, inv))
          ];
    }

pub returns-clause-added : goal.returns-clause-added
returns-clause-added c item row within is =
    let left = none_left (words row) c.args.part.word c.args.part.weight in
    let inv = c.loop-rest.invariant.added item row within is in
    let none = ap (λ n. part_weight (words row) (tids_at c.args.part.word n c.args.part.weight)) c.loop-rest-test.false in
    omega (arith, left, inv, none)
