use Rattle.std.proofs.Common.{◌<◌, ◌∙◌, ℕ, List, get_or, length, map, set, sym, ap, arith}
use Rattle.std.proofs.lemmas.List.{get_or-map, get_or_default, length-map}
use Rattle.std.proofs.lemmas.List.Edits.{map_over_more}
use Rattle.basket_sets.specs.Counts.{AllBelow}
use Rattle.basket_sets.proofs.theory.Tests.{all_below_at}
use Rattle.mine_pairs.specs.Pairs.{named_pair}
use Rattle.mine_fp.proofs.NodeLemmas.{rest_at}
use Rattle.mine_fp.proofs.trees.rename.Goals as goal

rank_below : (before : List (ℕ × ℕ)) (count at : ℕ) → AllBelow count (map (λ (pair : ℕ × ℕ). pair.0) before) → at < length before → (get_or before at (0, 0)).0 < count
rank_below before count at low here = omega (
  arith,
  all_below_at count (map (λ (pair : ℕ × ℕ). pair.0) before) at low (omega (arith, here, length-map before (λ (pair : ℕ × ℕ). pair.0))),
  get_or-map (λ (pair : ℕ × ℕ). pair.0) before at (0, 0) 0 here,
)

pub bounds-ranks-pairs : goal.bounds-ranks-pairs
bounds-ranks-pairs c =
    let at = c.loop-at.at in
    let is = rest_at (named_pair (map (λ (name : ℕ × ℕ). name.0) c.args.ranks.now)) c.args.pairs.now c.loop-at.pairs at (0, 0) c.loop-at-test.true c.loop-at.invariant in
    omega (arith, rank_below c.args.pairs.now (length c.args.ranks.now) at c.requires c.loop-at-test.true, ap (λ (pair : ℕ × ℕ). pair.0) is)

pub loop-at-preserved : goal.loop-at-preserved
loop-at-preserved c =
    let names = c.args.ranks.now in
    let items = map (λ (name : ℕ × ℕ). name.0) names in
    let now = c.loop-at.pairs in
    let at = c.loop-at.at in
    let pair = get_or now at (0, 0) in
    let is = rest_at (named_pair items) c.args.pairs.now now at (0, 0) c.loop-at-test.true c.loop-at.invariant in
    let within : pair.0 < length names = omega (arith, rank_below c.args.pairs.now (length names) at c.requires c.loop-at-test.true, ap (λ (pair : ℕ × ℕ). pair.0) is) in
    (λ i. set now at (sym (get_or-map (λ (name : ℕ × ℕ). name.0) names pair.0 (0, 0) 0 within) i, pair.1))
    ∙ map_over_more (named_pair items) c.args.pairs.now now at pair c.loop-at-test.true c.loop-at.invariant (get_or_default now at (0, 0) pair (omega (arith, c.loop-at-test.true, c.loop-at.auto.pairs)))
