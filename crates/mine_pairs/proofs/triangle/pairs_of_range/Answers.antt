use Rattle.std.proofs.Common.{◌≡◌, ◌+◌, ◌<◌, ℕ, length, map, subst, refl, sym, ap, ◌∙◌, arith}
use Rattle.std.proofs.lemmas.Grind.{common_steps}
use Rattle.std.specs.declared.alloc.Global.{Global}
use Rattle.std.specs.declared.vec.Vec.{Vec}
use Rattle.std.specs.List.{range_with_len}
use Rattle.std.proofs.lemmas.List.{length-map, take_at}
use Rattle.std.proofs.lemmas.List.FromFn.{length-map-range_with_len}
use Rattle.mine_pairs.specs.Pairs.{lists_of, pairs_of}
use Rattle.mine_pairs.specs.Triangle.{HaveCounts, row_at}
use Rattle.mine_pairs.proofs.theory.PairSums.{lists_pushed}
use Rattle.mine_pairs.proofs.TriangleLemmas.{row_pairs, zeros_count}
use Rattle.mine_pairs.proofs.triangle.pairs_of_range.Given.{Over}
use Rattle.mine_pairs.proofs.triangle.pairs_of_range.Goals as goal
use Rattle.mine_pairs.proofs.triangle.pairs_of_range.Goals.{After-deref, After-deref-row-items}

pub count_pairs-requires : goal.count_pairs-requires
count_pairs-requires g c = grind (arith, common_steps, zeros_count c.args.range.first c.args.range.count)

module _ (g : Over) (c : After-deref-row-items g) where
  rows_are : c.deref-row-items.result.now ≡ c.count_pairs.new.rows
  rows_are = c.deref-row-items.ensures.value ∙ take_at c.count_pairs.new.rows _ c.in_ok-rows.rows.len (c.count_pairs.auto.rows ∙ c.deref_mut.ensures.len)

  long : length (lists_of c.deref-row-items.result.now) ≡ c.args.range.count
  long = grind (arith, common_steps, length-map, rows_are, length-map-range_with_len)

  counts : HaveCounts (g.B.RankedBaskets.baskets c.args.baskets.now) c.args.range.first (lists_of c.deref-row-items.result.now)
  counts = subst (λ l. HaveCounts (g.B.RankedBaskets.baskets c.args.baskets.now) c.args.range.first (lists_of l)) (sym rows_are) c.count_pairs.ensures

-- the row of a rank
module _ (g : Over) (c : After-deref g) where
  within : c.loop-row.row-index < length (lists_of c.deref-row-items.result.now)
  within = omega (arith, c.loop-row-test.true, length-map c.deref-row-items.result.now (λ (v : Vec ℕ Global). v.items))

  at_row : c.deref.result.now ≡ row_at (lists_of c.deref-row-items.result.now) c.loop-row.row-index
  at_row = grind (arith, common_steps)

pub met_in_order-requires : goal.met_in_order-requires
met_in_order-requires g c =
    let w = (goal.at.met_in_order-requires g c).After-deref-row-items in
    let row = (counts g w).long c.loop-row.row-index (within g c) in
    omega (arith, ap length (at_row g c), row, within g c, long g w, c.args.range.few)

pub loop-row-preserved : goal.loop-row-preserved
loop-row-preserved g c =
    let w = (goal.at.loop-row-preserved g c).After-deref in
    let k = c.loop-row.row-index in
    let first = c.args.range.first in
    lists_pushed (pairs_of (g.B.RankedBaskets.baskets c.args.baskets.now) c.args.least) first k (first + k) c.loop-row.lists.items _ _ c.loop-row.invariant c.in_ok-push.ensures.items refl
    (c.in_ok-met_in_order.ensures ∙ row_pairs (g.B.RankedBaskets.baskets c.args.baskets.now) c.args.least first _ k _ (counts g (goal.at.loop-row-preserved g c).After-deref-row-items) (within g w) (at_row g w))

pub returns : goal.returns
returns g c =
    let w = (goal.at.returns g c).After-deref-row-items in
    let all : c.loop-row.row-index ≡ c.args.range.count = omega (arith, c.loop-row-test.false, c.loop-row.auto.row-index-end, long g w, length-map c.deref-row-items.result.now (λ (v : Vec ℕ Global). v.items)) in
    c.loop-row.invariant ∙ ap (λ n. map (pairs_of (g.B.RankedBaskets.baskets c.args.baskets.now) c.args.least) (range_with_len c.args.range.first n)) all
