use Rattle.std.proofs.Common.{◌≡◌, ◌+◌, ◌-◌, ◌<◌, [], ℕ, List, get_or, length, sym, ap, ◌∙◌, arith}
use Rattle.std.proofs.lemmas.Grind.{common_steps}
use Rattle.std.specs.declared.alloc.Global.{Global}
use Rattle.std.specs.declared.vec.Vec.{Vec}
use Rattle.std.proofs.lemmas.List.{get_or-map, length-map, map-set, take_at}
use Rattle.mine_pairs.specs.Pairs.{lists_of}
use Rattle.mine_pairs.specs.Triangle.{row_at}
use Rattle.mine_pairs.proofs.TriangleLemmas.{as_was, before_all_below, before_rises, front_has, none_added, other_greater, row_more}
use Rattle.mine_pairs.proofs.triangle.count_basket.Goals as goal
use Rattle.mine_pairs.proofs.triangle.count_basket.Goals.{After-deref_mut}

length_of : (rows : List (Vec ℕ Global)) → length (lists_of rows) ≡ length rows
length_of rows = length-map rows (λ (v : Vec ℕ Global). v.items)

module _ (c : After-deref_mut) where
  abbrev row : ℕ
  row = get_or c.args.ranks.now c.loop-index.index 0 - c.args.first

  within : row < length (lists_of c.args.rows.now)
  within = omega (arith, c.if-row-rows.false, c.loop-index.auto.rows, length_of c.args.rows.now)

  rank_is : c.args.first + row ≡ get_or c.args.ranks.now c.loop-index.index 0
  rank_is = omega (arith, c.if-rank-first.false)

  at_row : c.deref_mut.result.now ≡ row_at (lists_of c.loop-index.rows) row
  at_row = c.deref_mut.ensures.value ∙ sym (get_or-map (λ (v : Vec ℕ Global). v.items) c.loop-index.rows row c.index-rows-row.result [] c.if-row-rows.false)

  long : length c.deref_mut.result.now ≡ length (row_at (lists_of c.args.rows.now) row)
  long = ap length at_row ∙ c.loop-index.invariant.long row within

pub loop-index-init : goal.loop-index-init
loop-index-init c = none_added c.args.first c.args.weight c.args.ranks.now (lists_of c.args.rows.now)

pub count_below-requires-clause-rises : goal.count_below-requires-clause-rises
count_below-requires-clause-rises c = before_rises c.args.ranks.now c.loop-index.index c.requires.rises c.loop-index-test.true

pub count_below-requires-clause-below : goal.count_below-requires-clause-below
count_below-requires-clause-below c = grind (arith, common_steps, long, within, rank_is, before_all_below)

pub count_below-requires-clause-light : goal.count_below-requires-clause-light
count_below-requires-clause-light c = λ lesser below. grind (arith, common_steps, within, as_was, rank_is, long, at_row)

pub loop-index-preserved-then-rank-first : goal.loop-index-preserved-then-rank-first
loop-index-preserved-then-rank-first c = grind (arith, common_steps)

pub loop-index-preserved : goal.loop-index-preserved
loop-index-preserved c = grind (arith, common_steps, map-set, take_at, row_more, within, rank_is, length_of, at_row)

pub returns-then-row-rows : goal.returns-then-row-rows
returns-then-row-rows c = grind (arith, common_steps, other_greater, front_has, length_of)
