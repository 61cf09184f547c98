use Rattle.std.proofs.Common.{◌≡◌, ℕ, List, [], map, get_or, length, refl, sym, subst, ap, ◌∙◌}
use Rattle.std.specs.declared.alloc.Global.{Global}
use Rattle.std.specs.declared.vec.Vec.{Vec}
use Rattle.std.specs.List.{flat_map, range_with_len}
use Rattle.std.proofs.lemmas.List.{length-map}
use Rattle.std.proofs.lemmas.List.Folds.{flat_map-map}
use Rattle.std.proofs.lemmas.List.FromFn.{fill_by_all}
use Rattle.std.proofs.lemmas.Result.{IfOk-weaker}
use Rattle.basket_sets.specs.declared.weighted.Weighted.{Weighted}
use Rattle.basket_sets.specs.Minimum.{IsLeastSupport}
use Rattle.basket_sets.specs.Support.{total_of}
use Rattle.mine_pairs.specs.declared.rank_range.RankRange.{RankRange}
use Rattle.mine_pairs.specs.Pairs.{ArePairs, lists_of, pairs_by_greater, pairs_of}
use Rattle.mine_pairs.specs.Triangle.{pairs_in_range, ranks_in}
use Rattle.mine_pairs.proofs.theory.Pairs.{same_pairs}
use Rattle.mine_pieces.specs.Pieces.{HasEach}
use Rattle.mine_pieces.proofs.theory.Parts.{entries_by_part, map_flat}
use Rattle.mine_phases.proofs.triangle.triangle_pairs.Goals as goal

-- the pairs of the ranges, one after another, are those of all ranks
module _ (baskets : List Weighted) (least ranks : ℕ) (ranges : List RankRange) (values : List (Vec (Vec (ℕ × ℕ) Global) Global)) where
  pairs_joined : flat_map ranks_in ranges ≡ range_with_len 0 ranks → HasEach (λ part lists. lists_of lists.items ≡ get_or (map (pairs_in_range baskets least) ranges) part []) (length ranges) values
      → lists_of (flat_map (λ lists. lists.items) values) ≡ pairs_by_greater baskets least ranks
  pairs_joined are has =
      let of_range = pairs_in_range baskets least in
      let each = entries_by_part (λ (lists : Vec (Vec (ℕ × ℕ) Global) Global). lists_of lists.items) (λ part. get_or (map of_range ranges) part []) (length ranges) values has
      ∙ sym (fill_by_all (λ part. get_or (map of_range ranges) part []) (map of_range ranges) (length ranges) [] (length-map ranges of_range) (λ part below. refl)) in
      map_flat (λ (list : Vec (ℕ × ℕ) Global). list.items) (λ (lists : Vec (Vec (ℕ × ℕ) Global) Global). lists.items) values
      ∙ sym (flat_map-map (λ (l : List (List (ℕ × ℕ))). l) (λ (lists : Vec (Vec (ℕ × ℕ) Global) Global). lists_of lists.items) values)
      ∙ ap (flat_map (λ (l : List (List (ℕ × ℕ))). l)) each ∙ flat_map-map (λ (l : List (List (ℕ × ℕ))). l) of_range ranges
      ∙ sym (map_flat (pairs_of baskets least) ranks_in ranges) ∙ ap (map (pairs_of baskets least)) are

pub returns : goal.returns
returns g c =
    let coding = c.args.coded.now in
    let baskets = g.B.RankedBaskets.baskets c.args.baskets.now in
    let least = c.least_support.result in
    IfOk-weaker c.in_a_row.result _ (λ lists. ArePairs coding (lists_of lists.items))
    (λ lists is. record {
      least = least;
      settles = subst (λ coding. IsLeastSupport coding.minimum (total_of coding.baskets) least) c.coded_items.ensures c.least_support.ensures;
      pairs = ap lists_of is ∙ pairs_joined baskets least (length coding.items) _ c.in_ok-lists.lists.items c.in_ok-ranges_of.ensures.ranges c.in_ok-lists.ensures
          ∙ same_pairs baskets coding.baskets least (length coding.items) c.requires;
    }) c.in_a_row.ensures
