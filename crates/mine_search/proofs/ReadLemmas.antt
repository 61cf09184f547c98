-- Sets that are read off a single branch, one rank after another.
use Rattle.std.proofs.Common.{◌≡◌, ℕ, ◌+◌, ◌-◌, ◌<◌, ◌≤◌, Bool, true, false, List, [], ◌∷◌, ◌++◌, length, map, get_or, drop, take, sym, ap, ◌∙◌, subst, arith, length-append, append_assoc}
use Rattle.std.proofs.lemmas.Grind.{common_steps}
use Rattle.std.proofs.lemmas.List.{get_or-drop, length-drop, length-map, map-append, take_more}
use Rattle.std.proofs.lemmas.List.Sums.{sum_by-take-le, sum_by_more}
use Rattle.std.proofs.lemmas.Simd.{map-map}
use Rattle.basket_sets.specs.declared.counted.Counted.{Counted}
use Rattle.basket_lists.specs.CountedSets.{set_at}
use Rattle.basket_lists.proofs.theory.Places.{set_kept}
use Rattle.basket_sets.specs.Itemset.{with_item}
use Rattle.basket_sets.proofs.theory.Members.{Member}
use Rattle.basket_sets.proofs.theory.Rising.{Member-from_has, has_at, nil_rises}
use Rattle.mine_search.specs.Node.{Node, child, is_met, kept, sets_at}
use Rattle.mine_search.specs.Search.{FindsAll, GoesOn, Reached, found_at}
use Rattle.mine_search.specs.Straight.{IsStraight, between, chosen}
use Rattle.mine_search.specs.Walk.{sets_below}
use Rattle.mine_search.proofs.NodeLemmas.{FindsPart, IsTurn, found_by, lower}
use Rattle.mine_search.proofs.StraightLemmas.{choices, choose}
use Rattle.mine_search.proofs.theory.Walk.{branch_work, kept_before, kept_passes, sets_are_branches, work_is_branches}

-- one more of the sets between two indexes
pub chosen_more : (item support start from : ℕ) (old now new : List Counted) → start ≤ from → from < length old → now ≡ old ++ map (chosen item support) (between start from old)
    → new ≡ now ++ record { set = with_item item (set_at now from); count = support } ∷ [] → new ≡ old ++ map (chosen item support) (between start (from + 1) old)
chosen_more item support start from old now new order here so_far adds =
    let none : Counted = record { set = []; count = 0 } in
    let inside : from - start < length (drop start old) = omega (arith, length-drop start old) in
    let one : get_or (drop start old) (from - start) none ≡ get_or old from none = get_or-drop start old (from - start) none ∙ ap (λ k. get_or old k none) (let e : start + (from - start) ≡ from = omega arith in e) in
    let more : between start (from + 1) old ≡ between start from old ++ get_or old from none ∷ [] =
    ap (λ k. take k (drop start old)) (let e : from + 1 - start ≡ (from - start) + 1 = omega arith in e) ∙ take_more (drop start old) (from - start) none inside ∙ ap (λ c. between start from old ++ c ∷ []) one in
    let same = set_kept old (map (chosen item support) (between start from old)) now from here so_far in
    adds ∙ (λ i. so_far i ++ record { set = with_item item (same i); count = support } ∷ [])
    ∙ append_assoc old (map (chosen item support) (between start from old)) (chosen item support (get_or old from none) ∷ [])
    ∙ ap (λ l. old ++ l) (sym (map-append (chosen item support) (between start from old) (get_or old from none ∷ [])) ∙ ap (map (chosen item support)) (sym more))

module _ {set : List ℕ} {node : Node} {i rank : ℕ} (turn : IsTurn set node i rank) (straight : IsStraight node) where
  abbrev test : List ℕ → Bool
  test = is_met node.over

  -- nothing is counted for the rank
  free : branch_work test node.over.work node.set rank ≡ 0
  free = grind (arith, common_steps, work_is_branches, sum_by-take-le, branch_work, sum_by_more)

  pub free_one : node.over.work (rank ∷ node.set) ≡ 0
  free_one = omega (arith, free)

  -- the sets of the lower ranks stand there already
  stand : found_by node (take i (kept node)) ≡ sets_below test rank node.set
  stand = grind (arith, common_steps, found_by, kept_before, sets_are_branches)

  kept_rank : test (rank ∷ node.set) ≡ true
  kept_rank = kept_passes test node.below node.set rank (subst (λ r. Member r (kept node)) (sym turn.rank_is) (Member-from_has (kept node) (get_or (kept node) i 0) (has_at (kept node) i turn.here)))

  below_are : map (found_at node.over) (sets_at (child node rank)) ≡ map (choose straight turn.is.falls rank (lower turn) kept_rank) (found_by node (take i (kept node)))
  below_are =
      choices straight turn.is.falls rank (lower turn) kept_rank rank [] (omega arith) nil_rises (λ other m. absurd m)
      ∙ ap (map (choose straight turn.is.falls rank (lower turn) kept_rank)) (sym stand)

  pub as_many : length (found_by node (take i (kept node))) ≡ length (sets_at (child node rank))
  as_many = grind (arith, common_steps, length-map, found_by, choose, lower, kept_rank, below_are)

  module _ {before now : Reached} (part : FindsPart node i before now) {start end : ℕ} (start_is : start ≡ length before.sets) (end_is : end ≡ length now.sets) where
    abbrev found : List Counted
    found = map (found_at node.over) (found_by node (take i (kept node)))

    pub bounds : end - start ≡ length (sets_at (child node rank))
    bounds = omega (arith, start_is, end_is, ap length part.sets, length-append before.sets found, length-map (found_by node (take i (kept node))) (found_at node.over), as_many)

    pub order : start ≤ end
    order = omega (arith, start_is, end_is, ap length part.sets, length-append before.sets found)

    between_are : (one : Counted) (sets : List Counted) → sets ≡ now.sets ++ one ∷ [] → between start end sets ≡ found
    between_are one sets are = grind (arith, common_steps)

    -- so all sets below the rank are added by choosing them
    pub read_more : {with_one after : Reached} {item support : ℕ} (one : Counted) → item ≡ get_or node.over.items rank 0 → support ≡ node.over.support (rank ∷ node.set) → with_one.sets ≡ now.sets ++ one ∷ [] → GoesOn with_one
        → after.sets ≡ with_one.sets ++ map (chosen item support) (between start end with_one.sets) → after.work ≡ with_one.work → after.told ≡ with_one.told + (end - start) → after.is_over ≡ false
        → FindsAll with_one after (child node rank)
    read_more {with_one} {after} {item} {support} one item_is support_is sets going adds work told over =
        let all : map (chosen item support) (between start end with_one.sets) ≡ map (found_at node.over) (sets_at (child node rank)) =
        (λ k. map (chosen (item_is k) (support_is k)) (between_are one with_one.sets sets k))
        ∙ map-map (chosen (get_or node.over.items rank 0) (node.over.support (rank ∷ node.set))) (found_at node.over) (found_by node (take i (kept node)))
        ∙ sym below_are in
        grind (arith, common_steps, free, bounds, length-map)
