-- What is found below a node so far, and the nodes that extend it.
use Rattle.std.proofs.Common.{◌≡◌, ℕ, ◌+◌, ◌<◌, ◌≤◌, Bool, true, false, not, List, [], ◌∷◌, ◌++◌, length, get_or, take, map, refl, sym, ap, ◌∙◌, subst, arith, length-append}
use Rattle.std.proofs.lemmas.Grind.{common_steps}
use Rattle.std.specs.Prelude.{Err, Result}
use Rattle.mine_limit.specs.declared.fault.MineFault.{MineFault}
use Rattle.mine_limit.specs.declared.fault.MineFault.TheVariants.{TooMany}
use Rattle.std.specs.List.{flat_map, sum_by}
use Rattle.std.proofs.lemmas.Bool.{le-leb, leb-true}
use Rattle.std.proofs.lemmas.List.{append-nil, length-map, length-take-le, take_all}
use Rattle.std.proofs.lemmas.List.Concat.{length-flat_map}
use Rattle.std.proofs.lemmas.List.Filters.{length-filter_both}
use Rattle.std.proofs.lemmas.List.Folds.{length-flat_map-take}
use Rattle.std.proofs.lemmas.List.Sums.{sum_by-take-le}
use Rattle.basket_sets.specs.declared.counted.Counted.{Counted}
use Rattle.basket_lists.specs.CountedSets.{set_at}
use Rattle.basket_lists.proofs.theory.Places.{set_added, set_kept}
use Rattle.basket_sets.specs.Itemset.{with_item}
use Rattle.basket_sets.proofs.theory.Rising.{Member-from_has, has_at}
use Rattle.mine_search.specs.Node.{Node, child, is_met, kept, sets_at}
use Rattle.mine_search.specs.Search.{Adds, AreTooMany, FindsAll, GoesOn, IsDone, IsNode, IsOf, Reached, TellsAtMost, found_at}
use Rattle.mine_search.specs.Walk.{kept_below}
use Rattle.mine_search.proofs.theory.Walk.{branch, branch_work, kept_before, kept_lower, kept_with, sets_are_branches, work_is_branches}

-- a set that is added, with so much work
pub adds_one : (one : Counted) (work : ℕ) (before after : Reached) → after.sets ≡ before.sets ++ one ∷ [] → after.work ≡ before.work + work → after.told ≡ before.told + 1 → after.is_over ≡ false
    → work < 4294967296 → GoesOn before → Adds (one ∷ []) work before after
adds_one one work before after sets worked told over few going = grind (arith, common_steps)

-- a search that fails
pub fails : {P A : Type 0} (gives : P → Node → Type 0) (base : P) (set : List ℕ) (before after : Reached) (result : Result A MineFault) (fault : MineFault) → result ≡ Err fault
    → ((node : Node) → IsOf gives base set node → ((limit : ℕ) → fault ≡ TooMany limit → AreTooMany limit before after node) × TellsAtMost before after node)
    → after.limit ≡ before.limit → IsDone gives base set before after result
fails gives base set before after result fault is at limit = grind (arith, common_steps)

module _ (node : Node) where
  abbrev test : List ℕ → Bool
  test = is_met node.over

  -- ---- what is found by the first ranks

  abbrev pub found_by : List ℕ → List (List ℕ)
  found_by ranks = flat_map (branch test node.set) ranks

  abbrev pub FindsPart : ℕ → Reached → Reached → Type 0
  FindsPart i before now = Adds (map (found_at node.over) (found_by (take i (kept node)))) (sum_by (branch_work test node.over.work node.set) (take i (kept node))) before now

  pub nothing_yet : (before : Reached) → GoesOn before → FindsPart 0 before before
  nothing_yet before going = record { sets = sym (append-nil before.sets); worked = omega arith; told = omega arith; going = going }

  -- at last it is all
  pub part_is_all : (i : ℕ) (before now : Reached) → length (kept node) ≤ i → FindsPart i before now → FindsAll before now node
  part_is_all i before now last part = grind (arith, common_steps, take_all, sets_are_branches, branch_work, work_is_branches)

  pub part_at_most : (i : ℕ) (before now : Reached) → FindsPart i before now → TellsAtMost before now node
  part_at_most i before now part = grind (arith, common_steps, sets_are_branches, length-flat_map, branch, sum_by-take-le, length-map)

-- one of the ranks that extend a node's set, at an index
pub record IsTurn (set : List ℕ) (node : Node) (i rank : ℕ) : Type 0 where
  pub is : IsNode set node
  pub here : i < length (kept node)
  pub rank_is : rank ≡ get_or (kept node) i 0

pub turn_at : {P : Type 0} {gives : P → Node → Type 0} {base : P} {set : List ℕ} {node : Node} (ranks : P → List ℕ) → ((base : P) (node : Node) → gives base node → ranks base ≡ kept node)
    → IsOf gives base set node → (i : ℕ) → i < length (ranks base) → IsTurn set node i (get_or (ranks base) i 0)
turn_at {P} {gives} {base} {set} {node} ranks law of i inside = grind (arith, common_steps)

module _ {set : List ℕ} {node : Node} {i rank : ℕ} (turn : IsTurn set node i rank) where
  abbrev passes : List ℕ → Bool
  passes = is_met node.over

  is : IsNode set node
  is = turn.is

  rank_is : rank ≡ get_or (kept node) i 0
  rank_is = turn.rank_is

  inside : i < length (kept node)
  inside = turn.here

  pub lower : rank < node.below
  lower = subst (λ n. n < node.below) (sym rank_is) (kept_lower passes node.below node.set (get_or (kept node) i 0) (Member-from_has (kept node) (get_or (kept node) i 0) (has_at (kept node) i inside)))

  -- what it adds is not beyond what is below the node
  pub turn_within : (before now : Reached) → FindsPart node i before now
      → (now.told + (1 + length (sets_at (child node rank))) ≤ before.told + length (sets_at node))
      × (length now.sets + (1 + length (sets_at (child node rank))) ≤ length before.sets + length (sets_at node))
  turn_within before now part =
      let whole = ap length (sets_are_branches passes node.below node.set) in
      let more = length-flat_map-take (branch passes node.set) (kept node) i 0 inside in
      let one = ap (λ r. length (branch passes node.set r)) rank_is in
      let long = length-map (found_by node (take i (kept node))) (found_at node.over) in
      let sets = ap length part.sets ∙ length-append before.sets (map (found_at node.over) (found_by node (take i (kept node)))) in
      (omega (arith, whole, more, one, long, part.told), omega (arith, whole, more, one, long, sets))

  -- the part with its set and those below it
  pub turn_adds : (one : Counted) (before now with_one after : Reached) → one ≡ found_at node.over (rank ∷ node.set) → FindsPart node i before now → Adds (one ∷ []) (node.over.work (rank ∷ node.set)) now with_one
      → FindsAll with_one after (child node rank) → FindsPart node (i + 1) before after
  turn_adds one before now with_one after is_one part adds below = grind (arith, common_steps)

  -- ---- the node that extends this one

  -- what is frequent with two ranks is frequent with one
  falls : (other : ℕ) → passes (other ∷ rank ∷ node.set) ≡ true → passes (other ∷ node.set) ≡ true
  falls other h = grind (arith, common_steps, le-leb, leb-true)

  -- it has fewer ranks
  pub fewer : length (kept (child node rank)) < length (kept node)
  fewer =
      let most : i ≤ length (kept node) = omega (arith, inside) in
      let with_it = kept_with passes rank node.set falls rank in
      let before_it = sym (length-take-le i (kept node) most) ∙ ap length (kept_before passes node.below node.set i inside) ∙ ap (λ r. length (kept_below passes r node.set)) (sym rank_is) in
      let less = length-filter_both (λ other. passes (other ∷ rank ∷ node.set)) (λ other. not (passes (other ∷ rank ∷ node.set))) (λ other. refl) (kept_below passes rank node.set) in
      omega (arith, ap length with_it, before_it, less, inside)

  -- its set stands among those that were found, and the search goes on below it
  pub record IsExtended (one : Counted) (longer : List ℕ) : Type 0 where
    pub found : one ≡ found_at node.over (rank ∷ node.set)
    pub inner : IsNode longer (child node rank)

  pub extended : {longer item count : ℕ} {before now : Reached} {with_one : List Counted} (index : ℕ)
      → index < length before.sets → set ≡ set_at before.sets index → item ≡ get_or node.over.items rank 0 → count ≡ node.over.support (rank ∷ node.set) → FindsPart node i before now
      → longer ≡ length now.sets → with_one ≡ now.sets ++ record { set = with_item item (set_at now.sets index); count = count } ∷ []
      → IsExtended (record { set = with_item item (set_at now.sets index); count = count }) (set_at with_one longer)
  extended {longer} {item} {count} {before} {now} {with_one} index here of_set is_item is_count part at adds = grind (arith, common_steps, set_kept, falls, set_added, lower)

-- nothing is found below a node without ranks
pub finds_none : (node : Node) → kept node ≡ [] → (now : Reached) → GoesOn now → FindsAll now now node
finds_none node none now going = part_is_all node 0 now now (omega (arith, ap length none)) (nothing_yet node now going)
