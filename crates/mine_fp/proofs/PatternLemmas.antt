-- Pattern bases of nodes: their single branches and trees.
use Rattle.std.proofs.Common.{◌≡◌, ℕ, ◌<◌, ◌≤◌, Bool, true, false, ◌&&◌, List, [], ◌∷◌, ◌++◌, cond, ltb, get_or, length, map, Option, refl, sym, ap, ◌∙◌, subst, inl, inr, arith}
use Rattle.std.proofs.lemmas.Grind.{common_steps}
use Rattle.std.specs.List.{list_all, range_with_len}
use Rattle.std.specs.Prelude.{IfNone}
use Rattle.std.proofs.lemmas.Bool.{and_from, and_parts, lt-ltb}
use Rattle.std.proofs.lemmas.List.{get_or-map, get_or_default, length-map}
use Rattle.std.proofs.lemmas.List.Elements.{recursion_from_All}
use Rattle.basket_sets.specs.declared.weighted.Weighted.{Weighted}
use Rattle.basket_sets.specs.Frequent.{is_frequent}
use Rattle.basket_sets.specs.Itemset.{contains, has}
use Rattle.basket_sets.specs.Support.{support_of}
use Rattle.basket_sets.proofs.theory.Members.{Member, Member-append, Member-append_right, at_Member}
use Rattle.basket_sets.proofs.theory.Ranges.{Member-into_range, Member-range}
use Rattle.basket_sets.proofs.theory.Rising.{Member-from_has, contains_each, has-from_Member, has_each, same_test}
use Rattle.basket_sets.proofs.theory.Tests.{Member-at, all_of, each_of}
use Rattle.mine_baskets.specs.ListBaskets.{IsRankBasket}
use Rattle.mine_conditional.specs.declared.scratch.ClassScratch.{ClassScratch}
use Rattle.mine_conditional.specs.Paths.{is_branch}
use Rattle.mine_pairs.proofs.theory.Kept.{kept_short}
use Rattle.mine_fp.specs.declared.pattern_base.PatternBase.{PatternBase}
use Rattle.mine_fp.specs.PatternBase.{HaveSlots, IsBase, IsBelow, KeepSlots, ranks_of}
use Rattle.mine_fp.specs.Trees.{has_tree, is_straight}
use Rattle.mine_fp.proofs.NumberLemmas.{more_below, none_below, number_of, numbered_below, numbers_less, plain, rank_of, ranks_are_kept, ranks_less, support_numbers, supports_are_kept, tests}
use Rattle.mine_fp.proofs.StraightLemmas.{flat_from_straight, has_lower, has_more_too, same_support, straight_from_flat}
use Rattle.mine_search.specs.Node.{Node, child, is_met, kept}
use Rattle.mine_search.specs.Straight.{IsStraight}
use Rattle.mine_search.proofs.theory.Walk.{kept_few, kept_lower, kept_passes, no_work_below}

-- in a single branch a basket that has a rank has each lower one
branch_has : (baskets : List Weighted) → is_branch baskets ≡ true → (receipt : Weighted) → Member receipt baskets → (i j : ℕ) → i < j → Member j receipt.basket → Member i receipt.basket
branch_has baskets h receipt m i j less n =
    let full = each_of (λ (p : Weighted). list_all (λ r. contains p.basket (range_with_len 0 r)) p.basket) baskets h receipt m in
    has_each receipt.basket (range_with_len 0 j) (each_of (λ r. contains receipt.basket (range_with_len 0 r)) receipt.basket full j n) i (Member-into_range 0 j i (omega arith) (omega arith))

-- scratch memory with a slot for each rank has one for each that is kept
pub slots_below : {base below : PatternBase} {number : ℕ} {before after : ClassScratch} → IsBelow base number below → number < base.paths.ranks → HaveSlots before base → KeepSlots before after → HaveSlots after below
slots_below {base} {below} {number} is less slots kept = grind (arith, common_steps, kept_short)

module _ {base : PatternBase} {node : Node} (is : IsBase base node) where
  abbrev baskets : List Weighted
  baskets = base.coded.now.baskets

  abbrev paths : List Weighted
  paths = base.paths.baskets

  abbrev others : List ℕ
  others = is.first.0

  abbrev full : List ℕ
  full = node.below ∷ others

  abbrev straight : Bool
  straight = is_straight baskets base.coded.now.minimum full

  abbrev joined : ℕ → Bool
  joined rank = ltb rank node.below && is_frequent baskets base.coded.now.minimum (rank ∷ full)

  joins : (rank : ℕ) → rank < node.below → is_met node.over (rank ∷ node.set) ≡ true → joined rank ≡ true
  joins rank less h = grind (arith, common_steps, and_from, lt-ltb, tests)

  joined_parts : (rank : ℕ) → joined rank ≡ true → (rank < node.below) × (is_met node.over (rank ∷ node.set) ≡ true)
  joined_parts rank h = grind (arith, common_steps)

  joins_number : (k : ℕ) → k < length (ranks_of base) → joined (rank_of is.numbered k) ≡ true
  joins_number k here =
      let m = subst (λ l. Member (rank_of is.numbered k) l) is.ranks (Member-at (ranks_of base) k here) in
      joins (rank_of is.numbered k) (kept_lower (is_met node.over) node.below node.set (rank_of is.numbered k) m) (kept_passes (is_met node.over) node.below node.set (rank_of is.numbered k) m)

  one_support : (i : ℕ) → i < length (ranks_of base) → support_of baskets (rank_of is.numbered i ∷ full) ≡ support_of paths (i ∷ [])
  one_support i here = ap (λ set. support_of baskets (rank_of is.numbered i ∷ set)) (sym is.first.1) ∙ support_numbers is.numbered (i ∷ []) (more_below is.numbered i [] here (none_below is.numbered))

  two_support : (i j : ℕ) → i < length (ranks_of base) → j < length (ranks_of base) → support_of baskets (rank_of is.numbered i ∷ rank_of is.numbered j ∷ full) ≡ support_of paths (i ∷ j ∷ [])
  two_support i j here there = grind (arith, common_steps)

  -- ---- the rank of a number, and the support of the set with it

  module _ (at : ℕ) (inside : at < length (ranks_of base)) where
    -- what stands at the number's receipt
    entry : {one : ℕ × ℕ} → one ≡ get_or base.ranks.items at one → one ≡ get_or base.ranks.items at (0, 0)
    entry {one} is_at = is_at ∙ sym (get_or_default base.ranks.items at (0, 0) one (omega (arith, inside, length-map base.ranks.items (λ (pair : ℕ × ℕ). pair.0))))

    pub entry_rank : {one : ℕ × ℕ} → one ≡ get_or base.ranks.items at one → one.0 ≡ get_or (ranks_of base) at 0
    entry_rank {one} is_at = grind (arith, common_steps)

    pub rank_known : get_or (ranks_of base) at 0 < length base.coded.now.items
    rank_known = let less = is.numbered.low (get_or (ranks_of base) at 0) (has-from_Member (ranks_of base) (get_or (ranks_of base) at 0) (Member-at (ranks_of base) at inside)) in let most = is.numbered.known in omega arith

    pub entry_support : {one : ℕ × ℕ} → one ≡ get_or base.ranks.items at one → one.1 ≡ node.over.support (get_or (ranks_of base) at 0 ∷ node.set)
    entry_support {one} is_at =
        let here : at < length base.ranks.items = omega (arith, inside, length-map base.ranks.items (λ (pair : ℕ × ℕ). pair.0)) in
        let there : at < length (kept node) = subst (λ l. at < length l) is.ranks inside in
        ap (λ (pair : ℕ × ℕ). pair.1) (entry is_at) ∙ sym (get_or-map (λ (pair : ℕ × ℕ). pair.1) base.ranks.items at (0, 0) 0 here)
        ∙ ap (λ l. get_or l at 0) is.supports
        ∙ get_or-map (λ r. support_of baskets (r ∷ node.set)) (kept node) at 0 0 there
        ∙ (λ i. (sym is.numbered.over i).support (get_or (sym is.ranks i) at 0 ∷ node.set))

  pub few_ranks : length (ranks_of base) ≤ 4294967295
  few_ranks = omega (arith, ap length is.ranks, kept_few (is_met node.over) node.below node.set, is.numbered.known, is.numbered.coding.few)

  -- ---- single branches

  into_branch : straight ≡ true → is_branch paths ≡ true
  into_branch h = all_of (λ (p : Weighted). list_all (λ r. contains p.basket (range_with_len 0 r)) p.basket) paths (λ receipt m.
      all_of (λ r. contains receipt.basket (range_with_len 0 r)) receipt.basket (λ j n. contains_each receipt.basket (range_with_len 0 j) (λ i less_m.
      let less : i < j = let p = (Member-range 0 j i less_m).1 in omega arith in
      let low = (at_Member (IsRankBasket base.paths.ranks) receipt paths (recursion_from_All (IsRankBasket base.paths.ranks) paths is.numbered.ranked.each) m).below j (has-from_Member receipt.basket j n) in
      let there : j < length (ranks_of base) = subst (λ c. j < c) (sym is.numbered.long) low in
      let here : i < length (ranks_of base) = omega arith in
      let same = sym (two_support i j here there)
      ∙ flat_from_straight baskets base.coded.now.minimum node.below others (plain is.numbered) h (rank_of is.numbered i) (rank_of is.numbered j) (ranks_less is.numbered i j less there) (joins_number i here) (joins_number j there)
      ∙ one_support j there in
      has_each receipt.basket (i ∷ j ∷ [])
      (has_more_too paths (i ∷ j ∷ []) (j ∷ []) (contains_each (i ∷ j ∷ []) (j ∷ []) (λ x o. inr o)) (λ p o. (at_Member (IsRankBasket base.paths.ranks) p paths (recursion_from_All (IsRankBasket base.paths.ranks) paths is.numbered.ranked.each) o).weighs) same receipt m
      (contains_each receipt.basket (j ∷ []) (one receipt.basket j n))) i (inl refl))))
    where
      one : (basket : List ℕ) (j : ℕ) → Member j basket → (x : ℕ) → Member x (j ∷ []) → Member x basket
      one basket j n x (inl e) = subst (λ z. Member z basket) e n
      one basket j n x (inr none) = absurd none

  from_branch : is_branch paths ≡ true → straight ≡ true
  from_branch h = straight_from_flat baskets base.coded.now.minimum node.below others (plain is.numbered) (λ a b less ja jb.
      let pa = joined_parts a ja in
      let pb = joined_parts b jb in
      let i = number_of is.numbered a pa.0 pa.1 in
      let j = number_of is.numbered b pb.0 pb.1 in
      let before = numbers_less is.numbered i.0 j.0 i.1 j.1 (subst (λ n. n < rank_of is.numbered j.0) (sym i.2) (subst (λ n. a < n) (sym j.2) less)) in
      (λ q. support_of baskets (sym i.2 q ∷ sym j.2 q ∷ full)) ∙ two_support i.0 j.0 i.1 j.1
      ∙ same_support paths (i.0 ∷ j.0 ∷ []) (j.0 ∷ []) (λ receipt m. same_test _ _
      (λ k. (and_parts (has receipt.basket i.0) (contains receipt.basket (j.0 ∷ [])) k).1)
      (λ k. and_from (has receipt.basket i.0) (contains receipt.basket (j.0 ∷ []))
      (has-from_Member receipt.basket i.0 (branch_has paths h receipt m i.0 j.0 before (has_each receipt.basket (j.0 ∷ []) k j.0 (inl refl)))) k))
      ∙ sym (one_support j.0 j.1) ∙ (λ q. support_of baskets (j.2 q ∷ full)))

  -- the paths are a single branch exactly if the set's tree is
  branch_is : straight ≡ is_branch paths
  branch_is = same_test straight (is_branch paths) into_branch from_branch

  -- below a single branch there is no tree
  no_tree : straight ≡ true → (rank : ℕ) (more : List ℕ) → has_tree baskets base.coded.now.minimum (rank ∷ more ++ full) ≡ false
  no_tree h rank [] = grind (arith, common_steps)
  no_tree h rank (x ∷ more) = grind (arith, common_steps, no_tree h x more)

  pub base_is_straight : is_branch paths ≡ true → IsStraight node
  base_is_straight branch =
      let h = branch_is ∙ branch in record {
        supports = λ rank front less met each.
            ap (λ over. over.support (front ++ rank ∷ node.set)) is.numbered.over
            ∙ same_support baskets (front ++ rank ∷ node.set) (rank ∷ node.set) (λ receipt m. same_test _ _
            (λ k. contains_each receipt.basket (rank ∷ node.set) (λ x n. has_each receipt.basket (front ++ rank ∷ node.set) k x (Member-append_right x front (rank ∷ node.set) n)))
            (λ k. contains_each receipt.basket (front ++ rank ∷ node.set) (λ x n. elim (Member-append x front (rank ∷ node.set) n) [
              | inl in_front ↦
                  (let other = each x (has-from_Member front x in_front) in
                  Member-from_has receipt.basket x
                  (has_lower baskets base.coded.now.minimum node.below others (plain is.numbered) h x rank other.0 (joins x (omega (arith, other.0, less)) other.1) (joins rank less met) receipt m
                  (subst (λ set. contains receipt.basket (rank ∷ set) ≡ true) is.first.1 k)))
              | inr rest ↦ has_each receipt.basket (rank ∷ node.set) k x rest
            ])))
            ∙ ap (λ over. over.support (rank ∷ node.set)) (sym is.numbered.over);
        free = no_work_below (is_met node.over) node.over.work node.set (λ rank more.
            (λ i. (is.numbered.over i).work (rank ∷ more ++ is.first.1 i)) ∙ ap (λ b. cond b 1 0) (no_tree h rank more)) node.below [];
      }

  module _ (branches : is_branch paths ≡ false) where
    -- a tree is made for each set with one more rank
    pub tree_more : (rank : ℕ) → has_tree baskets base.coded.now.minimum (rank ∷ node.set) ≡ true
    tree_more rank = grind (arith, common_steps, branch_is)

    pub base_below : (number : ℕ) → number < length (ranks_of base) → (below : PatternBase) → IsBelow base number below → IsBase below (child node (rank_of is.numbered number))
    base_below number here below is_below = record {
      numbered = numbered_below is.numbered number here below is_below;
      ranks = ranks_are_kept is.numbered number here below is_below;
      supports = (λ i. map (λ (pair : ℕ × ℕ). pair.1) below.ranks.items)
          ∙ supports_are_kept is.numbered number here below is_below
          ∙ (λ i. map (λ r. support_of (sym is_below.coded i).now.baskets (r ∷ rank_of is.numbered number ∷ node.set)) (kept (child node (rank_of is.numbered number))));
      first = (node.set, refl);
      tree = subst (λ c. has_tree c.now.baskets c.now.minimum (rank_of is.numbered number ∷ node.set) ≡ true) (sym is_below.coded) (tree_more (rank_of is.numbered number));
    }

-- what follows if there is no value
pub none_then : {X : Type 0} (o : Option X) {P Q : Type 0} → IfNone o P → (P → Q) → IfNone o Q
none_then h1 h2 h3 = grind (arith, common_steps)
