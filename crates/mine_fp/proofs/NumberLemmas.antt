-- Pattern bases, whose ranks have numbers of their own.
use Rattle.std.proofs.Common.{◌≡◌, ℕ, ◌<◌, ◌≤◌, Bool, true, ◌&&◌, List, [], ◌∷◌, ◌++◌, get_or, length, map, refl, sym, ap, ◌∙◌, subst, inl, inr, arith, append_assoc}
use Rattle.std.proofs.lemmas.Grind.{common_steps}
use Rattle.std.specs.List.{range_with_len}
use Rattle.std.proofs.lemmas.Bool.{cases_order, le-leb, leb-true, lt-ltb}
use Rattle.std.proofs.lemmas.List.{length-map, map-append}
use Rattle.std.proofs.lemmas.List.Elements.{recursion_from_All}
use Rattle.basket_ranks.specs.Codes.{Coding, IsCodedBasket, IsCoding}
use Rattle.basket_sets.specs.declared.weighted.Weighted.{Weighted}
use Rattle.basket_sets.specs.declared.minimum.Minimum.TheVariants.{Count}
use Rattle.basket_sets.specs.Counts.{AllBelow}
use Rattle.basket_sets.specs.Database.{HasWeight}
use Rattle.basket_sets.specs.Frequent.{is_frequent}
use Rattle.basket_sets.specs.Itemset.{IsRising, has}
use Rattle.basket_sets.specs.Minimum.{IsLeastSupport}
use Rattle.basket_sets.specs.Support.{support_of, total_of}
use Rattle.basket_sets.proofs.theory.Members.{Contains-from_Member, Member, Member-append, Member-filter, Member-from_map, Member-map, at_Member}
use Rattle.basket_sets.proofs.theory.Ranges.{Member-range}
use Rattle.basket_sets.proofs.theory.Rising.{Member-from_has, cons_rises, first_below, has-from_Member, nil_rises, rest_rises, same_rising}
use Rattle.basket_sets.proofs.theory.Support.{support_falls}
use Rattle.basket_sets.proofs.theory.Tests.{Member-at, rising_at}
use Rattle.mine_classes.specs.Conditional.{is_kept}
use Rattle.mine_pairs.specs.Pairs.{kept_ranks, named_pair, pairs_of}
use Rattle.mine_classes.proofs.theory.Conditional.{support_with}
use Rattle.mine_pairs.proofs.theory.Kept.{Member-kept, kept_rises, kept_below as below_kept, pair_ranks as first_ranks}
use Rattle.mine_fp.specs.declared.pattern_base.PatternBase.{PatternBase}
use Rattle.mine_fp.specs.PatternBase.{IsBelow, IsNumbered, named, ranks_of, supports_in}
use Rattle.mine_conditional.proofs.theory.Numbers.{named_among, named_twice, support_below}
use Rattle.mine_fp.proofs.StraightLemmas.{ArePlain}
use Rattle.mine_search.specs.Node.{Node, child, is_met, kept}
use Rattle.mine_search.proofs.theory.Walk.{kept_has, kept_lower, kept_passes, kept_rises as walk_rises}

-- the ranks of rising numbers rise
ranks_rise : (ranks numbers : List ℕ) → IsRising ranks → IsRising numbers → AllBelow (length ranks) numbers → IsRising (named ranks numbers)
ranks_rise ranks [] up over within = nil_rises
ranks_rise ranks (k ∷ numbers) up over within =
    cons_rises (get_or ranks k 0) (named ranks numbers)
    (λ y m. let p = Member-from_map (λ j. get_or ranks j 0) y numbers m in
    subst (λ z. get_or ranks k 0 < z) p.2 (rising_at ranks k p.0 up (first_below k numbers over p.0 p.1) (within p.0 (has-from_Member (k ∷ numbers) p.0 (inr p.1)))))
    (ranks_rise ranks numbers up (rest_rises k numbers over) (λ j h. within j (has-from_Member (k ∷ numbers) j (inr (Member-from_has numbers j h)))))

coding_plain : (coding : Coding) → IsCoding coding → ArePlain coding.baskets
coding_plain coding is receipt m = (
  (at_Member (IsCodedBasket coding.items) receipt coding.baskets (recursion_from_All (IsCodedBasket coding.items) coding.baskets is.each) m).0,
  at_Member HasWeight receipt coding.baskets (recursion_from_All HasWeight coding.baskets is.weights) m,
)

module _ {base : PatternBase} {node : Node} (is : IsNumbered base node) where
  abbrev coding : Coding
  coding = base.coded.now

  abbrev paths : List Weighted
  paths = base.paths.baskets

  abbrev ranks : List ℕ
  ranks = ranks_of base

  abbrev pub rank_of : ℕ → ℕ
  rank_of number = get_or ranks number 0

  abbrev count : ℕ
  count = length ranks

  pub plain : ArePlain coding.baskets
  plain = coding_plain coding is.coding

  -- what is frequent in the search is frequent in the coding
  pub tests : (set : List ℕ) → is_met node.over set ≡ is_frequent coding.baskets coding.minimum set
  tests set = grind (arith, common_steps, support_falls)

  pub support_numbers : (numbers : List ℕ) → AllBelow count numbers → support_of coding.baskets (named ranks numbers ++ node.set) ≡ support_of paths numbers
  support_numbers numbers low = is.supports numbers (subst (λ n. AllBelow n numbers) is.long low)

  -- a test of numbers by the paths is one of their ranks by the coding
  met_numbers : (numbers : List ℕ) → AllBelow count numbers → is_frequent paths (Count base.least) numbers ≡ is_met node.over (named ranks numbers ++ node.set)
  met_numbers numbers low = grind (arith, common_steps)

  pub none_below : AllBelow count []
  none_below j h = absurd cc

  pub more_below : (k : ℕ) (numbers : List ℕ) → k < count → AllBelow count numbers → AllBelow count (k ∷ numbers)
  more_below k numbers here low j h = grind (arith, common_steps)

  pub ranks_less : (i j : ℕ) → i < j → j < count → rank_of i < rank_of j
  ranks_less i j less here = rising_at ranks i j is.rises less here

  pub numbers_less : (i j : ℕ) → i < count → j < count → rank_of i < rank_of j → i < j
  numbers_less i j here there less = grind (arith, common_steps, cases_order, ranks_less)

  pub number_of : (rank : ℕ) → rank < node.below → is_met node.over (rank ∷ node.set) ≡ true → (k : ℕ) × (k < count) × (rank_of k ≡ rank)
  number_of rank less h = let c = Contains-from_Member rank ranks (Member-from_has ranks rank (is.all rank less h)) in grind (arith, common_steps)

  -- ---- the pattern base of the set with one more rank

  module _ (number : ℕ) (here : number < count) where
    abbrev rank : ℕ
    rank = rank_of number

    abbrev chosen : List ℕ
    chosen = kept_ranks paths base.least number

    abbrev test : List ℕ → Bool
    test = is_met node.over

    rank_low : rank < node.below
    rank_low = is.low rank (has-from_Member ranks rank (Member-at ranks number here))

    chosen_low : AllBelow count chosen
    chosen_low k h = let less = below_kept paths base.least number k h in omega arith

    -- a number is chosen if its rank is frequent together with the set and the rank
    chosen_test : (k : ℕ) → k < number → is_kept paths base.least number k ≡ test (rank_of k ∷ rank ∷ node.set)
    chosen_test k less = ap (λ b. b && is_frequent paths (Count base.least) (k ∷ number ∷ [])) (lt-ltb k number less) ∙ met_numbers (k ∷ number ∷ []) (more_below k (number ∷ []) (omega arith) (more_below number [] here none_below))

    chosen_are : map rank_of chosen ≡ kept (child node rank)
    chosen_are = same_rising (map rank_of chosen) (kept (child node rank)) (ranks_rise ranks chosen is.rises (kept_rises paths base.least number) chosen_low) (walk_rises test rank (rank ∷ node.set))
        (λ z m. let d = Member-from_map rank_of z chosen m in
        let inside = Member-filter (is_kept paths base.least number) d.0 (range_with_len 0 number) d.1 in
        let less : d.0 < number = let p = (Member-range 0 number d.0 inside.0).1 in omega arith in
        subst (λ r. Member r (kept (child node rank))) d.2
        (kept_has test rank (rank ∷ node.set) (rank_of d.0) (ranks_less d.0 number less here) (sym (chosen_test d.0 less) ∙ inside.1)))
        (λ z m. let less = kept_lower test rank (rank ∷ node.set) z m in
        let passes = kept_passes test rank (rank ∷ node.set) z m in
        let k = number_of z (let low = rank_low in omega arith) (falls z passes) in
        let before = numbers_less k.0 number k.1 here (subst (λ r. r < rank) (sym k.2) less) in
        subst (λ r. Member r (map rank_of chosen)) k.2
        (Member-map rank_of k.0 chosen (Member-kept paths base.least number k.0 (chosen_test k.0 before ∙ ap (λ r. test (r ∷ rank ∷ node.set)) k.2 ∙ passes))))
      where
        falls : (z : ℕ) → test (z ∷ rank ∷ node.set) ≡ true → test (z ∷ node.set) ≡ true
        falls z h =
            let over = is.over in
            let less = support_with coding.baskets rank z node.set in
            let enough = leb-true base.least (support_of coding.baskets (z ∷ rank ∷ node.set)) (sym (ap (λ o. is_met o (z ∷ rank ∷ node.set)) over) ∙ h) in
            ap (λ o. is_met o (z ∷ node.set)) over ∙ le-leb base.least (support_of coding.baskets (z ∷ node.set)) (omega arith)

    -- without pairs there is none
    pub none_are_kept : pairs_of paths base.least number ≡ [] → kept (child node rank) ≡ []
    none_are_kept none = sym chosen_are ∙ ap (map rank_of) (sym (first_ranks paths base.least number) ∙ ap (map (λ (pair : ℕ × ℕ). pair.0)) none)

    pair_ranks : (numbers : List ℕ) → map (λ (pair : ℕ × ℕ). pair.0) (map (named_pair ranks) (map (λ other. (other, support_of paths (other ∷ number ∷ []))) numbers)) ≡ map rank_of numbers
    pair_ranks [] = refl
    pair_ranks (k ∷ numbers) = ap (λ l. rank_of k ∷ l) (pair_ranks numbers)

    pair_supports : (numbers : List ℕ) → AllBelow count numbers → map (λ (pair : ℕ × ℕ). pair.1) (map (named_pair ranks) (map (λ other. (other, support_of paths (other ∷ number ∷ []))) numbers))
        ≡ map (λ r. support_of coding.baskets (r ∷ rank ∷ node.set)) (map rank_of numbers)
    pair_supports [] low = refl
    pair_supports (k ∷ numbers) low =
        let first = low k (has-from_Member (k ∷ numbers) k (inl refl)) in
        (λ i. sym (support_numbers (k ∷ number ∷ []) (more_below k (number ∷ []) first (more_below number [] here none_below))) i
        ∷ pair_supports numbers (λ j h. low j (has-from_Member (k ∷ numbers) j (inr (Member-from_has numbers j h)))) i)

    -- its numbers are numbers of the greater pattern base
    numbers_low : (numbers : List ℕ) → AllBelow (length chosen) numbers → AllBelow count (named chosen numbers ++ number ∷ [])
    numbers_low numbers low j h = elim (Member-append j (named chosen numbers) (number ∷ []) (Member-from_has (named chosen numbers ++ number ∷ []) j h)) [
      | inl m ↦ chosen_low j (has-from_Member chosen j (named_among chosen numbers low j m))
      | inr (inl e) ↦ subst (λ n. n < count) e here
      | inr (inr m) ↦ absurd m
    ]

    module _ (below : PatternBase) (is_below : IsBelow base number below) where
      below_ranks : ranks_of below ≡ map rank_of chosen
      below_ranks = ap (map (λ (pair : ℕ × ℕ). pair.0)) is_below.ranks ∙ pair_ranks chosen

      pub ranks_are_kept : ranks_of below ≡ kept (child node rank)
      ranks_are_kept = below_ranks ∙ chosen_are

      pub supports_are_kept : map (λ (pair : ℕ × ℕ). pair.1) below.ranks.items ≡ map (λ r. support_of coding.baskets (r ∷ rank ∷ node.set)) (kept (child node rank))
      supports_are_kept =
          ap (map (λ (pair : ℕ × ℕ). pair.1)) is_below.ranks ∙ pair_supports chosen chosen_low ∙ ap (map (λ r. support_of coding.baskets (r ∷ rank ∷ node.set))) chosen_are

      supports_below : (numbers : List ℕ) → AllBelow (length chosen) numbers → support_of coding.baskets (named (ranks_of below) numbers ++ rank ∷ node.set) ≡ support_of below.paths.baskets numbers
      supports_below numbers low =
          (λ i. support_of coding.baskets (named (below_ranks i) numbers ++ rank ∷ node.set))
          ∙ (λ i. support_of coding.baskets (named_twice ranks chosen numbers low i ++ rank ∷ node.set))
          ∙ ap (support_of coding.baskets) (sym (append_assoc (named ranks (named chosen numbers)) (rank ∷ []) node.set) ∙ ap (λ l. l ++ node.set) (sym (map-append rank_of (named chosen numbers) (number ∷ []))))
          ∙ support_numbers (named chosen numbers ++ number ∷ []) (numbers_low numbers low)
          ∙ sym (support_below paths base.least number below.paths is_below.conditional numbers low)

      pub numbered_below : IsNumbered below (child node rank)
      numbered_below = record {
        over = is.over ∙ (λ i. supports_in (sym is_below.coded i).now (sym is_below.least i));
        coding = subst (λ c. IsCoding c.now) (sym is_below.coded) is.coding;
        least = subst (λ c. IsLeastSupport c.now.minimum (total_of c.now.baskets) below.least) (sym is_below.coded) (subst (λ n. IsLeastSupport coding.minimum (total_of coding.baskets) n) (sym is_below.least) is.least);
        ranked = is_below.conditional.ranked;
        long = ap length below_ranks ∙ length-map chosen rank_of ∙ sym is_below.conditional.ranks;
        rises = subst IsRising (sym ranks_are_kept) (walk_rises test rank (rank ∷ node.set));
        low = λ r h. kept_lower test rank (rank ∷ node.set) r (Member-from_has (kept (child node rank)) r (subst (λ l. has l r ≡ true) ranks_are_kept h));
        known = subst (λ c. rank ≤ length c.now.items) (sym is_below.coded) (let less = rank_low in let most = is.known in omega arith);
        all = λ r less h. subst (λ l. has l r ≡ true) (sym ranks_are_kept) (has-from_Member (kept (child node rank)) r (kept_has test rank (rank ∷ node.set) r less h));
        supports = λ numbers low.
            (λ i. support_of (is_below.coded i).now.baskets (named (ranks_of below) numbers ++ rank ∷ node.set))
            ∙ supports_below numbers (subst (λ n. AllBelow n numbers) is_below.conditional.ranks low);
      }
