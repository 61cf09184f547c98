-- How many candidates there are.
use Rattle.std.proofs.Common.{◌≡◌, ℕ, ◌+◌, ◌-◌, ◌*◌, ◌/◌, ◌≤◌, Bool, true, false, List, [], ◌∷◌, ◌++◌, length, map, cond, leb, refl, sym, ap, ◌∙◌, subst, arith, zero, suc}
use Rattle.std.proofs.lemmas.Grind.{common_steps}
use Rattle.std.specs.List.{filter, list_all}
use Rattle.std.proofs.Math.Nat.{add-mul, mul-div_cancel, suc-mul}
use Rattle.std.proofs.lemmas.Bool.{and_from, and_left, and_parts, cond_both, le-leb, lt-leb}
use Rattle.std.proofs.lemmas.List.{length-append, length-map}
use Rattle.std.proofs.lemmas.Simd.{map-map}
use Rattle.std.proofs.Math.Bool.{and-true}
use Rattle.std.proofs.lemmas.List.Elements.{filter-append, filter_agree}
use Rattle.std.proofs.lemmas.List.Kept.{IsStrictlySortedBy-filter}
use Rattle.basket_ranks.specs.Codes.{Coding}
use Rattle.basket_sets.specs.Frequent.{is_frequent}
use Rattle.basket_sets.specs.Order.{report_order, report_order_total}
use Rattle.basket_sets.specs.Subsets.{subsets_of_size}
use Rattle.basket_sets.specs.Support.{items_of}
use Rattle.basket_sets.proofs.theory.Items.{filter-map, filter_none, one_item}
use Rattle.basket_sets.proofs.theory.Members.{Member-filter, Member-from_filter, Member-from_map, Member-from_Contains, Contains-from_Member, same_members}
use Rattle.basket_sets.proofs.theory.Rising.{contains_each, has_each}
use Rattle.basket_sets.proofs.theory.Subsets.{IsSubset-from_Member, Member-from_IsSubset}
use Rattle.mine_apriori.specs.Candidates.{candidates_of}
use Rattle.mine_apriori.specs.Levels.{asked_of, level_of}
use Rattle.mine_apriori.specs.Work.{all_candidates, candidates_of_size, candidates_up_to, is_candidate}
use Rattle.mine_apriori.proofs.LawLemmas.{candidates_are_exact, candidates_are_in_report_order, of_size_in_order}
use Rattle.mine_apriori.proofs.LevelsLemmas.{candidate_items, empty_later, from_level, into_level, items_rise, level_sized, next_level, one_more, settled}
use Rattle.basket_sets.proofs.theory.Tests.{all_of, each_of}

-- ---- how many pairs there are

square : (n : ℕ) → n * 2 + n * (n - 1) ≡ n * n + n
square zero = refl
square (suc n) = grind (arith, common_steps)

-- the pairs of a rank and others
pairs_of : (rank : ℕ) (others : List ℕ) → map (λ set. rank ∷ set) (subsets_of_size 1 others) ≡ map (λ other. rank ∷ other ∷ []) others
pairs_of rank others = ap (map (λ set. rank ∷ set)) (one_item others) ∙ map-map (λ set. rank ∷ set) (λ other. other ∷ []) others

length-pairs : (xs : List ℕ) → length (subsets_of_size 2 xs) * 2 ≡ length xs * (length xs - 1)
length-pairs [] = refl
length-pairs (x ∷ xs) = grind (arith, common_steps, length-pairs xs, pairs_of, length-append, length-map, add-mul, square, suc-mul)

-- ---- what is asked are the candidates

module _ (coding : Coding) where
  abbrev items : List ℕ
  items = items_of coding.baskets

  abbrev passes : List ℕ → Bool
  passes set = is_frequent coding.baskets coding.minimum set

  abbrev tests : List ℕ → Bool
  tests set = is_candidate coding.baskets coding.minimum set

  abbrev up_to : ℕ → List (List ℕ)
  up_to size = candidates_up_to coding.baskets coding.minimum size

  pub asked_are : (size : ℕ) → 1 ≤ size → asked_of coding size ≡ candidates_of_size coding.baskets coding.minimum (size + 1)
  asked_are size some =
      let level = level_of coding size in
      let up = items_rise coding in
      let exact = λ (set : List ℕ). candidates_are_exact size level set some (level_sized coding size) in
      same_members report_order_total (asked_of coding size) (candidates_of_size coding.baskets coding.minimum (size + 1))
      (candidates_are_in_report_order level)
      (IsStrictlySortedBy-filter report_order tests (subsets_of_size (size + 1) items) (of_size_in_order (size + 1) items up))
      (λ set m. let c = (exact set).0 (Contains-from_Member set (asked_of coding size) m) in
      let one : size ≡ length set - 1 = omega (arith, c.sized) in
      Member-from_filter tests set (subsets_of_size (size + 1) items)
      (Member-from_IsSubset (size + 1) items set up (record { rises = c.rises; sized = c.sized; within = candidate_items coding size set m }))
      (and_from (leb 2 (length set)) (list_all passes (subsets_of_size (length set - 1) set)) (le-leb 2 (length set) (omega (arith, c.sized)))
      (subst (λ n. list_all passes (subsets_of_size n set) ≡ true) one (all_of passes (subsets_of_size size set) (λ subset n.
      let s = IsSubset-from_Member size set subset c.rises n in
      (from_level coding size subset (Member-from_Contains subset level (c.subsets subset s.rises s.sized (contains_each set subset s.within)))).1)))))
      (λ set m. let k = Member-filter tests set (subsets_of_size (size + 1) items) m in
      let s = IsSubset-from_Member (size + 1) items set up k.0 in
      let one : length set - 1 ≡ size = omega (arith, s.sized) in
      let all = subst (λ n. list_all passes (subsets_of_size n set) ≡ true) one (and_parts (leb 2 (length set)) (list_all passes (subsets_of_size (length set - 1) set)) k.1).1 in
      Member-from_Contains set (asked_of coding size) ((exact set).1 (record {
        rises = s.rises;
        sized = s.sized;
        subsets = λ subset rises sized within.
            Contains-from_Member subset level (into_level coding size subset rises sized
            (each_of passes (subsets_of_size size set) all subset (Member-from_IsSubset size set subset s.rises (record { rises = rises; sized = sized; within = has_each set subset within }))));
      })))

  pub candidates_next : (size : ℕ) → 1 ≤ size → up_to (size + 1) ≡ up_to size ++ asked_of coding size
  candidates_next size some = one_more tests items size ∙ ap (λ l. up_to size ++ l) (sym (asked_are size some))

  -- no set of one item is a candidate
  pub none_of_one : up_to 1 ≡ []
  none_of_one = filter_none tests (subsets_of_size 1 items) (λ set m.
      let s = IsSubset-from_Member 1 items set (items_rise coding) m in
      and_left (leb 2 (length set)) (list_all passes (subsets_of_size (length set - 1) set)) (lt-leb 2 (length set) (omega (arith, s.sized))))

  -- where nothing is asked, the candidates so far are all
  pub candidates_end : (size : ℕ) → 1 ≤ size → asked_of coding size ≡ [] → up_to (size + 1) ≡ all_candidates coding.baskets coding.minimum
  candidates_end size some none =
      let next : level_of coding (size + 1) ≡ [] = sym (next_level coding size some) ∙ ap (filter passes) none in
      settled tests items (size + 1) (λ k.
      let later : size + 1 + 1 + k ≡ size + 1 + k + 1 = omega arith in
      ap (candidates_of_size coding.baskets coding.minimum) later ∙ sym (asked_are (size + 1 + k) (omega arith)) ∙ ap candidates_of (empty_later coding (size + 1) k (omega arith) next))

  -- ---- the candidates of two ranks are all pairs of frequent ranks

  abbrev frequent : ℕ → Bool
  frequent rank = passes (rank ∷ [])

  abbrev ranks : List ℕ
  ranks = filter frequent items

  level_long : length (level_of coding 1) ≡ length ranks
  level_long = grind (arith, common_steps, one_item, filter-map, length-map)

  -- a pair is a candidate if both ranks are frequent
  pairs_with : (rank : ℕ) (b : Bool) (others : List ℕ) → frequent rank ≡ b → filter tests (map (λ other. rank ∷ other ∷ []) others) ≡ cond b (map (λ other. rank ∷ other ∷ []) (filter frequent others)) []
  pairs_with h1 h2 h3 h4 = grind (arith, common_steps, filter-map, filter_agree, and-true, filter_none, Member-from_map)

  frequent_pairs : (all : List ℕ) → filter tests (subsets_of_size 2 all) ≡ subsets_of_size 2 (filter frequent all)
  frequent_pairs [] = refl
  frequent_pairs (rank ∷ others) =
      filter-append tests (map (λ set. rank ∷ set) (subsets_of_size 1 others)) (subsets_of_size 2 others) ∙ (λ i. filter tests (pairs_of rank others i) ++ frequent_pairs others i)
      ∙ cond_both (frequent rank) (rank ∷ kept) kept (λ l. filter tests (map (λ other. rank ∷ other ∷ []) others) ++ subsets_of_size 2 kept ≡ subsets_of_size 2 l)
      (λ is. ap (λ l. l ++ subsets_of_size 2 kept) (pairs_with rank true others is ∙ sym (pairs_of rank kept))) (λ is. ap (λ l. l ++ subsets_of_size 2 kept) (pairs_with rank false others is))
    where
      kept : List ℕ
      kept = filter frequent others

  pub pair_count : length (candidates_up_to coding.baskets coding.minimum 2) ≡ length (level_of coding 1) * (length (level_of coding 1) - 1) / 2
  pair_count =
      ap length (one_more tests items 1 ∙ (λ i. none_of_one i ++ frequent_pairs items i))
      ∙ sym (mul-div_cancel (length (subsets_of_size 2 ranks)) (omega arith)) ∙ ap (λ n. n / 2) (length-pairs ranks) ∙ ap (λ n. n * (n - 1) / 2) (sym level_long)
