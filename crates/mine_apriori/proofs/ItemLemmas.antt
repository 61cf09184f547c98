-- The candidates of baskets of items are those of the baskets of ranks.
use Rattle.std.proofs.Common.{◌≡◌, ℕ, ◌<◌, Bool, true, false, List, [], ◌∷◌, length, get_or, map, refl, sym, ap, ◌∙◌, subst, inl, inr, arith}
use Rattle.std.proofs.lemmas.Grind.{common_steps}
use Rattle.std.specs.Cmp.{eq_by_cmp_equiv}
use Rattle.std.specs.Cmp.Lexicographic.{bytes_decides}
use Rattle.std.specs.List.{IsDistinct, list_any}
use Rattle.std.specs.Ordering.{eq_by_cmp}
use Rattle.std.proofs.lemmas.Bool.{cases_Bool, true≢false}
use Rattle.std.proofs.lemmas.List.{get_or_default, length-map}
use Rattle.std.proofs.lemmas.Map.Keys.{IsDistinct-from_sorted}
use Rattle.std.proofs.lemmas.Map.Made.{length-from_same_keys}
use Rattle.std.proofs.lemmas.Map.Views.{Contains-from_any, list_any-from_Contains}
use Rattle.basket_ranks.specs.Codes.{Coding, IsCoding, baskets_of, coded, decoded}
use Rattle.basket_ranks.proofs.theory.Coding.{from_decoded, from_ranks, into_decoded, ranks_rise}
use Rattle.basket_ranks.proofs.theory.Decoding.{decoded_apart, items_ranked, length-decoded, rank_from_decoded, ranks_below, recoded, test_is}
use Rattle.basket_sets.specs.Counts.{AllBelow}
use Rattle.basket_sets.specs.Frequent.{is_frequent}
use Rattle.basket_sets.specs.Order.{report_order, report_order_ties, report_order_total}
use Rattle.basket_sets.proofs.theory.Members.{Member, All-from_Member, at_Member, Member-map, Member-from_map, Member-from_Contains, Contains-from_Member}
use Rattle.basket_sets.proofs.theory.Rising.{has-from_Member, Member-from_has, rising-rises, same_test}
use Rattle.mine_apriori.specs.Work.{all_candidates, candidate_count}
use Rattle.mine_apriori.proofs.LawLemmas.{IsOne, candidates_sorted, from_all, in_frequent, into_all}

-- ---- ranks and items

itself : (set : List ℕ) → eq_by_cmp report_order set set ≡ true
itself set = sym (report_order_ties set set) ∙ (bytes_decides set set).1 refl

same_sets : (a b : List ℕ) → eq_by_cmp report_order a b ≡ true → a ≡ b
same_sets a b e = (bytes_decides a b).0 (report_order_ties a b ∙ e)

module _ (coding : Coding) (is : IsCoding coding) where
  abbrev items : List ℕ
  items = coding.items

  coded_below : (set : List ℕ) → AllBelow (length items) (coded items set)
  coded_below set rank here = let r = from_ranks 0 items set rank (Member-from_has (coded items set) rank here) in omega (arith, r.1, r.2)

  abbrev by_rank : List ℕ → Type 0
  by_rank set = IsOne coding.baskets coding.minimum set

  abbrev by_item : List ℕ → Type 0
  by_item set = IsOne (baskets_of coding) coding.minimum set

  ranks_within : (set : List ℕ) → by_rank set → AllBelow (length items) set
  ranks_within set one rank here = let f = in_frequent coding.baskets coding.minimum set one rank (Member-from_has set rank here) in grind (arith, common_steps, ranks_below, has-from_Member)

  items_within : (set : List ℕ) → by_item set → (item : ℕ) → Member item set → Member item items
  items_within set one item m = let f = in_frequent (baskets_of coding) coding.minimum set one item m in items_ranked coding is f.0 f.1 item f.2

  rank_item : (rank : ℕ) → rank < length items → Member (get_or items rank 0) items
  rank_item rank below = Member-from_Contains (get_or items rank 0) items (rank, below, get_or_default items rank (get_or items rank 0) 0 below)

  -- a candidate of ranks is, decoded, one of items
  decoded_one : (set : List ℕ) → by_rank set → by_item (decoded items set)
  decoded_one set one =
      let below = ranks_within set one in
      let long = length-decoded items set is.distinct one.rises below in
      record {
        rises = rising-rises (map (λ rank. get_or items rank 0) set);
        some = omega (arith, long, one.some);
        subsets = λ subset rises sized within.
            let ranked = λ (item : ℕ) (m : Member item subset). let d = from_decoded items set item (within item m) in
            subst (λ x. Member x items) d.2 (rank_item d.0 (below d.0 (has-from_Member set d.0 d.1))) in
            let ranks = coded items subset in
            let back = recoded items subset rises ranked in
            let up = ranks_rise 0 items subset in
            let inside = coded_below subset in
            let length_is = length-decoded items ranks is.distinct up inside in
            let rank_within : (rank : ℕ) → Member rank ranks → Member rank set = λ rank m.
            rank_from_decoded items set rank is.distinct below (inside rank (has-from_Member ranks rank m)) (within (get_or items rank 0) (subst (Member (get_or items rank 0)) back (into_decoded items ranks rank m))) in
            ap (is_frequent (baskets_of coding) coding.minimum) (sym back) ∙ test_is coding is ranks inside
            ∙ one.subsets ranks up (omega (arith, length_is, ap length back, sized, long)) rank_within;
      }

  -- and the ranks of a candidate of items are one of ranks
  coded_one : (set : List ℕ) → by_item set → by_rank (coded items set)
  coded_one set one =
      let ranks = coded items set in
      let back = recoded items set one.rises (items_within set one) in
      let up = ranks_rise 0 items set in
      let inside = coded_below set in
      let long = length-decoded items ranks is.distinct up inside in
      record {
        rises = up;
        some = omega (arith, long, ap length back, one.some);
        subsets = λ subset rises sized within.
            let below : AllBelow (length items) subset = λ rank h. inside rank (has-from_Member ranks rank (within rank (Member-from_has subset rank h))) in
            let length_is = length-decoded items subset is.distinct rises below in
            sym (test_is coding is subset below)
            ∙ one.subsets (decoded items subset) (rising-rises (map (λ rank. get_or items rank 0) subset)) (omega (arith, length_is, sized, long, ap length back))
            (λ item m. let d = from_decoded items subset item m in
            subst (λ x. Member x set) d.2 (subst (Member (get_or items d.0 0)) back (into_decoded items ranks d.0 (within d.0 d.1))));
      }

  abbrev rank_sets : List (List ℕ)
  rank_sets = all_candidates coding.baskets coding.minimum

  abbrev item_sets : List (List ℕ)
  item_sets = all_candidates (baskets_of coding) coding.minimum

  into_item_sets : (set : List ℕ) → Member set (map (decoded items) rank_sets) → Member set item_sets
  into_item_sets set m =
      let p = Member-from_map (decoded items) set rank_sets m in
      subst (λ s. Member s item_sets) p.2 (into_all (baskets_of coding) coding.minimum (decoded items p.0) (decoded_one p.0 (from_all coding.baskets coding.minimum p.0 p.1)))

  from_item_sets : (set : List ℕ) → Member set item_sets → Member set (map (decoded items) rank_sets)
  from_item_sets set m =
      let one = from_all (baskets_of coding) coding.minimum set m in
      subst (λ s. Member s (map (decoded items) rank_sets)) (recoded items set one.rises (items_within set one))
      (Member-map (decoded items) (coded items set) rank_sets (into_all coding.baskets coding.minimum (coded items set) (coded_one set one)))

  abbrev same : List ℕ → List ℕ → Bool
  same a b = eq_by_cmp report_order a b

  decoded_distinct : (sets : List (List ℕ)) → ((set : List ℕ) → Member set sets → by_rank set) → IsDistinct same sets → IsDistinct same (map (decoded items) sets)
  unfolding IsDistinct
  decoded_distinct [] ones apart = tt
  decoded_distinct (set ∷ sets) ones apart = (
    All-from_Member (λ y. same (decoded items set) y ≡ false) (map (decoded items) sets) (λ y m.
        let p = Member-from_map (decoded items) y sets m in
        subst (λ z. same (decoded items set) z ≡ false) p.2 (differs p.0 p.1)),
    decoded_distinct sets (λ other m. ones other (inr m)) apart.1,
  )
    where
      differs : (other : List ℕ) → Member other sets → same (decoded items set) (decoded items other) ≡ false
      differs other m = elim (cases_Bool (same (decoded items set) (decoded items other))) [
        | inl e ↦ (let a = ones set (inl refl) in let b = ones other (inr m) in
            let equal = decoded_apart items set other is.distinct a.rises b.rises (ranks_within set a) (ranks_within other b) (same_sets (decoded items set) (decoded items other) e) in
            absurd (true≢false (sym (itself set) ∙ ap (same set) equal ∙ at_Member (λ y. same set y ≡ false) other sets apart.0 m)))
        | inr e ↦ e
      ]

  pub as_many_candidates : candidate_count coding.baskets coding.minimum ≡ candidate_count (baskets_of coding) coding.minimum
  as_many_candidates =
      sym (length-map rank_sets (decoded items))
      ∙ length-from_same_keys (eq_by_cmp_equiv report_order_total) (map (decoded items) rank_sets) item_sets
      (decoded_distinct rank_sets (λ set m. from_all coding.baskets coding.minimum set m) (IsDistinct-from_sorted report_order rank_sets (candidates_sorted coding.baskets coding.minimum)))
      (IsDistinct-from_sorted report_order item_sets (candidates_sorted (baskets_of coding) coding.minimum))
      (λ set. same_test _ _
      (λ h. has set item_sets (into_item_sets set (found set (map (decoded items) rank_sets) h)))
      (λ h. has set (map (decoded items) rank_sets) (from_item_sets set (found set item_sets h))))
    where
      found : (set : List ℕ) (sets : List (List ℕ)) → list_any (same set) sets ≡ true → Member set sets
      found set sets h = Member-from_Contains set sets (Contains-from_any same_sets set sets h)

      has : (set : List ℕ) (sets : List (List ℕ)) → Member set sets → list_any (same set) sets ≡ true
      has set sets m = list_any-from_Contains (eq_by_cmp_equiv report_order_total) set sets (Contains-from_Member set sets m)
