-- The baskets of a cover, kept to some numbers.
use Rattle.std.proofs.Common.{◌≡◌, ℕ, ◌+◌, ◌<◌, ◌≤◌, true, ◌&&◌, List, [], ◌∷◌, ◌++◌, length, get_or, map, refl, sym, ap, ◌∙◌, subst, inl, inr, arith}
use Rattle.std.specs.Prelude.{All}
use Rattle.std.proofs.lemmas.List.{get_or-map, length-map}
use Rattle.std.proofs.lemmas.List.Elements.{All-from_recursion, All-map}
use Rattle.basket_ranks.specs.Codes.{coded, coded_basket}
use Rattle.basket_ranks.proofs.theory.Coding.{from_ranks, into_ranks}
use Rattle.basket_sets.specs.declared.weighted.Weighted.{Weighted}
use Rattle.basket_sets.specs.Counts.{AllBelow}
use Rattle.basket_sets.specs.Itemset.{contains, has}
use Rattle.basket_sets.specs.Support.{support_of, total_of}
use Rattle.basket_sets.proofs.theory.Members.{Member, All-from_Member}
use Rattle.basket_sets.proofs.theory.Rising.{Member-from_has, has-from_Member, same_test}
use Rattle.basket_sets.proofs.theory.Support.{support_falls}
use Rattle.mine_baskets.specs.declared.span.Span.{Span}
use Rattle.mine_baskets.specs.Covers.{cover_of}
use Rattle.mine_baskets.specs.ListBaskets.{AreRankBaskets, HaveSameWeights, IsRankBasket, weight_where}
use Rattle.mine_baskets.specs.Span.{IsWithin, basket_at, baskets_at}
use Rattle.mine_baskets.proofs.theory.Weights.{changed_weight}
use Rattle.mine_vertical.specs.declared.local_baskets.LocalBaskets.{LocalBaskets}
use Rattle.mine_vertical.specs.LocalBaskets.{IsNarrowed, baskets_in, named}
use Rattle.mine_vertical.proofs.CoverLemmas.{covered_are, covered_support, from_cover, none_at}

-- what holds of all items holds of those at some indexes
all_at : {X : Type 0} (P : X → Type 0) (items : List X) (none : X) (indexes : List ℕ) → ((index : ℕ) → Member index indexes → index < length items) → All P items → All P (map (λ index. get_or items index none) indexes)
all_at P items none indexes inside all =
    All-map P (λ index. get_or items index none) indexes
    (All-from_recursion (λ index. P (get_or items index none)) indexes (All-from_Member (λ index. P (get_or items index none)) indexes (λ index m. all index none (inside index m))))

module _ (baskets : List Weighted) (set : List ℕ) where
  -- the baskets of the cover of the set
  abbrev covered : List Weighted
  covered = map (λ tid. get_or baskets tid none_at) (cover_of baskets set)

  supports_of : (more : List ℕ) → support_of covered more ≡ support_of baskets (more ++ set)
  supports_of more = ap (λ l. support_of l more) (covered_are baskets set) ∙ covered_support baskets set more

  covered_light : total_of covered ≤ total_of baskets
  covered_light = let same = supports_of [] in let less = support_falls baskets set [] refl in omega arith

-- a basket that is kept to some numbers has the indexes of those that it has
coded_contains : (kept basket indexes : List ℕ) → AllBelow (length kept) indexes → contains (coded kept basket) indexes ≡ contains basket (named kept indexes)
coded_contains kept basket [] low = refl
coded_contains kept basket (k ∷ indexes) low =
    ap (λ b. b && contains (coded kept basket) indexes) (same_test (has (coded kept basket) k) (has basket (get_or kept k 0)) from into)
    ∙ ap (λ b. has basket (get_or kept k 0) && b) (coded_contains kept basket indexes (λ x h. low x (has-from_Member (k ∷ indexes) x (inr (Member-from_has indexes x h)))))
  where
    from : has (coded kept basket) k ≡ true → has basket (get_or kept k 0) ≡ true
    from h =
        let r = from_ranks 0 kept basket k (Member-from_has (coded kept basket) k h) in
        let same : k ≡ r.0 = omega (arith, r.2) in ap (λ n. has basket (get_or kept n 0)) same ∙ r.3

    into : has basket (get_or kept k 0) ≡ true → has (coded kept basket) k ≡ true
    into h =
        let same : 0 + k ≡ k = omega arith in
        has-from_Member (coded kept basket) k (subst (λ n. Member n (coded kept basket)) same (into_ranks 0 kept basket k (low k (has-from_Member (k ∷ indexes) k (inl refl))) h))

-- so they have the supports of these numbers
coded_support : (kept : List ℕ) (baskets others : List Weighted) (indexes : List ℕ) → AllBelow (length kept) indexes → HaveSameWeights (map (coded_basket kept) baskets) others
    → support_of others indexes ≡ support_of baskets (named kept indexes)
coded_support kept baskets others indexes low same =
    sym (same (λ basket. contains basket indexes)) ∙ changed_weight (λ basket. contains basket indexes) (coded kept) baskets
    ∙ (λ i. weight_where (λ basket. coded_contains kept basket indexes low i) baskets)

-- ---- parts of a list of numbers

abbrev pub no_span : Span
no_span = record { start = 0; end = 0; weight = 0 }

at_spans : (numbers : List ℕ) (spans : List Span) (indexes : List ℕ) → ((index : ℕ) → Member index indexes → index < length spans)
    → baskets_at numbers (map (λ index. get_or spans index no_span) indexes) ≡ map (λ index. get_or (baskets_at numbers spans) index none_at) indexes
at_spans numbers spans [] inside = refl
at_spans numbers spans (index ∷ indexes) inside =
    λ i. sym (get_or-map (basket_at numbers) spans index no_span none_at (inside index (inl refl))) i ∷ at_spans numbers spans indexes (λ other m. inside other (inr m)) i

pub cover_inside : (local : LocalBaskets) (set : List ℕ) (index : ℕ) → Member index (cover_of (baskets_in local) set) → index < length local.spans.items
cover_inside local set index m = subst (λ n. index < n) (length-map local.spans.items (basket_at local.numbers.items)) (from_cover (baskets_in local) set index m).0

module _ (local : LocalBaskets) (set : List ℕ) (chosen : List Span) (are : chosen ≡ map (λ index. get_or local.spans.items index no_span) (cover_of (baskets_in local) set)) where
  abbrev baskets : List Weighted
  baskets = baskets_in local

  chosen_are : baskets_at local.numbers.items chosen ≡ covered baskets set
  chosen_are = ap (baskets_at local.numbers.items) are ∙ at_spans local.numbers.items local.spans.items (cover_of baskets set) (cover_inside local set)

  pub chosen_within : All (IsWithin (length local.numbers.items)) chosen
  chosen_within = subst (All (IsWithin (length local.numbers.items))) (sym are) (all_at (IsWithin (length local.numbers.items)) local.spans.items no_span (cover_of baskets set) (cover_inside local set) local.within)

  pub chosen_ranked : AreRankBaskets (record { ranks = length local.ranks.items; baskets = baskets_at local.numbers.items chosen })
  chosen_ranked = subst (λ l. AreRankBaskets (record { ranks = length local.ranks.items; baskets = l })) (sym chosen_are) (record {
    each = all_at (IsRankBasket (length local.ranks.items)) baskets none_at (cover_of baskets set) (λ index m. (from_cover baskets set index m).0) local.ranked.each;
    light = omega (arith, covered_light baskets set, local.ranked.light);
  })

  pub narrowed_is : (kept : List ℕ) (inner : LocalBaskets) → inner.ranks.items ≡ named local.ranks.items kept
      → HaveSameWeights (map (coded_basket kept) (baskets_at local.numbers.items chosen)) (baskets_in inner) → IsNarrowed local set kept inner
  narrowed_is kept inner ranks same = record {
    ranks = ranks;
    supports = λ indexes low.
        coded_support kept (covered baskets set) (baskets_in inner) indexes low (subst (λ l. HaveSameWeights (map (coded_basket kept) l) (baskets_in inner)) chosen_are same)
        ∙ supports_of baskets set (named kept indexes);
  }
