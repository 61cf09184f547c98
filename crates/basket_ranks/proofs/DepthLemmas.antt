-- A frequent set of many items, found rank by rank.
use Rattle.std.proofs.Common.{◌≡◌, ◌≢◌, ℕ, ◌+◌, ◌-◌, ◌<◌, ◌≤◌, Bool, true, not, ◌&&◌, List, [], ◌∷◌, ◌++◌, Ok, Err, length, take, drop, get_or, cond, filter, leb, ltb, refl, sym, ap, ◌∙◌, subst, inl, inr, arith, zero, suc, add-zero}
use Rattle.std.proofs.lemmas.Grind.{common_steps}
use Rattle.std.specs.Ordering.{nat_cmp}
use Rattle.std.specs.List.Sorted.{IsBinarySearchResult}
use Rattle.std.specs.List.{Contains}
use Rattle.std.proofs.lemmas.Bool.{cases_Bool, le-ltb, cond-false, cond_both, cond-true, le-leb, lt-leb, lt-ltb, ltb-true}
use Rattle.std.proofs.lemmas.List.{append_assoc, take_rest, get_or_default, length-append}
use Rattle.std.proofs.lemmas.List.Filters.{length-filter_both, sum_by-filter_both}
use Rattle.std.proofs.lemmas.List.Kept.{IsStrictlySortedBy-filter}
use Rattle.basket_sets.specs.declared.weighted.Weighted.{Weighted}
use Rattle.basket_ranks.specs.Codes.{Coding, IsCoding, frequent_of_coding, baskets_of, decoded}
use Rattle.basket_sets.specs.Database.{weighted, MOST_WEIGHT}
use Rattle.basket_ranks.specs.Depth.{HasSetOfSize, above, is_long, narrowed, narrowed_basket}
use Rattle.basket_sets.specs.Frequent.{is_frequent, counted}
use Rattle.basket_sets.specs.Itemset.{IsRising, has, contains}
use Rattle.basket_sets.proofs.theory.Frequent.{lists_frequent}
use Rattle.basket_sets.proofs.theory.Members.{Member, Member-flat_map, Member-from_map, Member-into_flat_map, Member-filter, Member-from_filter, Member-append, Member-append_left, Member-append_right, Member-from_Contains, Contains-from_Member, sorted_append}
use Rattle.basket_sets.specs.Support.{weight_at, support_of, total_of, all_items, items_of}
use Rattle.basket_sets.specs.Counts.{item_supports}
use Rattle.basket_sets.specs.Minimum.{meets}
use Rattle.basket_ranks.proofs.theory.Decoding.{length-decoded, ranks_below, decoded_sound}
use Rattle.basket_sets.proofs.theory.Rising.{same_test, contains_each, has_each, Less-from_lt, nil_rises, cons_rises, first_below, rest_rises, found_at, found_nowhere, has-from_Member, Member-from_has}
use Rattle.basket_sets.proofs.theory.Tests.{Member-at}
use Rattle.basket_sets.proofs.theory.Support.{support_falls, support-append, support-cons, in_items, at_least_one, meets_more}

-- ---- baskets kept to the ranks above one that they have

all_above : (rank : ℕ) (ranks : List ℕ) → ((y : ℕ) → Member y ranks → rank < y) → above rank ranks ≡ ranks
all_above rank [] h = refl
all_above rank (x ∷ ranks) h =
    ap (λ b. cond b (x ∷ above rank ranks) (above rank ranks)) (lt-ltb rank x (h x (inl refl))) ∙ ap (λ l. x ∷ l) (all_above rank ranks (λ y m. h y (inr m)))

above_is : (ranks : List ℕ) (at rank : ℕ) → IsRising ranks → at < length ranks → get_or ranks at 0 ≡ rank → above rank ranks ≡ drop (at + 1) ranks
above_is [] at rank up below is = absurd (omega arith)
above_is (x ∷ ranks) zero rank up below is =
    cond-false (ltb rank x) (x ∷ above rank ranks) (above rank ranks) (le-ltb rank x (omega (arith, is)))
    ∙ all_above rank ranks (λ y m. let b = first_below x ranks up y m in omega (arith, is))
above_is (x ∷ ranks) (suc k) rank up below is =
    cond-false (ltb rank x) (x ∷ above rank ranks) (above rank ranks)
    (le-ltb rank x (let b = first_below x ranks up (get_or ranks k 0) (Member-at ranks k (omega arith)) in omega (arith, is)))
    ∙ above_is ranks k rank (rest_rises x ranks up) (omega arith) is ∙ ap (λ n. drop n (x ∷ ranks)) (next k)
  where
    next : (n : ℕ) → suc (n + 1) ≡ suc n + 1
    next n = omega arith

fewer_above : (rank : ℕ) (ranks : List ℕ) → Member rank ranks → length (above rank ranks) < length ranks
fewer_above rank ranks m =
    let gone = Member-from_filter (λ other. not (ltb rank other)) rank ranks m (ap not (le-ltb rank rank (omega arith))) in
    let some = Contains-from_Member rank (filter (λ other. not (ltb rank other)) ranks) gone in
    omega (arith, some.1, length-filter_both (λ other. ltb rank other) (λ other. not (ltb rank other)) (λ other. refl) ranks)

-- a basket that has the rank and so many above it, or not so many
one_long : (least : ℕ) (kept : List ℕ) (weight : ℕ) → least ≤ length kept → filter (is_long least) (weighted kept weight ∷ []) ≡ weighted kept weight ∷ []
one_long least kept weight many = cond-true (leb least (length kept)) (weighted kept weight ∷ []) [] (le-leb least (length kept) many)

one_short : (least : ℕ) (kept : List ℕ) (weight : ℕ) → length kept < least → filter (is_long least) (weighted kept weight ∷ []) ≡ []
one_short least kept weight few = cond-false (leb least (length kept)) (weighted kept weight ∷ []) [] (lt-leb least (length kept) few)

pub too_short : (least rank : ℕ) (ranks : List ℕ) (weight : ℕ) → length ranks ≤ least → filter (is_long least) (narrowed_basket rank (weighted ranks weight)) ≡ []
too_short least rank ranks weight few = grind (arith, common_steps, cond_both, one_short, fewer_above, Member-from_has)

module _ (rank at : ℕ) (ranks kept : List ℕ) (up : IsRising ranks) (found : IsBinarySearchResult (λ y. nat_cmp y rank) ranks (Ok at)) (made : kept ≡ take (length ranks - (at + 1)) (drop (at + 1) ranks)) where
  kept_above : kept ≡ above rank ranks
  kept_above = let here = found_at ranks rank at up found in made ∙ take_rest ranks (at + 1) ∙ sym (above_is ranks at rank up here.0 here.1)

  found_basket : (weight : ℕ) → narrowed_basket rank (weighted ranks weight) ≡ weighted kept weight ∷ []
  found_basket weight = let here = found_at ranks rank at up found in grind (arith, common_steps, cond-true, has-from_Member, Member, Member-at, kept_above)

  pub kept_rises : IsRising kept
  kept_rises = subst IsRising (sym kept_above) (IsStrictlySortedBy-filter nat_cmp (λ other. ltb rank other) ranks up)

  pub long_basket : (least weight : ℕ) → least ≤ length kept → filter (is_long least) (narrowed_basket rank (weighted ranks weight)) ≡ weighted kept weight ∷ []
  long_basket least weight many = ap (filter (is_long least)) (found_basket weight) ∙ one_long least kept weight many

  pub short_basket : (least weight : ℕ) → length kept < least → filter (is_long least) (narrowed_basket rank (weighted ranks weight)) ≡ []
  short_basket least weight few = ap (filter (is_long least)) (found_basket weight) ∙ one_short least kept weight few

-- the support of a rank is what was counted
pub count_is : (baskets : List Weighted) (rank count : ℕ) → Contains (item_supports baskets) (rank, count) → support_of baskets (rank ∷ []) ≡ count
count_is baskets rank count h =
    let m = Member-from_map (λ x. (x, support_of baskets (x ∷ []))) (rank, count) (items_of baskets) (Member-from_Contains (rank, count) (item_supports baskets) h) in
    ap (λ x. support_of baskets (x ∷ [])) (sym (ap (λ (p : ℕ × ℕ). p.0) m.2)) ∙ ap (λ (p : ℕ × ℕ). p.1) m.2

narrowed_items : (rank : ℕ) (baskets : List Weighted) (x : ℕ) → Member x (all_items (narrowed rank baskets)) → (rank < x) × Member x (all_items baskets)
narrowed_items rank baskets x m =
    let kept = Member-flat_map (λ (receipt : Weighted). receipt.basket) x (narrowed rank baskets) m in
    let from = Member-flat_map (narrowed_basket rank) kept.0 baskets kept.1 in
    cond_both (has from.0.basket rank) (weighted (above rank from.0.basket) from.0.weight ∷ []) [] (λ l. Member kept.0 l → (rank < x) × Member x (all_items baskets))
    (λ has n. elim n [
      | inl is ↦ (let k = Member-filter (λ other. ltb rank other) x from.0.basket (subst (λ (receipt : Weighted). Member x receipt.basket) (sym is) kept.2) in
          (ltb-true rank x k.1, Member-into_flat_map (λ (receipt : Weighted). receipt.basket) x from.0 baskets from.1 k.0))
      | inr no' ↦ absurd no'
    ])
    (λ lacks n. absurd n) from.2

above_contains : (rank : ℕ) (basket more : List ℕ) → ((x : ℕ) → Member x more → rank < x) → contains (above rank basket) more ≡ contains basket more
above_contains rank basket more beyond = grind (arith, common_steps, same_test, contains_each, Member-filter, has_each, Member-from_filter, lt-ltb)

narrowed_supports : (rank : ℕ) (baskets : List Weighted) (more : List ℕ) → ((x : ℕ) → Member x more → rank < x) → support_of (narrowed rank baskets) more ≡ support_of baskets (rank ∷ more)
narrowed_supports rank [] more beyond = refl
narrowed_supports rank (receipt ∷ baskets) more beyond =
    support-append (narrowed_basket rank receipt) (narrowed rank baskets) more
    ∙ omega (arith, here, narrowed_supports rank baskets more beyond, support-cons receipt baskets (rank ∷ more))
  where
    here : support_of (narrowed_basket rank receipt) more ≡ weight_at (rank ∷ more) receipt
    here = cond_both (has receipt.basket rank) (weighted (above rank receipt.basket) receipt.weight ∷ []) [] (λ l. support_of l more ≡ weight_at (rank ∷ more) receipt)
        (λ e. support-cons (weighted (above rank receipt.basket) receipt.weight) [] more ∙ add-zero _
        ∙ ap (λ b. cond b receipt.weight 0) (above_contains rank receipt.basket more beyond ∙ sym (ap (λ b. b && contains receipt.basket more) e)))
        (λ e. ap (λ b. cond (b && contains receipt.basket more) receipt.weight 0) (sym e))

missed : (rank index : ℕ) (ranks : List ℕ) (weight : ℕ) → IsRising ranks → IsBinarySearchResult (λ y. nat_cmp y rank) ranks (Err index) → narrowed_basket rank (weighted ranks weight) ≡ []
missed rank index ranks weight up search = elim (cases_Bool (has ranks rank)) [
  | inl e ↦ absurd (let c = Contains-from_Member rank ranks (Member-from_has ranks rank e) in
      found_nowhere ranks rank index up search c.0 c.1 (get_or_default ranks c.0 0 rank c.1 ∙ c.2))
  | inr e ↦ cond-false (has ranks rank) (weighted (above rank ranks) weight ∷ []) [] e
]

pub missed_basket : (least rank index : ℕ) (ranks : List ℕ) (weight : ℕ) → IsRising ranks → IsBinarySearchResult (λ y. nat_cmp y rank) ranks (Err index)
    → filter (is_long least) (narrowed_basket rank (weighted ranks weight)) ≡ []
missed_basket least rank index ranks weight up search = ap (filter (is_long least)) (missed rank index ranks weight up search)

pub left_more : (least rank : ℕ) (baskets : List Weighted) (i : ℕ) (receipt : Weighted) → i < length baskets → receipt ≡ get_or baskets i receipt
    → filter (is_long least) (narrowed rank (take (i + 1) baskets)) ≡ filter (is_long least) (narrowed rank (take i baskets)) ++ filter (is_long least) (narrowed_basket rank receipt)
left_more least rank baskets i receipt below is = grind (arith, common_steps)

-- ---- some of the baskets

fewer_supports : (p : Weighted → Bool) (baskets : List Weighted) (set : List ℕ) → support_of (filter p baskets) set ≤ support_of baskets set
fewer_supports p baskets set = omega (arith, sum_by-filter_both p (λ receipt. not (p receipt)) (λ receipt. refl) (weight_at set) baskets)

fewer_items : (p : Weighted → Bool) (baskets : List Weighted) (x : ℕ) → Member x (all_items (filter p baskets)) → Member x (all_items baskets)
fewer_items p baskets x m =
    let from = Member-flat_map (λ (receipt : Weighted). receipt.basket) x (filter p baskets) m in
    Member-into_flat_map (λ (receipt : Weighted). receipt.basket) x from.0 baskets (Member-filter p from.0 baskets from.1).0 from.2

-- ---- a set that is found rank by rank

-- a set of so many ranks is frequent in a coding, and these are baskets that have it, kept to the ranks above all of its own
pub record Reaches (coding : Coding) (size : ℕ) (rest : List Weighted) : Type 0 where
  pub set : List ℕ
  pub rises : IsRising set
  pub sized : length set ≡ size
  pub frequent : set ≢ [] → is_frequent coding.baskets coding.minimum set ≡ true
  pub beyond : (x y : ℕ) → Member x (all_items rest) → Member y set → y < x
  pub supports : (more : List ℕ) → ((x y : ℕ) → Member x more → Member y set → y < x) → support_of rest more ≤ support_of coding.baskets (set ++ more)

pub reaches_none : (coding : Coding) → Reaches coding 0 coding.baskets
reaches_none coding = grind (arith, common_steps, nil_rises)

-- the narrowed baskets weigh no more than all
pub reached_light : (coding : Coding) (size : ℕ) (rest : List Weighted) → IsCoding coding → Reaches coding size rest → total_of rest ≤ MOST_WEIGHT
reached_light coding size rest is r = grind (arith, common_steps, support_falls)

-- one rank more
pub reaches_more : (coding : Coding) (size rank : ℕ) (rest narrower : List Weighted) → Reaches coding size rest → narrower ≡ narrowed rank rest
    → meets coding.minimum (support_of rest (rank ∷ [])) (total_of coding.baskets) ≡ true → Reaches coding (size + 1) narrower
reaches_more coding size rank rest narrower r made met = subst (Reaches coding (size + 1)) (sym made) (record {
  set = r.set ++ rank ∷ [];
  rises = sorted_append nat_cmp r.set (rank ∷ []) r.rises (cons_rises rank [] (λ y m. absurd m) nil_rises) (λ x y m n. Less-from_lt x y (below x y m n));
  sized = length-append r.set (rank ∷ []) ∙ ap (λ n. n + 1) r.sized;
  frequent = λ some. meets_more coding.minimum (support_of rest (rank ∷ [])) (support_of coding.baskets (r.set ++ rank ∷ [])) (total_of coding.baskets) single met;
  beyond = λ x y m n.
      let k = narrowed_items rank rest x m in
      elim (Member-append y r.set (rank ∷ []) n) [ inl old ↦ r.beyond x y k.1 old | inr (inl new) ↦ subst (λ z. z < x) new k.0 | inr (inr no') ↦ absurd no' ];
  supports = λ more h.
      let here = narrowed_supports rank rest more (λ x m. h x rank m (Member-append_right rank r.set (rank ∷ []) (inl refl))) in
      let there = r.supports (rank ∷ more) (λ x y m n. elim m [ inl e ↦ below y x n (inl e) | inr later ↦ h x y later (Member-append_left y r.set (rank ∷ []) n) ]) in
      omega (arith, here, there, ap (support_of coding.baskets) (append_assoc r.set (rank ∷ []) more));
})
  where
    here : Member rank (all_items rest)
    here = in_items rest (rank ∷ []) (at_least_one coding.minimum (support_of rest (rank ∷ [])) (total_of coding.baskets) met) rank (inl refl)

    below : (x y : ℕ) → Member x r.set → Member y (rank ∷ []) → x < y
    below x y m (inl e) = subst (λ z. x < z) e (r.beyond rank x here m)
    below x y m (inr n) = absurd n

    single : support_of rest (rank ∷ []) ≤ support_of coding.baskets (r.set ++ rank ∷ [])
    single = r.supports (rank ∷ []) (λ x y m n. below y x n m)

-- some of the baskets
reaches_fewer : (coding : Coding) (size : ℕ) (rest : List Weighted) (p : Weighted → Bool) → Reaches coding size rest → Reaches coding size (filter p rest)
reaches_fewer coding size rest p r = record {
  set = r.set;
  rises = r.rises;
  sized = r.sized;
  frequent = r.frequent;
  beyond = λ x y m n. r.beyond x y (fewer_items p rest x m) n;
  supports = λ more h. let fewer = fewer_supports p rest more in omega (arith, fewer, r.supports more h);
}

-- one rank more, of which some of the baskets are left
pub reaches_long : (coding : Coding) (size rank least : ℕ) (rest narrower : List Weighted) → Reaches coding size rest → narrower ≡ filter (is_long least) (narrowed rank rest)
    → meets coding.minimum (support_of rest (rank ∷ [])) (total_of coding.baskets) ≡ true → Reaches coding (size + 1) narrower
reaches_long coding size rank least rest narrower r made met =
    subst (Reaches coding (size + 1)) (sym made) (reaches_fewer coding (size + 1) (narrowed rank rest) (is_long least) (reaches_more coding size rank rest (narrowed rank rest) r refl met))

-- what is left of the baskets weighs no more than those that have the rank
pub left_light : (rank least : ℕ) (baskets left : List Weighted) → left ≡ filter (is_long least) (narrowed rank baskets) → total_of left ≤ support_of baskets (rank ∷ [])
left_light rank least baskets left made = grind (arith, common_steps, narrowed_supports, fewer_supports)

-- ---- as a set of items

pub reached : (coding : Coding) (size : ℕ) (rest : List Weighted) → IsCoding coding → 1 ≤ size → Reaches coding size rest → HasSetOfSize (frequent_of_coding coding) size
reached coding size rest is some r =
    let none : r.set ≢ [] = λ e. (let l = r.sized in let z = ap length e in omega arith) in
    let h = r.frequent none in
    let within = ranks_below coding is r.set h in
    let s = decoded_sound coding is (counted coding.baskets r.set) ((r.rises, none), h, refl) in (
      counted (baskets_of coding) (decoded coding.items r.set),
      (lists_frequent (baskets_of coding) coding.minimum).complete (decoded coding.items r.set) s.0 s.1,
      length-decoded coding.items r.set is.distinct r.rises within ∙ r.sized,
    )
