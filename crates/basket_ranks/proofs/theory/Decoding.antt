-- A list that has each frequent set of ranks once has, as items, each frequent set once.
use Rattle.std.proofs.Common.{◌≡◌, ◌≢◌, ℕ, ◌+◌, ◌<◌, true, false, List, [], ◌∷◌, length, get_or, map, cond, refl, sym, ap, ◌∙◌, subst, inl, inr, arith, suc, zero-add}
use Rattle.std.proofs.lemmas.Grind.{common_steps}
use Rattle.std.specs.Prelude.{nat_eq}
use Rattle.std.specs.Cmp.Lexicographic.{pointwise, bytes_decides}
use Rattle.std.specs.List.{AllByRecursion, IsDistinct, Contains}
use Rattle.std.proofs.lemmas.Bool.{cases_Bool, cases_order, eq-eqb, true≢false}
use Rattle.std.proofs.lemmas.List.{get_or_default, length-map}
use Rattle.std.proofs.lemmas.List.Elements.{All-map, All-weaker, recursion_from_All}
use Rattle.std.proofs.lemmas.List.Sums.{sum_by-cons}
use Rattle.std.proofs.lemmas.Map.Keys.{apart_from_distinct}
use Rattle.basket_sets.specs.declared.weighted.Weighted.{Weighted}
use Rattle.basket_sets.specs.declared.counted.Counted.{Counted}
use Rattle.basket_ranks.specs.Codes.{frequent_of_coding, coded, decoded, decoded_basket, decoded_set, Coding, IsCoding, IsCodedBasket, baskets_of, DecodingKeepsFrequent}
use Rattle.basket_sets.specs.Counts.{AllBelow}
use Rattle.basket_sets.specs.Frequent.{frequent_of, is_frequent, counted}
use Rattle.basket_sets.specs.Itemset.{IsRising, contains}
use Rattle.basket_sets.specs.Support.{weight_at, support_of, total_of}
use Rattle.basket_ranks.proofs.theory.Coding.{from_ranks, into_ranks, ranks_rise, from_decoded, into_decoded}
use Rattle.basket_sets.proofs.theory.Frequent.{IsSound, frequent_once, once_is_as_long}
use Rattle.basket_sets.proofs.theory.Members.{Member, All-from_Member, at_Member, Member-flat_map, Member-map, Member-from_map, Member-from_Contains, Contains-from_Member}
use Rattle.basket_sets.proofs.theory.Rising.{same_test, rising-rises, rising_is, Member-from_has, has-from_Member, has_each, contains_each, first_below, length-with_item, rest_rises, same_rising}
use Rattle.basket_sets.proofs.theory.Support.{in_items, at_least_one}

-- ---- ranks of distinct items

one_rank : (items : List ℕ) (i j : ℕ) → IsDistinct nat_eq items → i < length items → j < length items → get_or items i 0 ≡ get_or items j 0 → i ≡ j
one_rank items i j apart a b e = elim (cases_order i j) [
  | inl is ↦ is
  | inr (inl less) ↦ absurd (true≢false (sym (eq-eqb _ _ e) ∙ apart_from_distinct nat_eq items i j 0 apart less b))
  | inr (inr more) ↦ absurd (true≢false (sym (eq-eqb _ _ (sym e)) ∙ apart_from_distinct nat_eq items j i 0 apart more a))
]

-- a rank is in the list where its item is among the decoded
pub rank_from_decoded : (items ranks : List ℕ) (rank : ℕ) → IsDistinct nat_eq items → AllBelow (length items) ranks → rank < length items → Member (get_or items rank 0) (decoded items ranks) → Member rank ranks
rank_from_decoded items ranks rank apart below here m =
    let d = from_decoded items ranks (get_or items rank 0) m in
    subst (λ r. Member r ranks) (one_rank items d.0 rank apart (below d.0 (has-from_Member ranks d.0 d.1)) here d.2) d.1

decoded_contains : (items basket set : List ℕ) → IsDistinct nat_eq items → AllBelow (length items) basket → AllBelow (length items) set
    → contains (decoded items basket) (decoded items set) ≡ contains basket set
decoded_contains items basket set apart below within = same_test _ _
    (λ h. contains_each basket set (λ rank m.
    rank_from_decoded items basket rank apart below (within rank (has-from_Member set rank m)) (has_each (decoded items basket) (decoded items set) h (get_or items rank 0) (into_decoded items set rank m))))
    (λ h. contains_each (decoded items basket) (decoded items set) (λ item m. let d = from_decoded items set item m in
    subst (λ x. Member x (decoded items basket)) d.2 (into_decoded items basket d.0 (has_each basket set h d.0 d.1))))

decoded_supports : (items : List ℕ) (baskets : List Weighted) (set : List ℕ) → IsDistinct nat_eq items → AllByRecursion (IsCodedBasket items) baskets → AllBelow (length items) set
    → support_of (map (decoded_basket items) baskets) (decoded items set) ≡ support_of baskets set
decoded_supports items [] set apart receipts within = refl
decoded_supports items (receipt ∷ baskets) set apart receipts within =
    sum_by-cons (weight_at (decoded items set)) (decoded_basket items receipt) (map (decoded_basket items) baskets)
    ∙ ap (λ b. cond b receipt.weight 0 + support_of (map (decoded_basket items) baskets) (decoded items set)) (decoded_contains items receipt.basket set apart receipts.0.1 within)
    ∙ ap (λ n. weight_at set receipt + n) (decoded_supports items baskets set apart receipts.1 within) ∙ sym (sum_by-cons (weight_at set) receipt baskets)

-- two rising lists of ranks with the same items are equal
pub decoded_apart : (items a b : List ℕ) → IsDistinct nat_eq items → IsRising a → IsRising b → AllBelow (length items) a → AllBelow (length items) b → decoded items a ≡ decoded items b → a ≡ b
decoded_apart items a b apart up over below within same = same_rising a b up over
    (λ rank m. rank_from_decoded items b rank apart within (below rank (has-from_Member a rank m)) (subst (Member (get_or items rank 0)) same (into_decoded items a rank m)))
    (λ rank m. rank_from_decoded items a rank apart below (within rank (has-from_Member b rank m)) (subst (Member (get_or items rank 0)) (sym same) (into_decoded items b rank m)))

-- the ranks of some items, as items again
pub recoded : (items set : List ℕ) → IsRising set → ((item : ℕ) → Member item set → Member item items) → decoded items (coded items set) ≡ set
recoded items set up within = rising_is (map (λ rank. get_or items rank 0) (coded items set)) set up
    (λ item m. let d = Member-from_map (λ rank. get_or items rank 0) item (coded items set) m in let r = from_ranks 0 items set d.0 d.1 in
    subst (λ x. Member x set) (ap (λ n. get_or items n 0) (sym (zero-add r.0) ∙ sym r.2) ∙ d.2) (Member-from_has set (get_or items r.0 0) r.3))
    (λ item m. let c = Contains-from_Member item items (within item m) in
    let at = place_is items c.0 item c.1 c.2 in
    subst (λ x. Member x (map (λ rank. get_or items rank 0) (coded items set))) at
    (Member-map (λ rank. get_or items rank 0) c.0 (coded items set)
    (subst (λ n. Member n (coded items set)) (zero-add c.0) (into_ranks 0 items set c.0 c.1 (has-from_Member set (get_or items c.0 0) (subst (λ x. Member x set) (sym at) m))))))
  where
    place_is : (items : List ℕ) (k item : ℕ) → k < length items → get_or items k item ≡ item → get_or items k 0 ≡ item
    place_is items k item below is = get_or_default items k 0 item below ∙ is

-- decoding keeps the size of a set
pub length-decoded : (items set : List ℕ) → IsDistinct nat_eq items → IsRising set → AllBelow (length items) set → length (decoded items set) ≡ length set
length-decoded items [] apart up below = refl
length-decoded items (rank ∷ set) apart up below =
    length-with_item (get_or items rank 0) (decoded items set) (λ m.
    let n = rank_from_decoded items set rank apart later (below rank (has-from_Member (rank ∷ set) rank (inl refl))) m in
    let less = first_below rank set up rank n in absurd (omega arith))
    ∙ ap suc (length-decoded items set apart (rest_rises rank set up) later)
  where
    later : AllBelow (length items) set
    later other h = below other (has-from_Member (rank ∷ set) other (inr (Member-from_has set other h)))

-- ---- the frequent sets

module _ (coding : Coding) (is : IsCoding coding) where
  abbrev IsRankSet : List ℕ → Type 0
  IsRankSet set = AllBelow (length coding.items) set

  support_is : (set : List ℕ) → IsRankSet set → support_of (baskets_of coding) (decoded coding.items set) ≡ support_of coding.baskets set
  support_is set within = decoded_supports coding.items coding.baskets set is.distinct (recursion_from_All (IsCodedBasket coding.items) coding.baskets is.each) within

  total_is : total_of (baskets_of coding) ≡ total_of coding.baskets
  total_is = support_is [] (λ item h. absurd (true≢false (sym h)))

  pub test_is : (set : List ℕ) → IsRankSet set → is_frequent (baskets_of coding) coding.minimum (decoded coding.items set) ≡ is_frequent coding.baskets coding.minimum set
  test_is set within = grind (arith, common_steps, support_is, total_is)

  coded_at : (receipt : Weighted) → Member receipt coding.baskets → IsCodedBasket coding.items receipt
  coded_at receipt = at_Member (IsCodedBasket coding.items) receipt coding.baskets (recursion_from_All (IsCodedBasket coding.items) coding.baskets is.each)

  -- a frequent set of ranks has ranks of items
  pub ranks_below : (set : List ℕ) → is_frequent coding.baskets coding.minimum set ≡ true → IsRankSet set
  ranks_below set h rank here =
      let from = Member-flat_map (λ (receipt : Weighted). receipt.basket) rank coding.baskets
      (in_items coding.baskets set (at_least_one coding.minimum (support_of coding.baskets set) (total_of coding.baskets) h) rank (Member-from_has set rank here)) in
      (coded_at from.0 from.1).1 rank (has-from_Member from.0.basket rank from.2)

  -- a frequent set of items has items that have ranks
  pub items_ranked : (set : List ℕ) → is_frequent (baskets_of coding) coding.minimum set ≡ true → (item : ℕ) → Member item set → Member item coding.items
  items_ranked set h item m =
      let from = Member-flat_map (λ (receipt : Weighted). receipt.basket) item (baskets_of coding)
      (in_items (baskets_of coding) set (at_least_one coding.minimum (support_of (baskets_of coding) set) (total_of (baskets_of coding)) h) item m) in
      let receipt = Member-from_map (decoded_basket coding.items) from.0 coding.baskets from.1 in
      let d = from_decoded coding.items receipt.0.basket item (subst (λ (other : Weighted). Member item other.basket) (sym receipt.2) from.2) in
      let below = (coded_at receipt.0 receipt.1).1 d.0 (has-from_Member receipt.0.basket d.0 d.1) in
      Member-from_Contains item coding.items (d.0, below, get_or_default coding.items d.0 item 0 below ∙ d.2)

  -- a frequent set of ranks is, decoded, a frequent set of items
  pub decoded_sound : (c : Counted) → IsSound coding.baskets coding.minimum c → IsSound (baskets_of coding) coding.minimum (decoded_set coding.items c)
  decoded_sound c s =
      let within = ranks_below c.set s.1 in
      ((rising-rises (map (λ rank. get_or coding.items rank 0) c.set), some c.set s.0.1), test_is c.set within ∙ s.1, s.2 ∙ sym (support_is c.set within))
    where
      some : (set : List ℕ) → set ≢ [] → decoded coding.items set ≢ []
      some [] none e = none refl
      some (rank ∷ set) none e = subst (Member (get_or coding.items rank 0)) e (into_decoded coding.items (rank ∷ set) rank (inl refl))

  decoded_distinct : (list : List Counted) → AllByRecursion (IsSound coding.baskets coding.minimum) list → IsDistinct (pointwise nat_eq) (map (λ c. c.set) list)
      → IsDistinct (pointwise nat_eq) (map (λ c. c.set) (map (decoded_set coding.items) list))
  unfolding IsDistinct
  decoded_distinct [] all apart = tt
  decoded_distinct (c ∷ list) all apart = (
    All-from_Member (λ y. pointwise nat_eq (decoded coding.items c.set) y ≡ false) (map (λ d. d.set) (map (decoded_set coding.items) list)) other,
    decoded_distinct list all.1 apart.1,
  )
    where
      differs : (d : Counted) → Member d list → pointwise nat_eq (decoded coding.items c.set) (decoded coding.items d.set) ≡ false
      differs d m = elim (cases_Bool (pointwise nat_eq (decoded coding.items c.set) (decoded coding.items d.set))) [
        | inl e ↦
            (let s = at_Member (IsSound coding.baskets coding.minimum) d list all.1 m in
            let same = decoded_apart coding.items c.set d.set is.distinct all.0.0.0 s.0.0 (ranks_below c.set all.0.1) (ranks_below d.set s.1) ((bytes_decides _ _).0 e) in
            absurd (true≢false (sym ((bytes_decides c.set d.set).1 same)
            ∙ at_Member (λ y. pointwise nat_eq c.set y ≡ false) d.set (map (λ x. x.set) list) apart.0 (Member-map (λ (x : Counted). x.set) d list m))))
        | inr e ↦ e
      ]

      other : (y : List ℕ) → Member y (map (λ (d : Counted). d.set) (map (decoded_set coding.items) list)) → pointwise nat_eq (decoded coding.items c.set) y ≡ false
      other y m =
          let e = Member-from_map (λ (d : Counted). d.set) y (map (decoded_set coding.items) list) m in
          let d = Member-from_map (decoded_set coding.items) e.0 list e.1 in
          subst (λ z. pointwise nat_eq (decoded coding.items c.set) z ≡ false) (ap (λ (x : Counted). x.set) d.2 ∙ e.2) (differs d.0 d.1)

-- a list with each frequent set of ranks once has, decoded, each frequent set of items once
pub decoding_keeps_frequent : DecodingKeepsFrequent
decoding_keeps_frequent coding list is lists = record {
  distinct = decoded_distinct coding is list (recursion_from_All (IsSound coding.baskets coding.minimum) list lists.sound) lists.distinct;
  sound = All-map (IsSound (baskets_of coding) coding.minimum) (decoded_set coding.items) list
      (All-weaker (IsSound coding.baskets coding.minimum) (λ c. IsSound (baskets_of coding) coding.minimum (decoded_set coding.items c)) (decoded_sound coding is) list lists.sound);
  complete = λ set n h.
      let ranks = coded coding.items set in
      let back = recoded coding.items set n.0 (items_ranked coding is set h) in
      let within : AllBelow (length coding.items) ranks = λ rank here. let r = from_ranks 0 coding.items set rank (Member-from_has ranks rank here) in omega (arith, r.1, r.2) in
      let found : is_frequent coding.baskets coding.minimum ranks ≡ true =
      sym (test_is coding is ranks within) ∙ ap (is_frequent (baskets_of coding) coding.minimum) back ∙ h in
      let some : ranks ≢ [] = λ e. n.1 (sym back ∙ ap (decoded coding.items) e) in
      let m = lists.complete ranks (ranks_rise 0 coding.items set, some) found in
      let same : decoded_set coding.items (counted coding.baskets ranks) ≡ counted (baskets_of coding) set =
      λ i. record { set = back i; count = (sym (support_is coding is ranks within) ∙ ap (support_of (baskets_of coding)) back) i } in
      subst (Contains (map (decoded_set coding.items) list)) same
      (Contains-from_Member _ (map (decoded_set coding.items) list) (Member-map (decoded_set coding.items) (counted coding.baskets ranks) list (Member-from_Contains _ list m)));
}

-- there are as many frequent sets of items as of ranks
pub as_many : (coding : Coding) → IsCoding coding → length (frequent_of_coding coding) ≡ length (frequent_of coding.baskets coding.minimum)
as_many coding is =
    let list = map (decoded_set coding.items) (frequent_of coding.baskets coding.minimum) in
    let lists = decoding_keeps_frequent coding (frequent_of coding.baskets coding.minimum) is (frequent_once coding.baskets coding.minimum) in
    sym (once_is_as_long (baskets_of coding) coding.minimum list lists) ∙ length-map (frequent_of coding.baskets coding.minimum) (decoded_set coding.items)
