-- Coding is a renaming: the supports of ranks are those of their items.
use Rattle.std.proofs.Common.{◌≡◌, ℕ, ◌+◌, ◌<◌, true, List, [], ◌∷◌, length, get_or, map, cond, refl, sym, ap, ◌∙◌, subst, inl, inr, arith, zero, suc, zero-add}
use Rattle.std.proofs.lemmas.Grind.{common_steps}
use Rattle.std.specs.List.{Contains, filter, sum_by}
use Rattle.std.proofs.lemmas.Bool.{cond_both}
use Rattle.std.proofs.lemmas.List.Elements.{All-weaker}
use Rattle.std.proofs.lemmas.List.Folds.{fold-map}
use Rattle.basket_sets.specs.declared.weighted.Weighted.{Weighted}
use Rattle.basket_sets.specs.declared.minimum.Minimum.{Minimum}
use Rattle.basket_ranks.specs.Codes.{ranked, ranks_from, coded, decoded, coded_basket, decoded_basket, ranks_of, coding_of, IsCodedBasket, baskets_of, CodingKeepsFrequent, merged_coding, MergingKeepsCoded}
use Rattle.basket_sets.specs.Counts.{item_supports}
use Rattle.basket_sets.specs.Database.{merged_of}
use Rattle.basket_sets.specs.Frequent.{is_frequent, frequent_of, ListsFrequent}
use Rattle.basket_sets.specs.Itemset.{IsRising, has, contains}
use Rattle.basket_sets.specs.Minimum.{meets}
use Rattle.basket_sets.specs.Support.{weight_at, support_of, total_of, items_of}
use Rattle.basket_sets.proofs.theory.Tests.{Member-at}
use Rattle.basket_sets.proofs.theory.Frequent.{IsSound, frequent_is_unique, same_supports}
use Rattle.basket_sets.proofs.theory.Members.{Member, Member-flat_map, Member-map, Member-from_map, Member-filter, Member-from_filter}
use Rattle.basket_ranks.proofs.RankLemmas.{Member-ranked, Member-into_ranked}
use Rattle.basket_sets.proofs.theory.Rising.{nil_rises, cons_rises, Member-rising, Member-into_rising, Member-from_has, has-from_Member, has_each, contains_each, same_test}
use Rattle.basket_sets.proofs.theory.Support.{subsets_are_frequent, frequent_items, in_items, at_least_one}
use Rattle.basket_sets.proofs.theory.Merging.{merging_keeps_supports, merging_keeps_weights}

-- ---- a basket as ranks

-- a rank of a basket is the index of an item that it has
pub from_ranks : (number : ℕ) (items basket : List ℕ) (rank : ℕ) → Member rank (ranks_from number items basket)
    → (k : ℕ) × (k < length items) × (rank ≡ number + k) × (has basket (get_or items k 0) ≡ true)
from_ranks number [] basket rank m = absurd m
from_ranks number (x ∷ items) basket rank m = cond_both (has basket x) (number ∷ ranks_from (number + 1) items basket) (ranks_from (number + 1) items basket)
    (λ l. Member rank l → (k : ℕ) × (k < suc (length items)) × (rank ≡ number + k) × (has basket (get_or (x ∷ items) k 0) ≡ true))
    (λ e n. elim n [ inl s ↦ (0, omega arith, omega (arith, s), e) | inr later ↦ more (from_ranks (number + 1) items basket rank later) ])
    (λ e later. more (from_ranks (number + 1) items basket rank later)) m
  where
    more : (k : ℕ) × (k < length items) × (rank ≡ number + 1 + k) × (has basket (get_or items k 0) ≡ true)
        → (k : ℕ) × (k < suc (length items)) × (rank ≡ number + k) × (has basket (get_or (x ∷ items) k 0) ≡ true)
    more r = (suc r.0, omega (arith, r.1), omega (arith, r.2), r.3)

-- and each item that it has gives its rank
pub into_ranks : (number : ℕ) (items basket : List ℕ) (k : ℕ) → k < length items → has basket (get_or items k 0) ≡ true → Member (number + k) (ranks_from number items basket)
into_ranks number [] basket k below h = absurd (omega arith)
into_ranks number (x ∷ items) basket zero below h = grind (arith, common_steps)
into_ranks number (x ∷ items) basket (suc k) below h = grind (arith, common_steps, into_ranks (number + 1) items basket k (omega arith) h)

-- the ranks of a basket rise
pub ranks_rise : (number : ℕ) (items basket : List ℕ) → IsRising (ranks_from number items basket)
ranks_rise number [] basket = nil_rises
ranks_rise number (x ∷ items) basket =
    let later = ranks_from (number + 1) items basket in
    let rest = ranks_rise (number + 1) items basket in
    cond_both (has basket x) (number ∷ later) later IsRising (λ e. cons_rises number later (λ y m. let r = from_ranks (number + 1) items basket y m in omega (arith, r.2)) rest) (λ e. rest)

-- a receipt of a coding
pub coded_basket_is : (items : List ℕ) (receipt : Weighted) → IsCodedBasket items (coded_basket items receipt)
coded_basket_is items receipt = (
  ranks_rise 0 items receipt.basket,
  λ rank h. let r = from_ranks 0 items receipt.basket rank (Member-from_has (coded items receipt.basket) rank h) in omega (arith, r.1, r.2),
)

-- coding keeps the total weight
pub coded_total : (items : List ℕ) (baskets : List Weighted) → total_of (map (coded_basket items) baskets) ≡ total_of baskets
coded_total items baskets = fold-map (λ n receipt. n + weight_at [] receipt) (coded_basket items) 0 baskets

-- a rank has the support of its item
pub coded_support : (items : List ℕ) (baskets : List Weighted) (rank : ℕ) → rank < length items
    → support_of (map (coded_basket items) baskets) (rank ∷ []) ≡ support_of baskets (get_or items rank 0 ∷ [])
coded_support items baskets rank below =
    fold-map (λ n receipt. n + weight_at (rank ∷ []) receipt) (coded_basket items) 0 baskets ∙ (λ i. sum_by (λ receipt. cond (same_test _ _ (there receipt) (back receipt) i) receipt.weight 0) baskets)
  where
    there : (receipt : Weighted) → contains (coded items receipt.basket) (rank ∷ []) ≡ true → contains receipt.basket (get_or items rank 0 ∷ []) ≡ true
    there receipt h =
        let r = from_ranks 0 items receipt.basket rank (has_each (coded items receipt.basket) (rank ∷ []) h rank (inl refl)) in
        contains_each receipt.basket (get_or items rank 0 ∷ []) (λ item m. elim m [
          | inl e ↦ subst (λ x. Member x receipt.basket) (ap (λ k. get_or items k 0) (omega (arith, r.2)) ∙ e) (Member-from_has receipt.basket (get_or items r.0 0) r.3)
          | inr n ↦ absurd n
        ])

    back : (receipt : Weighted) → contains receipt.basket (get_or items rank 0 ∷ []) ≡ true → contains (coded items receipt.basket) (rank ∷ []) ≡ true
    back receipt h = contains_each (coded items receipt.basket) (rank ∷ []) (λ other m. elim m [
      | inl e ↦ subst (λ x. Member x (coded items receipt.basket)) (omega (arith, e))
          (into_ranks 0 items receipt.basket rank below (has-from_Member receipt.basket (get_or items rank 0) (has_each receipt.basket (get_or items rank 0 ∷ []) h (get_or items rank 0) (inl refl))))
      | inr n ↦ absurd n
    ])

-- ---- ranks as items

-- an item of decoded ranks is the item of one of them
pub from_decoded : (items ranks : List ℕ) (item : ℕ) → Member item (decoded items ranks) → (rank : ℕ) × Member rank ranks × (get_or items rank 0 ≡ item)
from_decoded items ranks item m = Member-from_map (λ rank. get_or items rank 0) item ranks (Member-rising (map (λ rank. get_or items rank 0) ranks) item m)

-- the item of each rank is among the decoded
pub into_decoded : (items ranks : List ℕ) (rank : ℕ) → Member rank ranks → Member (get_or items rank 0) (decoded items ranks)
into_decoded items ranks rank m = Member-into_rising (map (λ r. get_or items r 0) ranks) (get_or items rank 0) (Member-map (λ r. get_or items r 0) rank ranks m)

place_of : (items : List ℕ) (item : ℕ) → Member item items → (k : ℕ) × (k < length items) × (get_or items k 0 ≡ item)
place_of [] item m = absurd m
place_of (x ∷ items) item (inl e) = (0, omega arith, e)
place_of (x ∷ items) item (inr m) = let r = place_of items item m in (suc r.0, omega (arith, r.1), r.2)

-- a basket that was coded has those of its items that have ranks
kept_from : (items basket : List ℕ) (item : ℕ) → Member item (decoded items (coded items basket)) → Member item basket × Member item items
kept_from items basket item m =
    let d = from_decoded items (coded items basket) item m in
    let r = from_ranks 0 items basket d.0 d.1 in
    let same : get_or items r.0 0 ≡ item = ap (λ n. get_or items n 0) (omega (arith, r.2)) ∙ d.2 in
    (Member-from_has basket item (ap (has basket) (sym same) ∙ r.3), subst (λ y. Member y items) same (Member-at items r.0 r.1))

kept_into : (items basket : List ℕ) (item : ℕ) → Member item basket → Member item items → Member item (decoded items (coded items basket))
kept_into items basket item m n =
    let p = place_of items item n in
    let r : Member p.0 (coded items basket) = subst (λ n. Member n (coded items basket)) (zero-add p.0)
    (into_ranks 0 items basket p.0 p.1 (has-from_Member basket (get_or items p.0 0) (subst (λ y. Member y basket) (sym p.2) m))) in
    subst (λ y. Member y (decoded items (coded items basket))) p.2 (into_decoded items (coded items basket) p.0 r)

-- ---- coding keeps the frequent sets

kept_contains : (items basket set : List ℕ) → ((item : ℕ) → Member item set → Member item items) → contains (decoded items (coded items basket)) set ≡ contains basket set
kept_contains items basket set ranked = same_test _ _
    (λ h. contains_each basket set (λ item m. (kept_from items basket item (has_each (decoded items (coded items basket)) set h item m)).0))
    (λ h. contains_each (decoded items (coded items basket)) set (λ item m. kept_into items basket item (has_each basket set h item m) (ranked item m)))

-- the support of a set over the baskets as items, told over the baskets of ranks
decoded_support : (items : List ℕ) (baskets : List Weighted) (set : List ℕ)
    → support_of (map (decoded_basket items) baskets) set ≡ sum_by (λ receipt. cond (contains (decoded items receipt.basket) set) receipt.weight 0) baskets
decoded_support items baskets set = fold-map (λ n receipt. n + weight_at set receipt) (decoded_basket items) 0 baskets

kept_support : (items : List ℕ) (baskets : List Weighted) (set : List ℕ) → ((item : ℕ) → Member item set → Member item items)
    → support_of (map (decoded_basket items) (map (coded_basket items) baskets)) set ≡ support_of baskets set
kept_support items baskets set ranked =
    decoded_support items (map (coded_basket items) baskets) set ∙ fold-map (λ n receipt. n + weight_at set (decoded_basket items receipt)) (coded_basket items) 0 baskets
    ∙ (λ i. sum_by (λ receipt. cond (kept_contains items receipt.basket set ranked i) receipt.weight 0) baskets)

-- a frequent item has a rank
pub item_ranked : (baskets : List Weighted) (minimum : Minimum) (item : ℕ) → is_frequent baskets minimum (item ∷ []) ≡ true → Member item (ranks_of baskets minimum)
item_ranked baskets minimum item h =
    let entry : ℕ × ℕ = (item, support_of baskets (item ∷ [])) in
    let m = frequent_items baskets minimum (item ∷ []) h item (inl refl) in
    grind (arith, common_steps, Member-map, Member-into_ranked, Member-from_filter)

-- an item that has a rank is frequent
pub ranked_is_frequent : (baskets : List Weighted) (minimum : Minimum) (item : ℕ) → Member item (ranks_of baskets minimum) → is_frequent baskets minimum (item ∷ []) ≡ true
ranked_is_frequent baskets minimum item m =
    let e = Member-from_map (λ (e : ℕ × ℕ). e.0) item (ranked (filter (λ e. meets minimum e.1 (total_of baskets)) (item_supports baskets))) m in
    let f = Member-filter (λ (e : ℕ × ℕ). meets minimum e.1 (total_of baskets)) e.0 (item_supports baskets) (Member-ranked _ e.0 e.1) in
    let s = Member-from_map (λ x. (x, support_of baskets (x ∷ []))) e.0 (items_of baskets) f.0 in
    grind (arith, common_steps)

-- coding changes no support of a frequent set, and makes no set frequent
module _ (baskets : List Weighted) (minimum : Minimum) where
  abbrev kept : List Weighted
  kept = baskets_of (coding_of baskets minimum)

  kept_total : total_of kept ≡ total_of baskets
  kept_total = kept_support (ranks_of baskets minimum) baskets [] (λ item m. absurd m)

  -- each item of a frequent set is frequent
  has_ranks : (set : List ℕ) → is_frequent baskets minimum set ≡ true → (item : ℕ) → Member item set → Member item (ranks_of baskets minimum)
  has_ranks set h item m =
      item_ranked baskets minimum item (subsets_are_frequent baskets minimum set (item ∷ []) (contains_each set (item ∷ []) (single item set m)) h)
    where
      single : (item : ℕ) (set : List ℕ) → Member item set → (y : ℕ) → Member y (item ∷ []) → Member y set
      single item set m y (inl e) = subst (λ z. Member z set) e m
      single item set m y (inr n) = absurd n

  kept_items : (set : List ℕ) → is_frequent kept minimum set ≡ true → (item : ℕ) → Member item set → Member item (ranks_of baskets minimum)
  kept_items set h item m =
      let ranked = ranks_of baskets minimum in
      let from = Member-flat_map (λ (receipt : Weighted). receipt.basket) item kept (in_items kept set (at_least_one minimum (support_of kept set) (total_of kept) h) item m) in
      let coded = Member-from_map (decoded_basket ranked) from.0 (map (coded_basket ranked) baskets) from.1 in
      let receipt = Member-from_map (coded_basket ranked) coded.0 baskets coded.1 in
      (kept_from ranked receipt.0.basket item (subst (λ (w : Weighted). Member item w.basket) (sym (ap (decoded_basket ranked) receipt.2 ∙ coded.2)) from.2)).1

  frequent_kept : (set : List ℕ) → is_frequent baskets minimum set ≡ true → is_frequent kept minimum set ≡ true
  frequent_kept set h = grind (arith, common_steps, kept_support, has_ranks, kept_total)

  frequent_from_kept : (set : List ℕ) → is_frequent kept minimum set ≡ true → (is_frequent baskets minimum set ≡ true) × (support_of kept set ≡ support_of baskets set)
  frequent_from_kept set h = let same = kept_support (ranks_of baskets minimum) baskets set (kept_items set h) in grind (arith, common_steps)

-- coding keeps the frequent sets
pub coding_keeps_frequent : CodingKeepsFrequent
coding_keeps_frequent baskets minimum =
    let list = frequent_of (kept baskets minimum) minimum in
    let lists = (frequent_is_unique (kept baskets minimum) minimum list).1 refl in
    let all : ListsFrequent baskets minimum list = record {
      in_order = lists.in_order;
      sound = All-weaker (IsSound (kept baskets minimum) minimum) (IsSound baskets minimum)
          (λ c s. let f = frequent_from_kept baskets minimum c.set s.1 in (s.0, f.0, s.2 ∙ f.1)) list lists.sound;
      complete = λ set n h.
          let k = frequent_kept baskets minimum set h in
          subst (Contains list) (λ i. record { set = set; count = (frequent_from_kept baskets minimum set k).1 i }) (lists.complete set n k);
    } in
    (frequent_is_unique baskets minimum list).0 all

-- ---- merging equal baskets of ranks

-- so does merging coded baskets, which keeps the total weight
pub merging_keeps_coded : MergingKeepsCoded
merging_keeps_coded coding =
    let same : (set : List ℕ) → support_of (baskets_of (merged_coding coding)) set ≡ support_of (baskets_of coding) set = λ set.
    decoded_support coding.items (merged_of coding.baskets) set ∙ merging_keeps_weights (λ basket. contains (decoded coding.items basket) set) coding.baskets
    ∙ sym (decoded_support coding.items coding.baskets set) in
    (same_supports (baskets_of (merged_coding coding)) (baskets_of coding) same coding.minimum, merging_keeps_supports coding.baskets [])
