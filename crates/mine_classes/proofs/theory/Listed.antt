-- How many sets a class has, and that the classes of coded baskets are together all frequent sets.
use Rattle.std.proofs.Common.{◌≡◌, ℕ, ◌+◌, ◌<◌, true, List, [], ◌∷◌, ◌++◌, length, get_or, map, refl, sym, ap, ◌∙◌, subst, arith, zero, suc}
use Rattle.std.specs.List.{flat_map}
use Rattle.std.proofs.lemmas.List.{length-map, map-append}
use Rattle.std.proofs.lemmas.List.Elements.{Contains-get_or, recursion_from_All}
use Rattle.basket_sets.specs.declared.counted.Counted.{Counted}
use Rattle.basket_sets.specs.Database.{merged_of}
use Rattle.basket_sets.specs.Frequent.{ListsOnce}
use Rattle.basket_sets.specs.Minimum.{meets}
use Rattle.basket_sets.specs.Support.{support_of, total_of}
use Rattle.basket_sets.proofs.theory.Merging.{merging_keeps_supports}
use Rattle.basket_sets.proofs.theory.Members.{Member-from_Contains}
use Rattle.basket_ranks.specs.Codes.{Coding, DecodingKeepsFrequent, IsCodedBasket, baskets_of, coding_of, decoded_set, merged_coding, ranks_of}
use Rattle.basket_ranks.proofs.theory.Coding.{coded_support, coded_total, ranked_is_frequent}
use Rattle.mine_classes.specs.Classes.{ListsClass, class_of}
use Rattle.mine_classes.specs.Mined.{ClassItemsAreAll, CodedRanksAreFrequent, ListsClassItems, ListsHaveClassSize, RanksAreFrequent}
use Rattle.mine_classes.proofs.theory.Classes.{as_many_pass}
use Rattle.mine_classes.proofs.theory.Lists.{filter_all}
use Rattle.mine_classes.proofs.theory.Together.{classes_are_all, classes_are_listed, ranks_below}

-- ---- how many sets a list of a class has

pub lists_have_class_size : ListsHaveClassSize
lists_have_class_size coding rank list lists =
    ap length lists.decoded ∙ length-map lists.sets (decoded_set coding.items)
    ∙ ap length (sym (filter_all lists.sets))
    ∙ as_many_pass (λ set. true) coding.baskets coding.minimum rank lists.sets (class_of coding.baskets coding.minimum rank) lists.listed (classes_are_listed coding.baskets coding.minimum rank)
    ∙ ap length (filter_all (class_of coding.baskets coding.minimum rank))

-- ---- the classes of coded baskets are together all frequent sets

module _ (coding : Coding) where
  -- lists for the ranks from one on, as ranks, of which the lists as items are the decoded
  record Gathered (first : ℕ) (classes : List (List Counted)) : Type 0 where
    pub of : List (List Counted)
    pub long : length of ≡ length classes
    pub lists : (k : ℕ) → k < length of → ListsClass coding.baskets coding.minimum (first + k) (get_or of k [])
    pub decoded : map (map (decoded_set coding.items)) of ≡ classes

  gathered : (first : ℕ) (classes : List (List Counted)) → ((k : ℕ) → k < length classes → ListsClassItems coding (first + k) (get_or classes k [])) → Gathered first classes
  gathered first [] h = record { of = []; long = refl; lists = λ k below. absurd (omega arith); decoded = refl }
  gathered first (class ∷ classes) h =
      let here = h 0 (omega arith) in
      let rest = gathered (first + 1) classes (λ k below. subst (λ rank. ListsClassItems coding rank (get_or classes k [])) (omega arith) (h (suc k) (omega arith))) in
      record {
        of = here.sets ∷ rest.of;
        long = ap suc rest.long;
        lists = all here rest;
        decoded = λ i. sym here.decoded i ∷ rest.decoded i;
      }
    where
      all : (here : ListsClassItems coding (first + 0) class) (rest : Gathered (first + 1) classes) → (k : ℕ) → k < length (here.sets ∷ rest.of)
          → ListsClass coding.baskets coding.minimum (first + k) (get_or (here.sets ∷ rest.of) k [])
      all here rest zero below = here.listed
      all here rest (suc k) below = subst (λ rank. ListsClass coding.baskets coding.minimum rank (get_or rest.of k [])) (omega arith) (rest.lists k (omega arith))

flat_mapped : (f : Counted → Counted) (classes : List (List Counted)) → map f (flat_map (λ class. class) classes) ≡ flat_map (λ class. class) (map (map f) classes)
flat_mapped f [] = refl
flat_mapped f (class ∷ classes) = map-append f class (flat_map (λ c. c) classes) ∙ ap (λ rest. map f class ++ rest) (flat_mapped f classes)

pub class_items_are_all : DecodingKeepsFrequent → ClassItemsAreAll
class_items_are_all decoding coding classes is long lists =
    let g = gathered coding 0 classes (λ k below. subst (λ rank. ListsClassItems coding rank (get_or classes k [])) (omega arith) (lists k below)) in
    subst (ListsOnce (baskets_of coding) coding.minimum) (flat_mapped (decoded_set coding.items) g.of ∙ ap (flat_map (λ class. class)) g.decoded)
    (decoding coding (flat_map (λ class. class) g.of) is
    (classes_are_all coding.baskets coding.minimum g.of
    (λ rank m. subst (λ n. rank < n) (sym (g.long ∙ long)) (ranks_below coding.items coding.baskets (recursion_from_All (IsCodedBasket coding.items) coding.baskets is.each) rank
    (Member-from_Contains rank (flat_map (λ receipt. receipt.basket) coding.baskets) m)))
    (λ rank below. subst (λ r. ListsClass coding.baskets coding.minimum r (get_or g.of rank [])) (omega arith) (g.lists rank below))))

-- ---- the ranks of a coded database

pub coded_ranks_are_frequent : CodedRanksAreFrequent
coded_ranks_are_frequent baskets minimum = (coded, merged)
  where
    coded : RanksAreFrequent (coding_of baskets minimum)
    coded rank below =
        ap (λ s. meets minimum s (total_of (coding_of baskets minimum).baskets)) (coded_support (ranks_of baskets minimum) baskets rank below)
        ∙ ap (meets minimum (support_of baskets (get_or (ranks_of baskets minimum) rank 0 ∷ []))) (coded_total (ranks_of baskets minimum) baskets)
        ∙ ranked_is_frequent baskets minimum (get_or (ranks_of baskets minimum) rank 0)
        (Member-from_Contains (get_or (ranks_of baskets minimum) rank 0) (ranks_of baskets minimum) (Contains-get_or (ranks_of baskets minimum) rank 0 below))

    merged : RanksAreFrequent (merged_coding (coding_of baskets minimum))
    merged rank below =
        ap (λ s. meets minimum s (total_of (merged_of (coding_of baskets minimum).baskets))) (merging_keeps_supports (coding_of baskets minimum).baskets (rank ∷ []))
        ∙ ap (meets minimum (support_of (coding_of baskets minimum).baskets (rank ∷ []))) (merging_keeps_supports (coding_of baskets minimum).baskets [])
        ∙ coded rank below
