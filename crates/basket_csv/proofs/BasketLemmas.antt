-- The baskets of records, one after another.
use Rattle.std.proofs.Common.{◌≡◌, ℕ, Bool, true, List, [], ◌∷◌, ◌++◌, length, map, drop, fold, Some, None, Result, Ok, Err, unwrap_or, refl, sym, ap, ◌∙◌, subst, append-nil, arith}
use Rattle.std.proofs.lemmas.Grind.{common_steps}
use Rattle.std.specs.List.{flat_map}
use Rattle.std.specs.Result.{OnOk}
use Rattle.std.proofs.lemmas.Bool.{and_parts}
use Rattle.std.proofs.lemmas.List.{map-append}
use Rattle.std.proofs.lemmas.List.Concat.{flat_map-append}
use Rattle.std.proofs.lemmas.List.Folds.{list_all-append}
use Rattle.basket_sets.specs.declared.weighted.Weighted.{Weighted}
use Rattle.basket_sets.specs.Database.{renamed_basket}
use Rattle.basket_sets.specs.Itemset.{AllBelow, rising}
use Rattle.basket_sets.specs.Support.{all_items}
use Rattle.basket_read.specs.declared.fault.ReadFault.{ReadFault}
use mir.Val.{bool_byte}
use Rattle.basket_read.specs.Fault.{ReturnsBy}
use Rattle.basket_read.specs.Fimi.{basket_of_numbers, if_light}
use Rattle.basket_read.specs.declared.item_counts.ItemCounts.{ItemCounts}
use Rattle.basket_csv.specs.declared.baskets.Baskets.{Baskets}
use Rattle.basket_csv.specs.declared.reading.Reading.{Reading}
use Rattle.basket_csv.specs.Baskets.{AreNamedCounts, HasBaskets}
use Rattle.basket_csv.specs.Csv.{is_text, fields_before, names_in, weight_of, basket_fault, all_names, basket_of, with_names}
use Rattle.basket_csv.specs.Rows.{Rows}
use Rattle.basket_read.specs.GatheredBaskets.{Gathers, HasGathered}
use Rattle.basket_names.specs.Names.{with_name, number_in, is_among, are_among}
use Rattle.basket_names.proofs.theory.Names.{numbers_stay}
use Rattle.basket_csv.proofs.RenamingLemmas.{both_below, set_again, set_below}

-- ---- one record more

baskets_stay : (weighted : Bool) (names others : List (List ℕ)) (rows : List (List (List ℕ))) → are_among names (all_names weighted rows) ≡ true
    → flat_map (basket_of weighted (fold with_name names others)) rows ≡ flat_map (basket_of weighted names) rows
baskets_stay weighted names others [] e = refl
baskets_stay weighted names others (row ∷ rows) e =
    let h = and_parts (are_among names (names_in weighted row)) (are_among names (all_names weighted rows)) (sym (list_all-append (is_among names) (names_in weighted row) (all_names weighted rows)) ∙ e) in
    ap (λ ns. basket_of_numbers ns (unwrap_or (weight_of weighted row) 1) ++ flat_map (basket_of weighted (fold with_name names others)) rows) (numbers_stay names others (names_in weighted row) h.0)
    ∙ ap (λ bs. basket_of weighted names row ++ bs) (baskets_stay weighted names others rows h.1)

-- how many fields come before the names, as a number in the code
pub before_names : (weighted : Bool) (first : ℕ) → first ≡ bool_byte weighted → first ≡ fields_before weighted
before_names h1 h2 h3 = grind (arith, common_steps)

-- a record of texts with a weight has no fault
pub no_fault : (weighted : Bool) (nth : ℕ) (row : List (List ℕ)) (first weight : ℕ)
    → first ≡ fields_before weighted → true ≡ is_text (drop first row) → is_text row ≡ is_text (drop (fields_before weighted) row) → Some weight ≡ weight_of weighted row
    → basket_fault weighted nth row ≡ None
no_fault weighted nth row first weight f text whole w = grind (arith, common_steps)

-- whether a record has a fault does not depend on its number
pub any_number : (weighted : Bool) (n m : ℕ) (row : List (List ℕ)) → basket_fault weighted n row ≡ None → basket_fault weighted m row ≡ None
any_number weighted n m row e = grind (arith, common_steps)

-- a record was added: its basket comes after those before
pub added : {X : Type 0} (old new : Baskets) (reading : Reading) (names more : List (List ℕ)) (rows : Rows) (row : List (List ℕ)) (weight : ℕ) (numbers : List ℕ) (r : Result X ReadFault)
    → Some weight ≡ weight_of old.weighted row → new.weighted ≡ old.weighted
    → more ≡ fold with_name names (names_in old.weighted row) → numbers ≡ map (number_in more) (names_in old.weighted row)
    → ((counting : Bool) (baskets : List Weighted) → HasGathered old.gathered counting baskets → OnOk r (HasGathered new.gathered counting (baskets ++ basket_of_numbers numbers weight)))
    → are_among names (all_names reading.weighted rows) ≡ true → HasBaskets old reading names rows → OnOk r (HasBaskets new reading more (rows ++ row ∷ []))
added old new reading names more rows row weight numbers (Err fault) w same grown ns gathers among h = tt
added old new reading names more rows row weight numbers (Ok x) w same grown ns gathers among h =
    let weighted = reading.weighted in
    let before = flat_map (basket_of weighted names) rows in
    let all : more ≡ fold with_name names (names_in weighted row) = grown ∙ ap (λ b. fold with_name names (names_in b row)) h.weighted in
    let basket : basket_of_numbers numbers weight ≡ basket_of weighted more row =
    ap (λ k. basket_of_numbers k weight) (ns ∙ ap (λ b. map (number_in more) (names_in b row)) h.weighted)
    ∙ ap (λ o. basket_of_numbers (map (number_in more) (names_in weighted row)) (unwrap_or o 1)) (w ∙ ap (λ b. weight_of b row) h.weighted) in
    let stay : flat_map (basket_of weighted more) rows ≡ before = ap (λ n. flat_map (basket_of weighted n) rows) all ∙ baskets_stay weighted names (names_in weighted row) rows among in
    let grows : flat_map (basket_of weighted more) (rows ++ row ∷ []) ≡ before ++ basket_of weighted more row =
    flat_map-append (basket_of weighted more) rows (row ∷ []) ∙ (λ i. stay i ++ append-nil (basket_of weighted more row) i) in
    record {
      weighted = same ∙ h.weighted;
      gathered = subst (HasGathered new.gathered reading.counting) (ap (λ b. before ++ b) basket ∙ sym grows) (gathers reading.counting before h.gathered);
    }

-- ---- other names

-- the names of a part, all names, and the numbers of the first among the others
module _ (weighted : Bool) (own all : List (List ℕ)) (numbers : List ℕ) (are : numbers ≡ map (number_in all) own) where
  both_among : (row : List (List ℕ)) (rows : Rows) → are_among own (all_names weighted (row ∷ rows)) ≡ true → (are_among own (names_in weighted row) ≡ true) × (are_among own (all_names weighted rows) ≡ true)
  both_among row rows e =
      and_parts (are_among own (names_in weighted row)) (are_among own (all_names weighted rows)) (sym (list_all-append (is_among own) (names_in weighted row) (all_names weighted rows)) ∙ e)

  basket_again : (names : List (List ℕ)) (weight : ℕ) → are_among own names ≡ true
      → map (renamed_basket numbers) (basket_of_numbers (map (number_in own) names) weight) ≡ basket_of_numbers (map (number_in all) names) weight
  basket_again [] weight among = refl
  basket_again (name ∷ names) weight among = ap (λ set. weighed set weight ∷ []) (set_again own all numbers are (name ∷ names) among)
    where
      weighed : List ℕ → ℕ → Weighted
      weighed set weight = record { basket = set; weight = weight }

  pub baskets_again : (rows : Rows) → are_among own (all_names weighted rows) ≡ true → map (renamed_basket numbers) (flat_map (basket_of weighted own) rows) ≡ flat_map (basket_of weighted all) rows
  baskets_again [] among = refl
  baskets_again (row ∷ rows) among =
      let both = both_among row rows among in
      map-append (renamed_basket numbers) (basket_of weighted own row) (flat_map (basket_of weighted own) rows)
      ∙ (λ i. basket_again (names_in weighted row) (unwrap_or (weight_of weighted row) 1) both.0 i ++ baskets_again rows both.1 i)

  basket_below : (names : List (List ℕ)) (weight : ℕ) → are_among own names ≡ true → AllBelow (length numbers) (all_items (basket_of_numbers (map (number_in own) names) weight))
  basket_below [] weight among = λ item h. absurd cc
  basket_below (name ∷ names) weight among = both_below (length numbers) (rising (map (number_in own) (name ∷ names))) [] (set_below own all numbers are (name ∷ names) among) (λ item h. absurd cc)

  pub baskets_below : (rows : Rows) → are_among own (all_names weighted rows) ≡ true → AllBelow (length numbers) (all_items (flat_map (basket_of weighted own) rows))
  baskets_below [] among = λ item h. absurd cc
  baskets_below (row ∷ rows) among =
      let both = both_among row rows among in
      subst (AllBelow (length numbers)) (sym (flat_map-append (λ (receipt : Weighted). receipt.basket) (basket_of weighted own row) (flat_map (basket_of weighted own) rows)))
      (both_below (length numbers) (all_items (basket_of weighted own row)) (all_items (flat_map (basket_of weighted own) rows)) (basket_below (names_in weighted row) (unwrap_or (weight_of weighted row) 1) both.0) (baskets_below rows both.1))

-- ---- what the baskets say

-- the counts of the baskets are those that are said, with their names
pub said : (counting : Bool) (result : Result ItemCounts ReadFault) (baskets : List Weighted) (names : List (List ℕ)) → ReturnsBy (Gathers counting) result (if_light baskets)
    → ReturnsBy (λ found. AreNamedCounts counting (found, names)) result (with_names (if_light baskets) names)
said counting (Ok found) baskets names (all, is, gathered) = (all, ap (λ l. with_names l names) is, gathered)
said counting (Err fault) baskets names h = λ other. ap (λ l. with_names l names) (h other)
