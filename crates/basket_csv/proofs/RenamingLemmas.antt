-- Numbers of names among some of their own, and among all.
use Rattle.std.proofs.Common.{◌≡◌, ℕ, true, false, List, [], ◌∷◌, ◌++◌, length, map, get_or, ltb, sym, ap, ◌∙◌, subst, arith}
use Rattle.std.proofs.lemmas.Grind.{common_steps}
use Rattle.std.specs.List.{AllByRecursion, IsDistinct, list_all}
use Rattle.std.specs.Prelude.{nat_eq}
use Rattle.std.specs.Str.{bytes_eq}
use Rattle.std.proofs.lemmas.Bool.{and_parts, or_parts}
use Rattle.std.proofs.lemmas.List.{length-map}
use Rattle.basket_sets.specs.Itemset.{AllBelow, renamed_set, rising}
use Rattle.basket_sets.proofs.theory.Members.{Member, Member-from_map, Member-map}
use Rattle.basket_sets.proofs.theory.Rising.{Member-into_rising, Member-rising, has-append, has-rising, rising-rises, rising_is}
use Rattle.basket_sets.proofs.theory.Tests.{below_from_all}
use Rattle.basket_names.specs.Names.{are_among, in_order, is_among, number_in}
use Rattle.basket_names.proofs.theory.Together.{numbers_at, numbers_below}
use Rattle.basket_csv.proofs.LawLemmas.{Distinct, distinct_all, other_way}
use Rattle.basket_csv.proofs.NamedLemmas.{same_number}

-- the rising list of images is that of the images of the rising list
rising_images : (f : ℕ → ℕ) (numbers : List ℕ) → rising (map f (rising numbers)) ≡ rising (map f numbers)
rising_images f numbers = rising_is (map f (rising numbers)) (rising (map f numbers)) (rising-rises (map f numbers))
    (λ z m. let p = Member-from_map f z (rising numbers) m in
    Member-into_rising (map f numbers) z (subst (λ w. Member w (map f numbers)) p.2 (Member-map f p.0 numbers (Member-rising numbers p.0 p.1))))
    (λ z m. let p = Member-from_map f z numbers (Member-rising (map f numbers) z m) in
    subst (λ w. Member w (map f (rising numbers))) p.2 (Member-map f p.0 (rising numbers) (Member-into_rising numbers p.0 p.1)))

-- ---- no two names have one number

apart : (all : List (List ℕ)) (name : List ℕ) (own : List (List ℕ)) → is_among own name ≡ false → is_among all name ≡ true → are_among all own ≡ true
    → AllByRecursion (λ number. nat_eq (number_in all name) number ≡ false) (map (number_in all) own)
apart all name [] new known among = tt
apart all name (other ∷ own) new known among =
    let p = or_parts (bytes_eq name other) (is_among own name) new in
    let q = and_parts (is_among all other) (are_among all own) among in
    (same_number all name other known q.0 ∙ other_way name other p.0, apart all name own p.1 known q.1)

distinct_own : (all own : List (List ℕ)) → Distinct own → are_among all own ≡ true → IsDistinct nat_eq (map (number_in all) own)
unfolding IsDistinct
distinct_own all [] distinct among = tt
distinct_own all (name ∷ own) distinct among =
    let q = and_parts (is_among all name) (are_among all own) among in
    (apart all name own distinct.0 q.0 q.1, distinct_own all own distinct.1 q.1)

pub distinct_numbers : (all some : List (List ℕ)) → are_among all (in_order some) ≡ true → IsDistinct nat_eq (map (number_in all) (in_order some))
distinct_numbers all some among = distinct_own all (in_order some) (distinct_all [] some tt) among

-- ---- sets of names

-- the names of a part, all names, and the numbers of the first among the others
module _ (own all : List (List ℕ)) (numbers : List ℕ) (are : numbers ≡ map (number_in all) own) where
  pub set_again : (some : List (List ℕ)) → are_among own some ≡ true → renamed_set numbers (rising (map (number_in own) some)) ≡ rising (map (number_in all) some)
  set_again some among =
      rising_images (λ number. get_or numbers number 0) (map (number_in own) some)
      ∙ ap rising (ap (λ ns. map (λ number. get_or ns number 0) (map (number_in own) some)) are ∙ numbers_at all own some among)

  pub list_below : (some : List (List ℕ)) → are_among own some ≡ true → AllBelow (length numbers) (map (number_in own) some)
  list_below some among =
      below_from_all (length numbers) (map (number_in own) some)
      (ap (λ n. list_all (λ number. ltb number n) (map (number_in own) some)) (ap length are ∙ length-map own (number_in all)) ∙ numbers_below own some among)

  pub set_below : (some : List (List ℕ)) → are_among own some ≡ true → AllBelow (length numbers) (rising (map (number_in own) some))
  set_below some among item h = list_below some among item (sym (has-rising (map (number_in own) some) item) ∙ h)

-- what is above two lists is above them joined
pub both_below : (bound : ℕ) (a b : List ℕ) → AllBelow bound a → AllBelow bound b → AllBelow bound (a ++ b)
both_below bound a b first second item h = grind (arith, common_steps, has-append)
