-- The class of a rank, as a search lists it.
use Rattle.std.proofs.Common.{◌≡◌, ℕ, ◌≤◌, true, List, [], ◌∷◌, ◌++◌, length, leb, map, refl, sym, ap, ◌∙◌, subst, inl, inr, arith}
use Rattle.std.proofs.lemmas.Grind.{common_steps}
use Rattle.std.specs.Cmp.Lexicographic.{pointwise}
use Rattle.std.specs.List.{Contains, IsDistinct}
use Rattle.std.specs.Prelude.{nat_eq}
use Rattle.std.proofs.lemmas.Bool.{le-leb, leb-true}
use Rattle.std.proofs.lemmas.List.{length-map}
use Rattle.std.proofs.lemmas.List.Elements.{All-from_recursion}
use Rattle.std.proofs.lemmas.Simd.{map-map}
use Rattle.basket_ranks.specs.Codes.{Coding, decoded, decoded_set}
use Rattle.basket_sets.specs.declared.counted.Counted.{Counted}
use Rattle.basket_sets.specs.Frequent.{IsNonemptySet, is_frequent}
use Rattle.basket_sets.specs.Itemset.{contains}
use Rattle.basket_sets.specs.Support.{support_of}
use Rattle.basket_sets.proofs.theory.Members.{All-from_Member, Contains-from_Member, Member, Member-append_right, Member-map}
use Rattle.basket_sets.proofs.theory.Rising.{contains_each}
use Rattle.basket_sets.proofs.theory.Support.{support_falls}
use Rattle.mine_classes.specs.Classes.{ListsClass, ends_in}
use Rattle.mine_classes.specs.Mined.{ListsClassItems, class_size}
use Rattle.mine_classes.proofs.theory.Classes.{IsOfRank}
use Rattle.mine_classes.proofs.theory.Listed.{lists_have_class_size}
use Rattle.mine_search.specs.Class.{IsOver, class_sets}
use Rattle.mine_search.specs.Node.{Supports, is_met}
use Rattle.mine_search.specs.Search.{found_at}
use Rattle.mine_search.proofs.theory.Found.{class_complete, class_distinct, class_sound}

module _ {coding : Coding} {over : Supports} (is : IsOver coding over) (rank : ℕ) where
  abbrev sets : List (List ℕ)
  sets = class_sets over rank

  abbrev pub counted_set : List ℕ → Counted
  counted_set set = record { set = set; count = over.support set }

  pub tests : (set : List ℕ) → is_met over set ≡ is_frequent coding.baskets coding.minimum set
  tests set = ap (leb over.least) (is.supports set) ∙ sym (is.least.met (support_of coding.baskets set) (support_falls coding.baskets set [] refl))

  -- a set has no greater support than a part of it
  pub support_less : (set subset : List ℕ) → contains set subset ≡ true → over.support set ≤ over.support subset
  support_less set subset has = let one = is.supports set in let two = is.supports subset in let less = support_falls coding.baskets set subset has in omega arith

  falls : (a b : List ℕ) → is_met over (a ++ b) ≡ true → is_met over b ≡ true
  falls a b h = grind (arith, common_steps, le-leb, leb-true, support_less, contains_each, Member-append_right)

  sets_of : map (λ (c : Counted). c.set) (map counted_set sets) ≡ sets
  sets_of = map-map (λ (c : Counted). c.set) counted_set sets ∙ map_same sets
    where
      map_same : (list : List (List ℕ)) → map (λ set. set) list ≡ list
      map_same [] = refl
      map_same (set ∷ list) = ap (λ l. set ∷ l) (map_same list)

  abbrev IsOfClass : Counted → Type 0
  IsOfClass = IsOfRank coding.baskets coding.minimum rank

  module _ (frequent : is_met over (rank ∷ []) ≡ true) where
    all_sound : (list : List (List ℕ)) → ((set : List ℕ) → Member set list → IsNonemptySet set × (ends_in rank set ≡ true) × (is_met over set ≡ true)) → (c : Counted) → Member c (map counted_set list) → IsOfClass c
    all_sound [] each c m = absurd m
    all_sound (set ∷ list) each c (inl e) = subst IsOfClass e (let s = each set (inl refl) in (s.0, s.1, sym (tests set) ∙ s.2, is.supports set))
    all_sound (set ∷ list) each c (inr m) = all_sound list (λ one n. each one (inr n)) c m

    pub class_listed : ListsClass coding.baskets coding.minimum rank (map counted_set sets)
    class_listed = record {
      distinct = subst (IsDistinct (pointwise nat_eq)) (sym sets_of) (class_distinct (is_met over) rank);
      sound = All-from_recursion IsOfClass (map counted_set sets) (All-from_Member IsOfClass (map counted_set sets) (all_sound sets (class_sound (is_met over) rank frequent)));
      complete = λ set n ends h. subst (λ count. Contains (map counted_set sets) (record { set = set; count = count })) (is.supports set)
          (Contains-from_Member (counted_set set) (map counted_set sets) (Member-map counted_set set sets (class_complete (is_met over) falls rank set n.0 ends (tests set ∙ h))));
    }

    pub lists : (list : List Counted) → list ≡ map (found_at over) sets → ListsClassItems coding rank list
    lists list named = record {
      sets = map counted_set sets;
      listed = class_listed;
      decoded = named ∙ (λ i. map (λ set. record { set = decoded (is.items i) set; count = over.support set }) sets) ∙ sym (map-map (decoded_set coding.items) counted_set sets);
    }

    -- as many sets are listed as the class has
    pub as_many : length sets ≡ class_size coding rank
    as_many = sym (length-map sets (found_at over)) ∙ lists_have_class_size coding rank (map (found_at over) sets) (lists (map (found_at over) sets) refl)

    -- it has one or more
    pub class_some : 1 ≤ class_size coding rank
    class_some = omega (arith, as_many)
