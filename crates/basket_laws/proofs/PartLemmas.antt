-- Parts, counted apart and put together.
use Rattle.std.proofs.Common.{◌≡◌, ◌≢◌, ◌∙◌, ◌⊎◌, inl, inr, ℕ, Bool, true, cond, List, [], ◌∷◌, ap, ap₂, arith, filter, length, map, refl, sym, subst}
use Rattle.std.proofs.lemmas.Grind.{common_steps}
use Rattle.std.specs.Prelude.{All, IsTrue, ◌&&◌, ◌==◌, not}
use Rattle.std.specs.List.{Contains}
use Rattle.std.specs.List.Sorted.{IsStrictlySortedBy}
use Rattle.std.proofs.lemmas.Bool.{false≢true}
use Rattle.std.proofs.lemmas.List.Elements.{All-from_recursion, recursion_from_All}
use Rattle.std.proofs.lemmas.List.Kept.{IsStrictlySortedBy-filter}
use Rattle.basket_parts.specs.CombinedCounts.{count_in, counted_in, frequent_in, has_set, is_frequent_in, sets_of, total_in}
use Rattle.basket_parts.proofs.theory.Sets.{has_from_sets, sets-in_order, sets_from_has}
use Rattle.basket_read.specs.declared.counted_line.CountedLine.{CountedLine}
use Rattle.basket_sets.specs.declared.counted.Counted.{Counted}
use Rattle.basket_sets.specs.declared.minimum.Minimum.{Minimum}
use Rattle.basket_sets.specs.declared.minimum.Minimum.TheVariants.{Share}
use Rattle.basket_sets.specs.declared.weighted.Weighted.{Weighted}
use Rattle.basket_sets.specs.Frequent.{IsNonemptySet, ListsFrequent, counted, frequent_of, is_frequent}
use Rattle.basket_sets.specs.Itemset.{IsRising}
use Rattle.basket_sets.specs.Minimum.{meets}
use Rattle.basket_sets.specs.Order.{report_order}
use Rattle.basket_sets.specs.Support.{support_of, total_of}
use Rattle.basket_sets.proofs.theory.Frequent.{frequent_is_unique}
use Rattle.basket_sets.proofs.theory.Members.{All-from_Member, Contains-from_Member, Member, Member-filter, Member-from_Contains, Member-from_filter, Member-from_map, Member-map, at_Member}
use Rattle.basket_laws.specs.Parts.{PartsMakeTheWhole, counts_of_parts, is_frequent_in_some, said_of, whole_of}
use Rattle.basket_laws.proofs.CountLemmas.{any, any_asked, any_from_Member, Member_from_any, count_among, count_said, has_among, has_from_parts, has_in_parts, has_said, parts_add_up}
use Rattle.basket_laws.proofs.ShareLemmas.{some_part_has_it}
use Rattle.mine_sets.specs.Asked.{asked_of}

both : (a b : Bool) → (a && b) ≡ true → (a ≡ true) × (b ≡ true)
both h1 h2 h3 = grind (arith, common_steps)

some_items : (set : List ℕ) → not (length set == 0) ≡ true → set ≢ []
some_items set e none = false≢true (sym (ap (λ s. not (length s == 0)) none) ∙ e)

has_items : (set : List ℕ) → set ≢ [] → not (length set == 0) ≡ true
has_items h1 h2 = grind (arith, common_steps)

sets_of_counted : (lines : List CountedLine) (sets : List (List ℕ)) → map (λ (c : Counted). c.set) (map (counted_in lines) sets) ≡ sets
sets_of_counted lines [] = refl
sets_of_counted lines (set ∷ sets) = ap (λ rest. set ∷ rest) (sets_of_counted lines sets)

module _
    (parts : List (List Weighted)) (share : ℕ × ℕ) (sets : List (List ℕ)) (lines : List CountedLine)
    (rise : All IsRising sets)
    (listed : (set : List ℕ) → IsNonemptySet set → IsTrue (is_frequent_in_some parts (Share share) set) → Contains sets set)
    (said : map said_of lines ≡ counts_of_parts parts sets) where
  abbrev minimum : Minimum
  minimum = Share share

  abbrev whole : List Weighted
  whole = whole_of parts

  pub count_is : (set : List ℕ) → count_in lines set ≡ cond (any set (asked_of sets)) (support_of whole set) 0
  count_is set = count_said lines set ∙ ap (λ list. count_among list set) said ∙ parts_add_up parts sets set

  pub count_of_asked : (set : List ℕ) → any set (asked_of sets) ≡ true → count_in lines set ≡ support_of whole set
  count_of_asked set there = count_is set ∙ ap (λ b. cond b (support_of whole set) 0) there

  pub total_is : total_in lines ≡ total_of whole
  total_is = count_of_asked [] (any_asked [] sets)

  pub has_is : (set : List ℕ) → has_set lines set ≡ has_among (counts_of_parts parts sets) set
  has_is set = has_said lines set ∙ ap (λ list. has_among list set) said

  met_is : (set : List ℕ) → any set (asked_of sets) ≡ true → meets minimum (count_in lines set) (total_in lines) ≡ is_frequent whole minimum set
  met_is set there = ap₂ (meets minimum) (count_of_asked set there) total_is

  abbrev IsSound : Counted → Type 0
  IsSound c = IsNonemptySet c.set × IsTrue (is_frequent whole minimum c.set) × (c.count ≡ support_of whole c.set)

  asked_rises : (set : List ℕ) → set ≢ [] → any set (asked_of sets) ≡ true → IsRising set
  asked_rises set some there = go (Member_from_any set ([] ∷ sets) (sym (any_asked set sets) ∙ there))
    where
      go : ([] ≡ set) ⊎ Member set sets → IsRising set
      go (inl none) = absurd (some (sym none))
      go (inr m) = at_Member IsRising set sets (recursion_from_All IsRising sets rise) m

  set_sound : (set : List ℕ) → Member set (filter (is_frequent_in lines minimum) (sets_of lines)) → IsSound (counted_in lines set)
  set_sound set m =
      let kept = Member-filter (is_frequent_in lines minimum) set (sets_of lines) m in
      let tests = both (not (length set == 0)) (meets minimum (count_in lines set) (total_in lines)) kept.1 in
      let there = has_from_parts parts sets set (sym (has_is set) ∙ has_from_sets lines set kept.0) in
      let some = some_items set tests.0 in
      ((asked_rises set some there, some), sym (met_is set there) ∙ tests.1, count_of_asked set there)

  sound : (c : Counted) → Member c (frequent_in lines minimum) → IsSound c
  sound c m = grind (arith, common_steps, Member-from_map, set_sound)

  in_lines : (set : List ℕ) → IsTrue (is_frequent_in_some parts minimum set) → any set (asked_of sets) ≡ true → has_set lines set ≡ true
  in_lines set some there = has_is set ∙ go parts some
    where
      go : (parts : List (List Weighted)) → IsTrue (is_frequent_in_some parts minimum set) → has_among (counts_of_parts parts sets) set ≡ true
      go [] some = absurd (false≢true some)
      go (part ∷ parts) some = has_in_parts part parts sets set there

  -- a frequent set of the whole is asked for
  pub frequent_is_asked : (set : List ℕ) → IsNonemptySet set → IsTrue (is_frequent whole minimum set) → any set (asked_of sets) ≡ true
  frequent_is_asked set nonempty met = grind (arith, common_steps, some_part_has_it, any_asked, any_from_Member, Member-from_Contains)

  complete : (set : List ℕ) → IsNonemptySet set → IsTrue (is_frequent whole minimum set) → Contains (frequent_in lines minimum) (counted whole set)
  complete set nonempty met =
      let some = some_part_has_it parts share set met in
      let there = frequent_is_asked set nonempty met in
      let passes = ap₂ (λ a b. a && b) (has_items set nonempty.1) (met_is set there ∙ met) in
      let m = Member-from_filter (is_frequent_in lines minimum) set (sets_of lines) (sets_from_has lines set (in_lines set some there)) passes in
      let same : counted_in lines set ≡ counted whole set = ap (λ n. record { set = set; count = n }) (count_of_asked set there) in
      subst (Contains (frequent_in lines minimum)) same (Contains-from_Member (counted_in lines set) (frequent_in lines minimum) (Member-map (counted_in lines) set (filter (is_frequent_in lines minimum) (sets_of lines)) m))

  lists_whole : ListsFrequent whole minimum (frequent_in lines minimum)
  lists_whole = record {
    in_order = subst (IsStrictlySortedBy report_order) (sym (sets_of_counted lines (filter (is_frequent_in lines minimum) (sets_of lines))))
        (IsStrictlySortedBy-filter report_order (is_frequent_in lines minimum) (sets_of lines) (sets-in_order lines));
    sound = All-from_recursion _ (frequent_in lines minimum) (All-from_Member _ (frequent_in lines minimum) sound);
    complete = complete;
  }

  pub same_list : frequent_in lines minimum ≡ frequent_of whole minimum
  same_list = (frequent_is_unique whole minimum (frequent_in lines minimum)).0 lists_whole

pub parts_make_the_whole : PartsMakeTheWhole
parts_make_the_whole = same_list
