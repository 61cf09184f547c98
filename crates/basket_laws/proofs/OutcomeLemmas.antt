-- Questions to counts of parts.
use Rattle.std.proofs.Common.{◌≡◌, ◌≢◌, ◌∙◌, inl, inr, ◌≤◌, ◌-◌, ℕ, Bool, true, false, cond, List, [], ◌∷◌, Option, Some, None, Ok, ap, ap₂, arith, length, map, refl, subst, sym}
use Rattle.std.proofs.lemmas.Grind.{common_steps}
use Rattle.std.specs.Prelude.{All, IsTrue, ◌||◌, find, nat_lt}
use Rattle.std.specs.List.{Contains, list_any}
use Rattle.std.proofs.lemmas.Bool.Decides.{nat_tests}
use Rattle.std.proofs.lemmas.List.Elements.{recursion_from_All}
use Rattle.basket_outcome.specs.Counted.{listing_in}
use Rattle.basket_outcome.specs.Contents.{by_names, by_numbers, named_combined_of, with_names}
use Rattle.basket_outcome.specs.declared.contents.Contents.TheVariants as contents
use Rattle.basket_outcome.specs.Outcome.{report_of_listing, report_of_baskets, of_listing, of_mining, outcome, outcome_for, outcome_of}
use Rattle.basket_core.specs.Listing.{Listing}
use Rattle.basket_counts.specs.Counts.{counts_of}
use Rattle.basket_counts.specs.Laws.{lines_from}
use Rattle.basket_csv.specs.Counts.{named_counts_of}
use Rattle.basket_parts.specs.Gap.{first_gap, has_gap, is_gap}
use Rattle.basket_parts.specs.Laws.{CombiningKeepsCounts, CombiningKeepsFrequent, CombiningKeepsSets}
use Rattle.basket_parts.specs.CombinedCounts.{count_if, count_in, frequent_in, has_set, combined, combined_of, total_in}
use Rattle.basket_plan.specs.declared.plan.Ask.{Ask}
use Rattle.basket_plan.specs.Plan.{Question}
use Rattle.basket_read.specs.declared.counted_line.CountedLine.{CountedLine}
use Rattle.basket_read.specs.Fimi.{MOST_BYTES}
use Rattle.basket_read.specs.Fault.{result_and_then}
use Rattle.basket_rules.proofs.theory.Condensed.{list_decides_closed, list_decides_maximal}
use Rattle.basket_rules.proofs.theory.Rules.{list_decides_rules}
use Rattle.basket_sets.specs.declared.counted.Counted.{Counted}
use Rattle.basket_sets.specs.declared.minimum.Minimum.{Minimum}
use Rattle.basket_sets.specs.declared.minimum.Minimum.TheVariants.{Share}
use Rattle.basket_sets.specs.declared.weighted.Weighted.{Weighted}
use Rattle.basket_sets.specs.Database.{MOST_WEIGHT}
use Rattle.basket_sets.specs.Frequent.{IsNonemptySet, frequent_of}
use Rattle.basket_sets.specs.Itemset.{IsRising}
use Rattle.basket_sets.specs.Subsets.{subsets_of_size}
use Rattle.basket_sets.specs.Support.{support_of, total_of}
use Rattle.basket_sets.proofs.theory.Frequent.{IsSound, lists_frequent}
use Rattle.basket_sets.proofs.theory.Members.{Member, Member-from_map, at_Member}
use Rattle.basket_sets.proofs.theory.Rising.{contains_each}
use Rattle.basket_sets.proofs.theory.Subsets.{IsSubset-from_Member}
use Rattle.basket_sets.proofs.theory.Support.{subsets_are_frequent, support_falls}
use Rattle.basket_laws.specs.Outcomes.{PartsAnswerAsTheWhole, of_counts_at}
use Rattle.basket_laws.specs.Names.{of_named_counts_at}
use Rattle.basket_laws.specs.Parts.{counts_of_parts, is_frequent_in_some, said_of, whole_of}
use Rattle.basket_laws.specs.Texts.{texts_of_parts}
use Rattle.basket_laws.proofs.CountLemmas.{any, any_asked, has_among, has_in_parts}
use Rattle.basket_laws.proofs.PartLemmas.{count_is, count_of_asked, frequent_is_asked, has_is, same_list, total_is}
use Rattle.basket_laws.proofs.TextLemmas.{reports_are_read_back, said_again, texts_are}
use Rattle.mine_sets.specs.Asked.{asked_of}

-- ---- nothing is found

none_found : {A : Type 0} (p : A → Bool) (list : List A) → ((x : A) → Member x list → p x ≡ false) → find p list ≡ None
none_found p [] h = refl
none_found p (x ∷ list) h = ap (λ b. cond b (Some x) (find p list)) (h x (inl refl)) ∙ none_found p list (λ y m. h y (inr m))

none_any : {A : Type 0} (p : A → Bool) (list : List A) → ((x : A) → Member x list → p x ≡ false) → list_any p list ≡ false
none_any p [] h = refl
none_any p (x ∷ list) h = ap (λ b. b || list_any p list) (h x (inl refl)) ∙ none_any p list (λ y m. h y (inr m))

not_below : (a b : ℕ) → b ≤ a → nat_lt a b ≡ false
not_below a b h = grind (arith, nat_tests, h)

-- ---- what the list of the frequent sets decides

module _ (whole : List Weighted) (question : Question) where
  abbrev listing : Listing
  listing = record { sets = frequent_of whole question.minimum; total = total_of whole }

  same_text : (names : Option (List (List ℕ))) (ask : Ask) → question.ask ≡ ask → report_of_listing listing names question ≡ report_of_baskets whole names question
  same_text h1 h2 h3 = grind (arith, common_steps, list_decides_closed, list_decides_maximal, list_decides_rules)

-- ---- counts of parts

module _
    (keeps_sets : CombiningKeepsSets) (keeps_counts : CombiningKeepsCounts) (keeps_frequent : CombiningKeepsFrequent)
    (parts : List (List Weighted)) (share : ℕ × ℕ) (sets : List (List ℕ)) (lines : List CountedLine)
    (rise : All IsRising sets)
    (listed : (set : List ℕ) → IsNonemptySet set → IsTrue (is_frequent_in_some parts (Share share) set) → Contains sets set)
    (said : map said_of lines ≡ counts_of_parts parts sets)
    (some : parts ≢ []) (light : total_of (whole_of parts) ≤ MOST_WEIGHT) where
  abbrev minimum : Minimum
  minimum = Share share

  abbrev whole : List Weighted
  whole = whole_of parts

  in_lines : (set : List ℕ) → any set (asked_of sets) ≡ true → has_set lines set ≡ true
  in_lines set there = has_is parts share sets lines rise listed said set ∙ go parts some
    where
      go : (parts : List (List Weighted)) → parts ≢ [] → has_among (counts_of_parts parts sets) set ≡ true
      go [] some = absurd (some refl)
      go (part ∷ parts) some = has_in_parts part parts sets set there

  count_together : (set : List ℕ) → any set (asked_of sets) ≡ true → count_if (combined lines) set ≡ Some (support_of whole set)
  count_together set there =
      ap₂ (λ b n. cond b (Some n) None) (keeps_sets lines set ∙ in_lines set there) (keeps_counts lines set ∙ count_of_asked parts share sets lines rise listed said set there)

  at_most_all : (set : List ℕ) → count_in lines set ≤ total_of whole
  at_most_all set = subst (λ n. n ≤ total_of whole) (sym (count_is parts share sets lines rise listed said set)) (go (any set (asked_of sets)))
    where
      go : (b : Bool) → cond b (support_of whole set) 0 ≤ total_of whole
      go true = support_falls whole set [] refl
      go false = omega arith

  not_heavy : combined_of lines ≡ Ok (combined lines)
  not_heavy = grind (arith, common_steps, none_any, Member-from_map, not_below, at_most_all)

  -- no set has a gap
  no_gap : (c : Counted) → Member c (frequent_of whole minimum) → has_gap (combined lines) c.set ≡ false
  no_gap c m =
      let sound = at_Member (IsSound whole minimum) c (frequent_of whole minimum) (recursion_from_All (IsSound whole minimum) (frequent_of whole minimum) (lists_frequent whole minimum).sound) m in
      let set = c.set in
      let nonempty = sound.0 in
      let met = sound.1 in
      let count = keeps_counts lines set ∙ count_of_asked parts share sets lines rise listed said set (frequent_is_asked parts share sets lines rise listed said set nonempty met) in
      none_any (λ subset. is_gap (count_in (combined lines) set) subset (count_if (combined lines) subset)) (subsets_of_size (length set - 1) set) (λ subset inside.
      let s = IsSubset-from_Member (length set - 1) set subset nonempty.0 inside in
      let within = contains_each set subset s.within in
      let there = asked_subset subset s.rises (λ full. (frequent_is_asked parts share sets lines rise listed said subset (s.rises, full) (subsets_are_frequent whole minimum set subset within met))) in
      ap₂ (λ n o. is_gap n subset o) count (count_together subset there) ∙ not_below (support_of whole subset) (support_of whole set) (support_falls whole set subset within))
    where
      asked_subset : (subset : List ℕ) → IsRising subset → (subset ≢ [] → any subset (asked_of sets) ≡ true) → any subset (asked_of sets) ≡ true
      asked_subset [] up h = any_asked [] sets
      asked_subset (item ∷ items) up h = h (λ e. cc)

  same_sets : frequent_in (combined lines) minimum ≡ frequent_of whole minimum
  same_sets = keeps_frequent lines minimum ∙ same_list parts share sets lines rise listed said

  whole_lines : first_gap (combined lines) minimum ≡ None
  whole_lines = grind (arith, common_steps, none_found, no_gap, Member, same_sets)

  same_total : total_in (combined lines) ≡ total_of whole
  same_total = keeps_counts lines [] ∙ total_is parts share sets lines rise listed said

  module _ (question : Question) where
    abbrev asked : Question
    asked = of_counts_at question share

    same_listing : listing_in asked (combined lines) ≡ Ok (listing whole asked)
    same_listing = let there : has_set (combined lines) [] ≡ true = keeps_sets lines [] ∙ in_lines [] (any_asked [] sets) in grind (arith, common_steps, same_sets, same_total, whole_lines)

    answers : (bytes : List ℕ) → counts_of bytes ≡ Ok lines → outcome bytes asked ≡ outcome_for (contents.Baskets whole None) asked
    answers bytes read =
        ap (λ r. outcome_of (by_numbers contents.Counts (result_and_then combined_of r)) asked) read
        ∙ ap (λ r. outcome_of (by_numbers contents.Counts r) asked) not_heavy
        ∙ ap (λ r. of_listing r None asked) same_listing
        ∙ ap of_mining (same_text whole asked None question.ask refl)

    abbrev asked_by_names : Question
    asked_by_names = of_named_counts_at question share

    -- the same of lines by names
    pub answers_by_names : (names : List (List ℕ)) (bytes : List ℕ) → named_counts_of question.layout.separator question.layout.header [] bytes ≡ Ok (lines, names)
        → outcome bytes asked_by_names ≡ outcome_for (contents.Baskets whole (Some names)) asked_by_names
    answers_by_names names bytes read =
        ap (λ r. outcome_of (by_names contents.Counts (result_and_then named_combined_of r)) asked_by_names) read
        ∙ ap (λ r. outcome_of (by_names contents.Counts (with_names names r)) asked_by_names) not_heavy
        ∙ ap (λ r. of_listing r (Some names) asked_by_names) same_listing
        ∙ ap of_mining (same_text whole asked_by_names (Some names) question.ask refl)

pub parts_answer_as_the_whole : CombiningKeepsSets → CombiningKeepsCounts → CombiningKeepsFrequent → PartsAnswerAsTheWhole
parts_answer_as_the_whole keeps_sets keeps_counts keeps_frequent parts share sets question some light rise listed written few =
    let list = counts_of_parts parts sets in
    let same = texts_are parts sets in
    answers keeps_sets keeps_counts keeps_frequent parts share sets (lines_from 1 list) rise listed (said_again 1 list) some light question (texts_of_parts parts sets)
    (ap counts_of same ∙ reports_are_read_back list written (subst (λ text. length text ≤ MOST_BYTES) same few))
