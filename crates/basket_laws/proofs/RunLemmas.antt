-- Runs over the parts of an input, and over the whole.
use Rattle.std.proofs.Common.{◌≡◌, ◌≢◌, ◌∙◌, ◌≤◌, ◌++◌, ℕ, List, [], ◌∷◌, None, Result, Ok, Err, ap, ap₂, length, map, refl, subst, sym, arith}
use Rattle.std.proofs.lemmas.Grind.{common_steps}
use Rattle.std.specs.List.{flat_map}
use Rattle.basket_outcome.specs.declared.fault.RunFault.{RunFault}
use Rattle.basket_outcome.specs.declared.contents.Contents.TheVariants as contents
use Rattle.basket_outcome.specs.Contents.{by_numbers}
use Rattle.basket.specs.Count.{count_outcome}
use Rattle.basket_outcome.specs.Outcome.{outcome, outcome_for, outcome_of}
use Rattle.basket_counts.specs.Counts.{sets_of_bytes}
use Rattle.basket_parts.specs.Laws.{CombiningKeepsCounts, CombiningKeepsFrequent, CombiningKeepsSets}
use Rattle.basket_plan.specs.declared.layout.Form.TheVariants.{Fimi}
use Rattle.basket_plan.specs.declared.layout.Layout.{Layout}
use Rattle.basket_read.specs.Fimi.{MOST_BYTES, fault_at, fimi_of, is_good}
use Rattle.basket_read.specs.Grammar.{PrefixesAreGood, GoodIsFaultless}
use Rattle.basket_read.specs.Laws.{LinesSayTheirs}
use Rattle.basket_report.specs.Report.{report_of}
use Rattle.basket_report.specs.Style.{Numbered}
use Rattle.basket_sets.specs.declared.weighted.Weighted.{Weighted}
use Rattle.basket_sets.specs.Database.{MOST_WEIGHT}
use Rattle.basket_sets.specs.Frequent.{counted}
use Rattle.basket_sets.specs.Support.{total_of}
use Rattle.basket_laws.specs.Cuts.{parts_cut, text_cut}
use Rattle.basket_laws.specs.Outcomes.{in_form, of_counts_at}
use Rattle.basket_laws.specs.Runs.{RunsOverPartsAgree, of_baskets_at}
use Rattle.basket_laws.specs.Texts.{texts_of_parts}
use Rattle.basket_laws.proofs.CutLemmas.{cuts_are_parts, from_ok}
use Rattle.basket_laws.proofs.OutcomeLemmas.{parts_answer_as_the_whole}
use Rattle.mine_sets.specs.Asked.{asked_of}

abbrev text_in : Result (List ℕ) RunFault → List ℕ
text_in (Ok text) = text
text_in (Err fault) = []

abbrev first_of : {A : Type 0} → A → List A → A
first_of other [] = other
first_of other (x ∷ xs) = x

abbrev others_of : {A : Type 0} → List A → List A
others_of [] = []
others_of (x ∷ xs) = xs

-- what is counted over a part is written
module _ (layout : Layout) (asked : List ℕ) (sets : List (List ℕ)) (read : sets_of_bytes asked ≡ Ok sets) where
  of_part : (bytes : List ℕ) (part : List Weighted) → fimi_of bytes ≡ Ok part → count_outcome (in_form Fimi layout) asked bytes ≡ Ok (report_of Numbered (map (counted part) (asked_of sets)))
  of_part bytes part said = grind (arith, common_steps)

  texts_are_counts : (inputs : List (List ℕ)) (parts : List (List Weighted)) (texts : List (List ℕ)) → map fimi_of inputs ≡ map (λ part. Ok part) parts
      → map (count_outcome (in_form Fimi layout) asked) inputs ≡ map (λ text. Ok text) texts → flat_map (λ text. text) texts ≡ texts_of_parts parts sets
  texts_are_counts [] [] [] said counts = refl
  texts_are_counts [] [] (text ∷ texts) said counts = absurd cc
  texts_are_counts [] (part ∷ parts) texts said counts = absurd cc
  texts_are_counts (input ∷ inputs) [] texts said counts = absurd cc
  texts_are_counts (input ∷ inputs) (part ∷ parts) [] said counts = absurd cc
  texts_are_counts (input ∷ inputs) (part ∷ parts) (text ∷ texts) said counts =
      let said_first : fimi_of input ≡ Ok part = ap (first_of (Ok part)) said in
      let counts_first : count_outcome (in_form Fimi layout) asked input ≡ Ok text = ap (first_of (Ok text)) counts in
      let written : text ≡ report_of Numbered (map (counted part) (asked_of sets)) = ap text_in (sym counts_first ∙ of_part input part said_first) in
      ap₂ (λ a b. a ++ b) written (texts_are_counts inputs parts texts (ap others_of said) (ap others_of counts))

some_parts : (fronts : List (List ℕ)) (last : List ℕ) (parts : List (List Weighted)) → map fimi_of (parts_cut fronts last) ≡ map (λ part. Ok part) parts → parts ≢ []
some_parts [] last [] said none = cc
some_parts (front ∷ fronts) last [] said none = cc
some_parts fronts last (part ∷ parts) said none = cc

pub runs_over_parts_agree : PrefixesAreGood is_good → GoodIsFaultless is_good fault_at → LinesSayTheirs → CombiningKeepsSets → CombiningKeepsCounts → CombiningKeepsFrequent → RunsOverPartsAgree
runs_over_parts_agree prefixes_are_good good_is_faultless lines_say_theirs keeps_sets keeps_counts keeps_frequent fronts last asked baskets sets texts share question good read rise have counts few =
    let cut = cuts_are_parts prefixes_are_good good_is_faultless lines_say_theirs fronts last baskets good in
    let parts = cut.0 in
    let whole = cut.2 in
    let light = (from_ok prefixes_are_good good_is_faultless lines_say_theirs (text_cut fronts last) baskets good).light in
    let same = texts_are_counts question.layout asked sets read (parts_cut fronts last) parts texts cut.1 counts in
    ap (λ text. outcome text (of_counts_at question share)) same
    ∙ parts_answer_as_the_whole keeps_sets keeps_counts keeps_frequent parts share sets question (some_parts fronts last parts cut.1)
    (subst (λ b. total_of b ≤ MOST_WEIGHT) (sym whole) light) rise (have parts cut.1).0 (have parts cut.1).1 (subst (λ text. length text ≤ MOST_BYTES) same few)
    ∙ ap (λ b. outcome_for (contents.Baskets b None) (of_counts_at question share)) whole
    ∙ sym (ap (λ r. outcome_of (by_numbers contents.Baskets r) (of_baskets_at question share)) good)
