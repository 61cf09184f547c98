-- Questions to counts of parts by names.
use Rattle.std.proofs.Common.{◌≢◌, ◌≤◌, ◌∙◌, ℕ, [], ◌∷◌, List, Some, ap, map, refl, subst, sym}
use Rattle.basket_outcome.specs.declared.contents.Contents.TheVariants as contents
use Rattle.basket_outcome.specs.Outcome.{outcome_for}
use Rattle.basket_csv.specs.Csv.{baskets_in}
use Rattle.basket_parts.specs.Laws.{CombiningKeepsCounts, CombiningKeepsFrequent, CombiningKeepsSets}
use Rattle.basket_sets.specs.declared.weighted.Weighted.{Weighted}
use Rattle.basket_sets.specs.Database.{MOST_WEIGHT}
use Rattle.basket_sets.specs.Support.{total_of}
use Rattle.basket_laws.specs.Names.{NamedPartsAnswerAsTheWhole, named_parts, names_of_parts, of_named_counts_at}
use Rattle.basket_laws.proofs.NameLemmas.{named_parts_are_parts}
use Rattle.basket_laws.proofs.OutcomeLemmas.{answers_by_names}

some_named : (parts : List (List (List (List ℕ)))) (say : List (List (List ℕ)) → List Weighted) → parts ≢ [] → map say parts ≢ []
some_named [] say some = absurd (some refl)
some_named (rows ∷ parts) say some = λ e. cc

pub named_parts_answer_as_the_whole : CombiningKeepsSets → CombiningKeepsCounts → CombiningKeepsFrequent → NamedPartsAnswerAsTheWhole
named_parts_answer_as_the_whole keeps_sets keeps_counts keeps_frequent weighted parts share sets lines bytes question some light rise have said read =
    let names = names_of_parts weighted parts in
    let whole = named_parts_are_parts weighted parts in
    answers_by_names keeps_sets keeps_counts keeps_frequent (named_parts weighted names parts) share sets lines rise have said (some_named parts (baskets_in weighted names) some)
    (subst (λ b. total_of b ≤ MOST_WEIGHT) (sym whole) light) question names bytes read
    ∙ ap (λ b. outcome_for (contents.Baskets b (Some names)) (of_named_counts_at question share)) whole
