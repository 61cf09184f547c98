-- The outcomes of questions to counts of parts.
use Rattle.std.specs.Prelude.{◌≡◌, ◌≢◌, ◌≤◌, ℕ, IsTrue, List, [], None, length, All}
use Rattle.std.specs.List.{Contains}
use Rattle.basket_outcome.specs.declared.contents.Contents.TheVariants as contents
use Rattle.basket_outcome.specs.Outcome.{outcome, outcome_for}
use Rattle.basket_counts.specs.Laws.{IsWritten}
use Rattle.basket_plan.specs.declared.layout.Form.{Form}
use Rattle.basket_plan.specs.declared.layout.Form.TheVariants.{Counts}
use Rattle.basket_plan.specs.declared.layout.Layout.{Layout}
use Rattle.basket_plan.specs.Plan.{Question}
use Rattle.basket_read.specs.Fimi.{MOST_BYTES}
use Rattle.basket_sets.specs.declared.minimum.Minimum.TheVariants.{Share}
use Rattle.basket_sets.specs.declared.weighted.Weighted.{Weighted}
use Rattle.basket_sets.specs.Database.{MOST_WEIGHT}
use Rattle.basket_sets.specs.Frequent.{IsNonemptySet}
use Rattle.basket_sets.specs.Itemset.{IsRising}
use Rattle.basket_sets.specs.Support.{total_of}
use Rattle.basket_laws.specs.Parts.{counts_of_parts, is_frequent_in_some, whole_of}
use Rattle.basket_laws.specs.Texts.{texts_of_parts}

-- the layout with another form
abbrev pub in_form : Form → Layout → Layout
in_form form layout = record layout { form = form }

-- the question, asked of counts at a share
abbrev pub of_counts_at : Question → ℕ × ℕ → Question
of_counts_at question share = record question { layout = in_form Counts question.layout; minimum = Share share }

-- the outcome of each question over the texts of the counts of parts is that over all parts concatenated
abbrev pub PartsAnswerAsTheWhole : Type 0
PartsAnswerAsTheWhole = (parts : List (List Weighted)) (share : ℕ × ℕ) (sets : List (List ℕ)) (question : Question)
    → parts ≢ [] → total_of (whole_of parts) ≤ MOST_WEIGHT → All IsRising sets
    → ((set : List ℕ) → IsNonemptySet set → IsTrue (is_frequent_in_some parts (Share share) set) → Contains sets set)
    → All IsWritten (counts_of_parts parts sets) → length (texts_of_parts parts sets) ≤ MOST_BYTES
    → outcome (texts_of_parts parts sets) (of_counts_at question share) ≡ outcome_for (contents.Baskets (whole_of parts) None) (of_counts_at question share)
