-- Runs over the parts of an input, and over the whole.
use Rattle.std.specs.Prelude.{◌≡◌, ◌≤◌, ℕ, IsTrue, List, Ok, length, All, map}
use Rattle.std.specs.List.{Contains, flat_map}
use Rattle.basket.specs.Count.{count_outcome}
use Rattle.basket_outcome.specs.Outcome.{outcome}
use Rattle.basket_counts.specs.Counts.{sets_of_bytes}
use Rattle.basket_counts.specs.Laws.{IsWritten}
use Rattle.basket_plan.specs.declared.layout.Form.TheVariants.{Fimi}
use Rattle.basket_plan.specs.Plan.{Question}
use Rattle.basket_read.specs.Fimi.{MOST_BYTES, fimi_of}
use Rattle.basket_sets.specs.declared.minimum.Minimum.TheVariants.{Share}
use Rattle.basket_sets.specs.declared.weighted.Weighted.{Weighted}
use Rattle.basket_sets.specs.Frequent.{IsNonemptySet}
use Rattle.basket_sets.specs.Itemset.{IsRising}
use Rattle.basket_laws.specs.Cuts.{parts_cut, text_cut}
use Rattle.basket_laws.specs.Outcomes.{in_form, of_counts_at}
use Rattle.basket_laws.specs.Parts.{counts_of_parts, is_frequent_in_some}

-- the question, asked of FIMI text at a share
abbrev pub of_baskets_at : Question → ℕ × ℕ → Question
of_baskets_at question share = record question { layout = in_form Fimi question.layout; minimum = Share share }

-- a good FIMI input is cut after line feeds, and the sets of some bytes, which have each set that is frequent in some part, are counted over each part: the counts concatenated answer each question as the whole input does
abbrev pub RunsOverPartsAgree : Type 0
RunsOverPartsAgree = (fronts : List (List ℕ)) (last asked : List ℕ) (baskets : List Weighted) (sets texts : List (List ℕ)) (share : ℕ × ℕ) (question : Question)
    → fimi_of (text_cut fronts last) ≡ Ok baskets → sets_of_bytes asked ≡ Ok sets → All IsRising sets
    → ((parts : List (List Weighted)) → map fimi_of (parts_cut fronts last) ≡ map (λ part. Ok part) parts
    → ((set : List ℕ) → IsNonemptySet set → IsTrue (is_frequent_in_some parts (Share share) set) → Contains sets set) × All IsWritten (counts_of_parts parts sets))
    → map (count_outcome (in_form Fimi question.layout) asked) (parts_cut fronts last) ≡ map (λ text. Ok text) texts → length (flat_map (λ text. text) texts) ≤ MOST_BYTES
    → outcome (flat_map (λ text. text) texts) (of_counts_at question share) ≡ outcome (text_cut fronts last) (of_baskets_at question share)
