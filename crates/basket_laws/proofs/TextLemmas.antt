-- What is written of parts, read again.
use Rattle.std.proofs.Common.{◌≡◌, ◌∙◌, ◌≤◌, ◌+◌, ℕ, List, [], ◌∷◌, ap, length, map, refl, subst, arith}
use Rattle.std.proofs.lemmas.Grind.{common_steps}
use Rattle.basket_counts.specs.Counts.{counts_of}
use Rattle.basket_counts.specs.Laws.{lines_from}
use Rattle.basket_counts.proofs.WrittenLemmas.{lists_are_read_back}
use Rattle.basket_read.specs.Fimi.{MOST_BYTES}
use Rattle.basket_report.specs.Report.{report_of}
use Rattle.basket_report.specs.Style.{Numbered}
use Rattle.basket_sets.specs.declared.counted.Counted.{Counted}
use Rattle.basket_sets.specs.declared.weighted.Weighted.{Weighted}
use Rattle.basket_laws.specs.Parts.{counts_of_parts, said_of}
use Rattle.basket_laws.specs.Texts.{ReportsAreReadBack, TextsMakeTheWhole, texts_of_parts}
use Rattle.basket_laws.proofs.PartLemmas.{parts_make_the_whole}

pub reports_are_read_back : ReportsAreReadBack
reports_are_read_back = lists_are_read_back

-- the texts of parts are the text of their counts
pub texts_are : (parts : List (List Weighted)) (sets : List (List ℕ)) → texts_of_parts parts sets ≡ report_of Numbered (counts_of_parts parts sets)
texts_are [] sets = refl
texts_are (part ∷ parts) sets = grind (arith, common_steps, texts_are parts sets)

-- the numbers of lines say nothing
pub said_again : (line : ℕ) (sets : List Counted) → map said_of (lines_from line sets) ≡ sets
said_again line [] = refl
said_again line (c ∷ sets) = ap (λ rest. c ∷ rest) (said_again (line + 1) sets)

pub texts_make_the_whole : TextsMakeTheWhole
texts_make_the_whole parts share sets rise listed written few =
    let list = counts_of_parts parts sets in
    let lines = lines_from 1 list in
    let same = texts_are parts sets in (
      lines,
      ap counts_of same ∙ reports_are_read_back list written (subst (λ text. length text ≤ MOST_BYTES) same few),
      ap (report_of Numbered) (parts_make_the_whole parts share sets lines rise listed (said_again 1 list)),
    )
