use Rattle.std.proofs.Common.{◌≡◌, ◌+◌, Ok, map, sym, ap, ◌∙◌, arith}
use Rattle.std.proofs.lemmas.List.{with_items_is}
use Rattle.basket_csv.specs.Counts.{line_of, lines_from, numbered_from}
use Rattle.basket_csv.specs.Csv.{first_number}
use Rattle.basket_csv.proofs.CountLemmas.{numbered_lines}
use Rattle.basket_csv.proofs.SharedLemmas.{header_before}
use Rattle.basket_csv.proofs.counts.CountsGathering.finish.Goals as goal

pub returns-clause-said : goal.returns-clause-said
returns-clause-said c = λ reading known names rows are h.
    let first = first_number reading.dialect.header in
    let own = header_before c.args.self.header c.from.result c.from.ensures in
    let one : 1 + c.from.result ≡ first_number c.args.self.header = omega (arith, own) in
    let number : 1 + c.from.result ≡ first = one ∙ ap first_number h.header in
    let lines_are : c.deref_mut.result.now ≡ map (line_of names 0) rows = c.deref_mut.ensures.value ∙ h.lines in
    let same = with_items_is c.args.self.lines c.number_lines.new.lines (omega (arith, c.number_lines.auto.lines, c.deref_mut.ensures.len)) in
    let lines = same ∙ c.in_ok-number_lines.ensures.lines ∙ (λ i. numbered_from (number i) (lines_are i)) ∙ numbered_lines names first rows in
    ap (λ ns. Ok (lines_from ns first rows, ns)) (sym are) ∙ ap (λ ls. Ok (ls, names)) (sym lines)
