use Rattle.std.proofs.Common.{Bool, [], length, map, sym, subst, ap, ◌∙◌, arith}
use Rattle.std.proofs.lemmas.List.{with_items_is}
use Rattle.basket_names.specs.Names.{in_order}
use Rattle.basket_csv.specs.Counts.{AreBelow, renamed_line}
use Rattle.basket_csv.specs.Csv.{all_names}
use Rattle.basket_csv.proofs.CountLemmas.{lines_again, lines_below}
use Rattle.basket_csv.proofs.GatheringLemmas.{read_among}
use Rattle.basket_csv.proofs.counts.CountsGathering.renamed.Goals as goal

pub rename_lines-requires : goal.rename_lines-requires
rename_lines-requires c =
    let (reading, all, rows, h) = c.requires in
    let names = all_names Bool.true rows in
    subst (AreBelow (length c.args.numbers.now)) (sym (c.deref_mut.ensures.value ∙ h.gathered_alone.lines)) (lines_below (in_order names) all c.args.numbers.now h.numbered rows (read_among [] names))

pub returns : goal.returns
returns c = λ reading all rows h.
    let names = all_names Bool.true rows in
    let same = with_items_is c.args.self.lines c.rename_lines.new.lines (omega (arith, c.rename_lines.auto.lines, c.deref_mut.ensures.len)) in
    record {
      header = h.gathered_alone.header;
      lines = same ∙ c.rename_lines.ensures ∙ ap (map (renamed_line c.args.numbers.now)) (c.deref_mut.ensures.value ∙ h.gathered_alone.lines)
          ∙ lines_again (in_order names) all c.args.numbers.now h.numbered rows (read_among [] names);
    }
