use Rattle.std.proofs.Common.{[], subst, sym}
use Rattle.std.specs.List.{IsDistinct, flat_map}
use Rattle.std.specs.Prelude.{nat_eq}
use Rattle.basket_names.specs.Names.{in_order}
use Rattle.basket_read.specs.GatheredBaskets.{HasGathered}
use Rattle.basket_csv.specs.Csv.{all_names, basket_of}
use Rattle.basket_csv.proofs.BasketLemmas.{baskets_again, baskets_below}
use Rattle.basket_csv.proofs.GatheringLemmas.{read_among}
use Rattle.basket_csv.proofs.RenamingLemmas.{distinct_numbers}
use Rattle.basket_csv.proofs.baskets.BasketsGathering.renamed.Goals as goal

pub rename-requires : goal.rename-requires
rename-requires c =
    let (reading, all, rows, h) = c.requires in
    let names = all_names reading.weighted rows in
    let own = in_order names in (
      reading.counting,
      flat_map (basket_of reading.weighted own) rows,
      h.gathered_alone.gathered,
      baskets_below reading.weighted own all c.args.numbers.now h.numbered rows (read_among [] names),
    )

pub returns : goal.returns
returns c = λ reading all rows h.
    let names = all_names reading.weighted rows in
    let own = in_order names in
    let among = read_among [] names in
    record {
      weighted = h.gathered_alone.weighted;
      gathered = subst (HasGathered c.rename.new.self reading.counting) (baskets_again reading.weighted own all c.args.numbers.now h.numbered rows among)
          (c.in_ok-rename.ensures reading.counting (flat_map (basket_of reading.weighted own) rows) h.gathered_alone.gathered
          (subst (IsDistinct nat_eq) (sym h.numbered) (distinct_numbers all names h.among)) (baskets_below reading.weighted own all c.args.numbers.now h.numbered rows among));
    }
