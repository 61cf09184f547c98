use Rattle.std.proofs.Common.{[], get_or, map, ap, ◌∙◌, arith}
use Rattle.std.specs.List.{flat_map}
use Rattle.std.proofs.lemmas.List.{with_items_is}
use Rattle.basket_names.specs.Names.{in_order}
use Rattle.basket_csv.specs.Pairs.{pair_names}
use Rattle.basket_csv.proofs.GatheringLemmas.{read_among}
use Rattle.basket_csv.proofs.PairLemmas.{pairs_again, pairs_below}
use Rattle.basket_csv.proofs.pairs.PairsGathering.renamed.Goals as goal

pub rename_groups-requires : goal.rename_groups-requires
rename_groups-requires c =
    let (reading, all, rows, h) = c.requires in
    let names = flat_map pair_names rows in
    pairs_below (in_order names) all c.args.numbers.now h.numbered rows (read_among [] names) (λ group. group.items) c.deref_mut.result.now (ap (map (λ group. group.items)) c.deref_mut.ensures.value ∙ h.gathered_alone.groups)

pub returns : goal.returns
returns c = λ reading all rows h.
    let names = flat_map pair_names rows in
    let same = with_items_is c.args.self.groups c.rename_groups.new.groups (omega (arith, c.rename_groups.auto.groups, c.deref_mut.ensures.len)) in
    record {
      ids = h.gathered_alone.ids;
      groups = ap (map (λ group. group.items)) same ∙ c.rename_groups.ensures
          ∙ ap (map (map (λ number. get_or c.args.numbers.now number 0))) (ap (map (λ group. group.items)) c.deref_mut.ensures.value ∙ h.gathered_alone.groups)
          ∙ pairs_again (in_order names) all c.args.numbers.now h.numbered rows (read_among [] names);
    }
