use Rattle.std.specs.List.{flat_map}
use Rattle.basket_csv.proofs.TogetherLemmas.{names_together}
use Rattle.basket_csv.proofs.together.put_together.Goals as goal

pub gathered_together-requires-after_bounds : goal.gathered_together-requires-after_bounds
gathered_together-requires-after_bounds g c κs within = let (rows, parts) = c.requires in (c.in_ok-names.names, rows, (c.in_ok-names.ensures rows parts).each)

pub returns : goal.returns
returns g c = λ rows parts.
    let h = c.in_ok-names.ensures rows parts in
    record {
      names = names_together c.args.known c.in_ok-names.names (flat_map (g.G.Gathering.names_of c.args.reading.weighted) rows) h.together;
      gathered = c.in_ok-gathered.ensures c.in_ok-names.names rows h.each;
    }
