use Rattle.std.proofs.Common.{◌≡◌, ◌∙◌, [], ap, fold, refl, get_or, length, map, subst, sym, arith}
use Rattle.std.specs.Vec.Iter.{into_iter_items}
use Rattle.std.proofs.lemmas.List.{length-map, nil_from_length, with_items_is}
use Rattle.basket_sets.specs.Itemset.{AllBelow}
use Rattle.basket_csv.specs.Rows.{InParts}
use Rattle.basket_csv.specs.Together.{IsNumbered}
use Rattle.basket_names.specs.Names.{number_in, with_name}
use Rattle.basket_csv.proofs.TogetherLemmas.{AddsTogether, adds_all, adds_none, adds_part, names_both, numbers_within}
use Rattle.basket_csv.proofs.together.followed_by.Goals as goal

pub loop-part-init : goal.loop-part-init
loop-part-init g c =
    let has = g.G.Gathering.has in
    let names_of = g.G.Gathering.names_of in
    let is = c.into_iter-part-iterator.ensures.into_iter_gives.0 in
    let names = c.in_ok-among.ensures.names ∙ ap (fold with_name c.args.first.0) c.in_ok-into_names.ensures in
    let are = c.in_ok-among.ensures.numbers ∙ ap (map (number_in c.numbers_of.new.self)) c.in_ok-into_names.ensures in
    record {
      can = tt;
      ends = tt;
      left = let (reading, rows, have) = c.requires in (reading, rows, subst (λ l. InParts (IsNumbered has names_of reading c.args.later.0) l rows) (sym is) have.each);
      all = λ reading known rows more have after. (
        names,
        are,
        adds_none has names_of reading c.args.first.0 c.args.later.0 c.numbers_of.new.self c.in_ok-among.among.items names are rows more _ c.args.first.1.items have.each
            (subst (λ l. InParts (IsNumbered has names_of reading c.args.later.0) l more) (sym is) after.each),
      );
    }

pub rename-requires : goal.rename-requires
rename-requires g c =
    let has = g.G.Gathering.has in
    let names_of = g.G.Gathering.names_of in
    let (reading, rows, parts) = c.loop-part.invariant.left in
    let (own, next, cut, mine, rest) = subst (λ l. InParts (IsNumbered has names_of reading c.args.later.0) l rows) c.in-Some.ensures.steps.0 parts in
    let are = c.in_ok-among.ensures.numbers ∙ ap (map (number_in c.numbers_of.new.self)) c.in_ok-into_names.ensures in
    subst (AllBelow (length c.deref.result.now)) (sym c.deref_mut.ensures.value)
    (numbers_within has names_of reading c.args.later.0 c.in-Some.part own c.deref.result.now (ap length (c.deref.ensures.value ∙ are) ∙ length-map c.args.later.0 (number_in c.numbers_of.new.self)) mine)

pub loop-part-preserved : goal.loop-part-preserved
loop-part-preserved g c =
    let has = g.G.Gathering.has in
    let names_of = g.G.Gathering.names_of in
    let part = c.in-Some.part in
    let same = with_items_is part.numbers c.rename.new.numbers (omega (arith, c.rename.auto.numbers, c.deref_mut.ensures.len)) in
    let numbers = same ∙ c.rename.ensures ∙ ap (map (λ number. get_or c.deref.result.now number 0)) c.deref_mut.ensures.value ∙ ap (λ n. map (λ number. get_or n number 0) part.numbers.items) c.deref.ensures.value in
    record {
      can = tt;
      ends = tt;
      left =
          let (reading, rows, parts) = c.loop-part.invariant.left in
          let (own, next, cut, mine, rest) = subst (λ l. InParts (IsNumbered has names_of reading c.args.later.0) l rows) c.in-Some.ensures.steps.0 parts in
          (reading, next, rest);
      all = λ reading known rows more have after.
          let (is, are, adds) = c.loop-part.invariant.all reading known rows more have after in (
            is,
            are,
            adds_part has names_of reading c.args.first.0 c.args.later.0 c.numbers_of.new.self c.in_ok-among.among.items is are rows more
                (into_iter_items c.loop-part.part-iterator) (into_iter_items c.next.new.self) c.loop-part.parts.items c.push.new.self.items part _
                c.in-Some.ensures.steps.0 refl numbers c.in_ok-push.ensures.items adds,
          );
    }

pub returns : goal.returns
returns g c = λ reading known rows more have after.
    let has = g.G.Gathering.has in
    let names_of = g.G.Gathering.names_of in
    let (is, are, adds) = c.loop-part.invariant.all reading known rows more have after in
    let none : into_iter_items c.loop-part.part-iterator ≡ [] = nil_from_length (into_iter_items c.loop-part.part-iterator) (omega (arith, c.in-None.ensures.steps.0, c.loop-part.part-iterator.rest.ok.0)) in
    record {
      together = is ∙ ap (λ n. fold with_name n c.args.later.0) have.together ∙ ap (fold with_name _) after.together ∙ names_both has names_of reading known rows more;
      each = adds_all has names_of reading c.args.first.0 c.args.later.0 c.numbers_of.new.self c.in_ok-among.among.items is are rows more c.loop-part.parts.items
          (subst (λ l. AddsTogether has names_of reading c.args.first.0 c.args.later.0 c.numbers_of.new.self c.in_ok-among.among.items is are rows more l c.loop-part.parts.items) none adds);
    }
