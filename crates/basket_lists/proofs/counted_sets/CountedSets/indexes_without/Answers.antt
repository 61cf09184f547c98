use Rattle.std.proofs.Common.{◌<◌, length, map, sym, ap, subst, arith}
use Rattle.std.proofs.lemmas.Grind.{common_steps}
use Rattle.std.specs.Prelude.{All}
use Rattle.std.proofs.lemmas.List.{length-map}
use Rattle.basket_lists.specs.declared.known.TheConstants.{MOST_ITEMS}
use Rattle.basket_lists.specs.Packed.{IsKept, kept, unpacked}
use Rattle.basket_lists.specs.Without.{AreIndexesWithout}
use Rattle.basket_lists.proofs.ListLemmas.{set_here}
use Rattle.basket_lists.proofs.counted_sets.CountedSets.indexes_without.Goals as goal

pub returns-in-None : goal.returns-in-None
returns-in-None c =
    let known = c.self.inside.known in
    let plain = c.self.inside.plain in
    let words = c.self.inside.words.items in
    let word = c.index.result.now in
    let inside : c.args.number < length words = omega (arith, c.requires, ap length c.self.view_is, length-map words (kept known plain)) in
    let here = c.in-None.ensures.here in
    let found = c.indexes_without.new.found in
    let all = subst (All (IsKept known plain)) (sym c.deref.ensures.value) c.self.invariant.1 in
    let in_words = subst (λ w. AreIndexesWithout (map (kept known plain) w) (unpacked known word).set MOST_ITEMS found) c.deref.ensures.value (c.indexes_without.ensures plain all) in
    grind (arith, common_steps, set_here)
