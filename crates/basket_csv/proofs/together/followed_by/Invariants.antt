use Rattle.std.proofs.Common.{◌≡◌, ℕ, List, [], fold, map}
use Rattle.std.specs.Vec.Iter.{into_iter_items}
use Rattle.basket_csv.specs.declared.reading.Reading.{Reading}
use Rattle.basket_csv.specs.Rows.{InParts, Rows}
use Rattle.basket_csv.specs.Together.{AreTogether, IsNumbered}
use Rattle.basket_names.specs.Names.{number_in, with_name}
use Rattle.basket_csv.proofs.TogetherLemmas.{AddsTogether}
use Rattle.basket_csv.proofs.together.followed_by.Given as goal

abbrev pub invariant-loop-part : goal.invariant-loop-part
invariant-loop-part g l = record {
  can : (goal.iterator-loop-part g).can_next l.part-iterator;
  ends : (goal.iterator-loop-part g).is_finite l.part-iterator;
  left : (reading : Reading) × (rows : Rows) × InParts (IsNumbered g.G.Gathering.has g.G.Gathering.names_of reading l.fn.later.0) (into_iter_items l.part-iterator) rows;
  all : (reading : Reading) (known : List (List ℕ)) (rows more : Rows) → AreTogether g.G.Gathering.has g.G.Gathering.names_of reading known l.fn.first.0 l.fn.first.1.items rows
      → AreTogether g.G.Gathering.has g.G.Gathering.names_of reading [] l.fn.later.0 l.fn.later.1.items more
      → (is : l.names ≡ fold with_name l.fn.first.0 l.fn.later.0) × (are : l.among.items ≡ map (number_in l.names) l.fn.later.0)
      × AddsTogether g.G.Gathering.has g.G.Gathering.names_of reading l.fn.first.0 l.fn.later.0 l.names l.among.items is are rows more (into_iter_items l.part-iterator) l.parts.items;
}
