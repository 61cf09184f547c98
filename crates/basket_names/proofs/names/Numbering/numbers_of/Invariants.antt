use Rattle.std.proofs.Common.{◌≡◌, ◌++◌, fold, map}
use Rattle.std.specs.String.{string_bytes}
use Rattle.std.specs.Vec.Iter.{into_iter_items}
use Rattle.basket_names.specs.Names.{number_in, with_name}
use Rattle.basket_names.proofs.names.Numbering.numbers_of.Given as goal

abbrev pub invariant-loop-name : goal.invariant-loop-name
invariant-loop-name l =
    let rest = map string_bytes (into_iter_items l.name-iterator) in
    record {
      can : (goal.iterator-loop-name).can_next l.name-iterator;
      ends : (goal.iterator-loop-name).is_finite l.name-iterator;
      names : fold with_name l.self rest ≡ fold with_name l.fn.self l.fn.names;
      numbers : l.numbers.items ++ map (number_in (fold with_name l.self rest)) rest ≡ map (number_in (fold with_name l.fn.self l.fn.names)) l.fn.names;
    }
