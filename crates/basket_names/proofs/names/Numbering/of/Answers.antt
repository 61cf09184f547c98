use Rattle.std.proofs.Common.{fold, map, sym, ap, ◌∙◌}
use Rattle.std.specs.String.{string_bytes}
use Rattle.std.specs.Vec.Iter.{into_iter_items}
use Rattle.basket_names.specs.Names.{with_name}
use Rattle.basket_names.proofs.theory.Names.{inserted}
use Rattle.basket_names.proofs.names.Numbering.of.Goals as goal

pub invariant_of-result : goal.invariant_of-result
invariant_of-result c = c.new.ensures (map string_bytes c.loop-name.names.keys)

pub loop-name-preserved : goal.loop-name-preserved
loop-name-preserved c =
    let keys = c.loop-name.names.keys in
    let rest = map string_bytes (into_iter_items c.next.new.self) in
    let step = c.in-Some.ensures.steps.0 in
    record {
      can = tt;
      ends = tt;
      whole = ap (λ names. fold with_name names rest) (ap (map string_bytes) c.in_ok-insert_full.ensures.keys ∙ inserted keys c.in-Some.name)
          ∙ ap (λ items. fold with_name (map string_bytes keys) (map string_bytes items)) (sym step) ∙ c.loop-name.invariant.whole;
    }
