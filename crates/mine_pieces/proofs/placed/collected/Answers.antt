use Rattle.std.proofs.Common.{◌≡◌, ap, sym, ◌∙◌, subst, length, None, replicate, arith}
use Rattle.std.specs.List.{flat_map}
use Rattle.std.specs.Vec.Iter.{into_iter_items}
use Rattle.std.proofs.lemmas.List.{length-replicate, nil_from_length}
use Rattle.mine_round.specs.Totals.{HoldsNumbersBelow}
use Rattle.mine_pieces.specs.Placed.{placed}
use Rattle.mine_pieces.specs.WorkerResult.{numbers_of}
use Rattle.mine_pieces.proofs.theory.Placing.{AreAll, all_at_first, all_after, placed-append, none_vacant}
use Rattle.mine_pieces.proofs.placed.collected.Goals as goal

pub loop-list-init : goal.loop-list-init
loop-list-init g c =
    let all = c.into_iter-list-iterator.ensures.into_iter_gives.0 in
    let places = c.in_ok-collector.collector in
    let vacant = c.in_ok-collector.ensures in
    let count : length places ≡ c.args.count = ap length vacant ∙ length-replicate c.args.count None in
    record {
      can = tt;
      ends = tt;
      all = subst (λ l. AreAll places (flat_map (λ list. numbers_of list.items) l)) (sym all)
          (all_at_first places (flat_map (λ list. numbers_of list.items) c.args.lists.items) (vacant ∙ ap (λ n. replicate n None) (sym count))
          (subst (λ n. HoldsNumbersBelow n (flat_map (λ list. numbers_of list.items) c.args.lists.items)) (sym count) c.requires));
      rest = ap (λ l. placed places (flat_map (λ list. list.items) l)) all ∙ ap (λ p. placed p (flat_map (λ list. list.items) c.args.lists.items)) vacant;
    }

pub loop-list-preserved : goal.loop-list-preserved
loop-list-preserved g c =
    let places = c.loop-list.collector in
    let list = c.in-Some.list in
    let left = into_iter_items c.next.new.self in
    let steps = c.in-Some.ensures.steps.0 in
    let put = c.put_all.ensures in
    record {
      can = tt;
      ends = tt;
      all = subst (λ p. AreAll p (flat_map (λ list. numbers_of list.items) left)) (sym put)
          (all_after places list.items (flat_map (λ list. numbers_of list.items) left)
          (subst (λ l. AreAll places (flat_map (λ list. numbers_of list.items) l)) steps c.loop-list.invariant.all));
      rest = ap (λ p. placed p (flat_map (λ list. list.items) left)) put ∙ sym (placed-append places list.items (flat_map (λ list. list.items) left))
          ∙ ap (λ l. placed places (flat_map (λ list. list.items) l)) (sym steps) ∙ c.loop-list.invariant.rest;
    }

pub unreachable-requires : goal.unreachable-requires
unreachable-requires g c =
    let none = nil_from_length (into_iter_items c.loop-list.list-iterator) (omega (arith, c.in-None.ensures.steps.0, c.loop-list.list-iterator.rest.ok)) in
    none_vacant c.loop-list.collector c.in_default.field-0.piece (subst (λ l. AreAll c.loop-list.collector (flat_map (λ list. numbers_of list.items) l)) none c.loop-list.invariant.all) c.in_default.ensures.missing
