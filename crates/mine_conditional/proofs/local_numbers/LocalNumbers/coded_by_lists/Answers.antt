use Rattle.std.proofs.Common.{subst, sym, ap, ◌∙◌, arith}
use Rattle.mine_baskets.specs.ListBaskets.{RankBaskets, weight_where}
use Rattle.mine_conditional.specs.LocalNumbers.{AreNumbers}
use Rattle.mine_baskets.specs.Baskets.{baskets_in}
use Rattle.mine_conditional.proofs.NumberLemmas.{coded_rank_baskets, table_coded}
use Rattle.std.proofs.lemmas.List.{with_items_is}
use Rattle.mine_conditional.proofs.local_numbers.LocalNumbers.coded_by_lists.Goals as goal

pub of_spans-requires-clause-ranked : goal.of_spans-requires-clause-ranked
of_spans-requires-clause-ranked c =
    let kept = c.args.kept.now in
    let baskets = baskets_in c.args.baskets in
    let table = c.self.inside.of in
    let whole = c.deref.ensures.value ∙ with_items_is table c.put.new.of (omega (arith, table.ok, c.put.auto.of, c.deref_mut.ensures.len)) in
    let coded = c.in_ok-coded.ensures.placed ∙ table_coded kept c.requires.rises c.deref.result.now c.args.baskets.count baskets (subst (AreNumbers kept) (sym whole) c.put.ensures) c.args.baskets.ranked.each in
    rw (c.in_ok-count.ensures, coded) (coded_rank_baskets kept c.args.baskets.count baskets c.args.baskets.ranked)

pub returns-clause-weights : goal.returns-clause-weights
returns-clause-weights c = λ test.
    let kept = c.args.kept.now in
    let baskets = baskets_in c.args.baskets in
    let table = c.self.inside.of in
    let whole = c.deref.ensures.value ∙ with_items_is table c.put.new.of (omega (arith, table.ok, c.put.auto.of, c.deref_mut.ensures.len)) in
    let coded = c.in_ok-coded.ensures.placed ∙ table_coded kept c.requires.rises c.deref.result.now c.args.baskets.count baskets (subst (AreNumbers kept) (sym whole) c.put.ensures) c.args.baskets.ranked.each in
    ap (weight_where test) (sym (ap (λ (lists : RankBaskets). lists.baskets) c.of_spans.ensures ∙ coded))
