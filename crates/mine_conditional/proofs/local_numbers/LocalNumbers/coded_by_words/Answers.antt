use Rattle.std.proofs.Common.{length, map, subst, sym, ap, ◌∙◌, arith}
use Rattle.std.proofs.lemmas.Result.{IfOk-weaker}
use Rattle.basket_ranks.specs.Codes.{coded_basket}
use Rattle.mine_baskets.specs.Baskets.{baskets_in}
use Rattle.mine_baskets.specs.ListBaskets.{HaveSameWeights, weight_where}
use Rattle.mine_baskets.specs.Words.{word_baskets}
use Rattle.mine_conditional.specs.BitTable.{AreBits}
use Rattle.mine_conditional.proofs.BitLemmas.{table_words_coded}
use Rattle.std.proofs.lemmas.List.{with_items_is}
use Rattle.mine_conditional.proofs.local_numbers.LocalNumbers.coded_by_words.Goals as goal

pub returns-clause-weights : goal.returns-clause-weights
returns-clause-weights c =
    let kept = c.args.kept.now in
    let baskets = baskets_in c.args.baskets in
    let table = c.self.inside.bits in
    let whole = c.deref.ensures.value ∙ with_items_is table c.set_bits.new.of (omega (arith, table.ok, c.set_bits.auto.of, c.deref_mut.ensures.len)) in
    let coded = table_words_coded kept c.deref.result.now c.args.baskets.count baskets c.requires.rises c.requires.few (subst (AreBits kept) (sym whole) c.set_bits.ensures) c.args.baskets.ranked.each in
    IfOk-weaker c.of.result (λ words. HaveSameWeights (word_baskets (length kept) c.in_ok-words.field-0.items) words.baskets) (λ words. HaveSameWeights (map (coded_basket kept) baskets) words.baskets)
    (λ words same test. ap (weight_where test) (sym coded) ∙ c.in_ok-words.ensures.weights (length kept) test ∙ same test) c.of.ensures.weights
