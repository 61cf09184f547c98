use Rattle.std.proofs.Common.{◌≡◌, ◌+◌, ◌++◌, ◌∷◌, [], map, take, sym, ap, ◌∙◌, arith}
use Rattle.std.proofs.lemmas.Grind.{common_steps}
use Rattle.std.specs.List.{sum_by}
use Rattle.std.proofs.lemmas.List.{map-append}
use Rattle.std.proofs.lemmas.List.Sums.{sum_by-append, sum_by-cons}
use Rattle.basket_sets.specs.Database.{weighted}
use Rattle.basket_sets.specs.Support.{total_of, weight_at}
use Rattle.mine_baskets.specs.declared.words.Word.{Word}
use Rattle.mine_baskets.specs.Baskets.{baskets_in}
use Rattle.mine_conditional.specs.BitTable.{table_word}
use Rattle.mine_conditional.proofs.bit_table.words_of.Goals as goal

pub loop-index-preserved : goal.loop-index-preserved
loop-index-preserved c =
    let of = c.args.of.now in
    let i = c.loop-index.index in
    let all = baskets_in c.args.baskets in
    let basket = weighted c.at-weight.result.0.now c.at-weight.result.1 in
    let word : Word = record { bits = c.bits_of-bits.result; weight = basket.weight } in
    let is : table_word of basket ≡ word = ap (λ bits. record { bits = bits; weight = basket.weight }) (sym c.bits_of-bits.ensures) in
    let next : take i all ++ basket ∷ [] ≡ take (i + 1) all = grind (arith, common_steps) in
    let grown = sym (ap total_of next) ∙ sum_by-append (weight_at []) (take i all) (basket ∷ []) in
    let one = sum_by-cons (weight_at []) basket [] in
    let longer : map (table_word of) (take i all) ++ table_word of basket ∷ [] ≡ map (table_word of) (take (i + 1) all) =
    sym (map-append (table_word of) (take i all) (basket ∷ [])) ∙ ap (map (table_word of)) next in
    let old = c.loop-index.words.items in
    let new = c.add.new.words.items in
    let kept = c.in_ok-reserve.ensures.items in
    let same = ap (sum_by (λ (word : Word). word.weight)) kept in
    record {
      some = c.in_ok-add.ensures.some;
      light = omega (arith, c.in_ok-add.ensures.light, same, c.loop-index.invariant.light, grown, one);
      weights = λ count. grind (arith, common_steps);
    }
