use Rattle.std.proofs.Common.{rules, ℕ, ◌≤◌, subst, sym, ap, ◌∙◌, arith}
use Rattle.std.proofs.lemmas.Grind.{common_steps}
use Rattle.std.specs.Prelude.{All}
use Rattle.std.specs.List.{sum_by}
use Rattle.std.proofs.lemmas.List.Sorted.{All-permutation, IsNonDecreasingBy-from_sort_by_key, sum_by-IsPermutation}
use Rattle.std.specs.List.Sorted.{IsNonDecreasingBy}
use Rattle.mine_baskets.specs.declared.words.Word.{Word}
use Rattle.mine_baskets.proofs.WordLemmas.{words_ranked}
use Rattle.mine_baskets.proofs.word_baskets.WordBaskets.of.Goals as goal

abbrev weight : Word → ℕ
weight word = word.weight

pub merged-requires-clause-some : goal.merged-requires-clause-some
merged-requires-clause-some c =
    subst (All (λ (word : Word). 1 ≤ word.weight)) (sym c.deref.ensures.value)
    (All-permutation (λ (word : Word). 1 ≤ word.weight) c.args.words.items c.sort_unstable_by_key.new.self.items c.sort_unstable_by_key.ensures.permutation c.requires.some)

pub merged-requires-clause-light : goal.merged-requires-clause-light
merged-requires-clause-light c = grind (arith, common_steps, sum_by-IsPermutation)

pub merged-requires-clause-sorted : goal.merged-requires-clause-sorted
merged-requires-clause-sorted c =
    subst (IsNonDecreasingBy (λ (word : Word). word.bits)) (sym c.deref.ensures.value)
    (IsNonDecreasingBy-from_sort_by_key (λ (word : Word). word.bits) c.sort_unstable_by_key.new.self.items c.sort_unstable_by_key.ensures.sorted (λ a r q k. search rules))

pub returns-clause-ranked : goal.returns-clause-ranked
returns-clause-ranked c =
    let same = c.in_ok-distinct.ensures.light ∙ ap (sum_by weight) c.deref.ensures.value
    ∙ sum_by-IsPermutation weight c.args.words.items c.sort_unstable_by_key.new.self.items c.sort_unstable_by_key.ensures.permutation in
    words_ranked c.args.count c.in_ok-distinct.distinct.items c.in_ok-distinct.ensures.some (omega (arith, same, c.requires.light))
