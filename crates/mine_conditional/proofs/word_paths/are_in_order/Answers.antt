use Rattle.std.proofs.Common.{rules, ◌≡◌, Bool, ltb, subst, sym}
use Rattle.std.specs.List.{IsAllAdjacentAnswer}
use Rattle.std.proofs.lemmas.Bool.{ltb-true}
use Rattle.std.proofs.lemmas.List.Sorted.{answers_always}
use Rattle.mine_baskets.specs.declared.words.Word.{Word}
use Rattle.mine_conditional.proofs.word_paths.are_in_order.Goals as goal

abbrev is_less : Word → Word → Bool
is_less word next = ltb word.bits next.bits

pub returns : goal.returns
returns c = λ h k d low.
    let all = subst (IsAllAdjacentAnswer (λ x y b. b ≡ is_less x y) c.args.words.now) h (c.is_sorted_by.ensures.cases is_less (answers_always _ _ _ (λ f a r g h. search rules))) in
    ltb-true _ _ (sym (all k d low))
