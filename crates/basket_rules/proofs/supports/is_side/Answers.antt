use Rattle.std.proofs.Common.{◌≤◌, ◌++◌, w64, length, take, sym, ap, ◌∙◌, arith}
use Rattle.std.specs.Int.{trailing_zeros}
use Rattle.std.proofs.lemmas.Bool.{leb-true}
use Rattle.std.proofs.lemmas.List.{append-nil, take_all}
use Rattle.basket_rules.proofs.SideLemmas.{none_of_word}
use Rattle.basket_rules.proofs.supports.is_side.Goals as goal

pub returns : goal.returns
returns c = λ h.
    let set = c.args.set.now in
    let union = c.args.union.now in
    let word = c.loop-item.rest in
    let past : length union ≤ trailing_zeros w64 word = leb-true (length union) (trailing_zeros w64 word) h in
    sym (c.loop-item.invariant ∙ ap (λ l. take c.loop-item.item-index set ++ l) (none_of_word word union (omega arith) past)
    ∙ append-nil (take c.loop-item.item-index set) ∙ take_all c.loop-item.item-index set (omega arith))
