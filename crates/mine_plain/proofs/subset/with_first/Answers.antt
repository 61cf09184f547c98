use Rattle.std.proofs.Common.{◌≡◌, [], ◌∷◌, ◌++◌, ap, ◌∙◌}
use Rattle.std.proofs.lemmas.Result.{IfOk-weaker}
use Rattle.basket_sets.specs.Itemset.{rising}
use Rattle.basket_sets.proofs.theory.Rising.{rising-rising}
use Rattle.mine_plain.proofs.subset.with_first.Goals as goal

pub returns : goal.returns
returns c =
    let set = c.args.set.now in
    let numbers = c.deref.ensures.value ∙ c.in_ok-extend_from_slice.ensures.items ∙ ap (λ l. l ++ c.items.result.now) c.in_ok-push.ensures.items
    ∙ ap (λ l. l ++ c.args.first ∷ [] ++ c.items.result.now) c.new-items.ensures.items ∙ ap (λ l. c.args.first ∷ l) c.items.ensures.items in
    IfOk-weaker c.from_items.result (λ more. more ≡ rising c.deref.result.now) (λ more. more ≡ c.args.first ∷ set)
    (λ more e. e ∙ ap rising numbers ∙ rising-rising (c.args.first ∷ set) c.requires) c.from_items.ensures.ok
