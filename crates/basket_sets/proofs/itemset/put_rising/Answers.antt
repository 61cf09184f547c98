use Rattle.std.proofs.Common.{◌≡◌, length, ◌∙◌, subst, ap, eqb, arith}
use Rattle.std.proofs.lemmas.Grind.{common_steps}
use Rattle.std.specs.List.{dedup, refill}
use Rattle.std.specs.List.Sorted.{IsPermutation}
use Rattle.std.proofs.lemmas.List.{take_at}
use Rattle.basket_sets.proofs.theory.Rising.{rising-rising, rising-dedup}
use Rattle.basket_sets.proofs.itemset.put_rising.Goals as goal

pub returns-then-is_rising : goal.returns-then-is_rising
returns-then-is_rising c = grind (arith, common_steps, rising-rising)

pub returns : goal.returns
returns c =
    let numbers = c.args.items.now.items in
    let placed = c.put_in_order.new.numbers in
    let sorted = c.sort_unstable.new.self in
    let back : refill (length numbers) numbers placed ≡ placed = take_at placed _ _ (c.put_in_order.auto.numbers ∙ ap length c.as_mut_slice.ensures.value) in
    let same = c.as_mut_slice-2.ensures.value ∙ back ∙ c.put_in_order.ensures.same c.if-put_in_order.false ∙ c.as_mut_slice.ensures.value in
    let moved = subst (λ l. IsPermutation l sorted) same c.sort_unstable.ensures.permutation in
    c.dedup.ensures.items
    ∙ ap (dedup eqb) (take_at sorted _ _ (c.sort_unstable.ensures.len ∙ ap length c.as_mut_slice-2.ensures.value))
    ∙ rising-dedup numbers sorted moved c.sort_unstable.ensures.sorted
