use Rattle.std.proofs.Common.{rules, ◌≡◌, ◌+◌, ◌-◌, ◌++◌, length, take, drop, get_or, sym, ap, ◌∙◌, suc, arith}
use Rattle.std.proofs.lemmas.List.{take-append-drop, take_rest}
use Rattle.basket_sets.specs.Itemset.{with_item}
use Rattle.basket_lists.proofs.WithoutLemmas.{put_back}
use Rattle.basket_lists.proofs.counted_sets.without.plain.is_without.Goals as goal

pub returns-then-eq : goal.returns-then-eq
returns-then-eq c told =
    let set = c.args.set.now in
    let items = c.args.items.now in
    let index = c.args.index in
    let size : length items ≡ suc (length set) = omega (arith, c.if-items-set.false) in
    let front : take index items ≡ take index set = search rules in
    let back : take (length items - (index + 1)) (drop (index + 1) items) ≡ take (length set - index) (drop index set) = search (rules, told) in
    let next : suc index ≡ index + 1 = omega arith in
    let left : take index items ++ drop (suc index) items ≡ set =
    ap (λ n. take index items ++ drop n items) next ∙ ap (λ l. l ++ drop (index + 1) items) front ∙ ap (λ l. take index set ++ l) (sym (take_rest items (index + 1)) ∙ back ∙ take_rest set index) ∙ take-append-drop index set in
    record { rises = c.requires.rises; is = sym (put_back items index c.requires.rises c.requires.index) ∙ ap (with_item (get_or items index 0)) left; size = size }
