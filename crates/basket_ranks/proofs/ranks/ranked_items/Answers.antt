use Rattle.std.proofs.Common.{ℕ, Bool, map, filter, sym, ap, refl, subst, ◌∙◌, arith}
use Rattle.std.proofs.lemmas.Grind.{common_steps}
use Rattle.std.proofs.lemmas.Result.{IfOk-weaker}
use Rattle.std.proofs.lemmas.List.Sorted.{IsPermutation-map}
use Rattle.basket_sets.specs.Itemset.{IsRising}
use Rattle.basket_sets.specs.Minimum.{meets}
use Rattle.basket_ranks.specs.Codes.{rank_order, ranked}
use Rattle.basket_ranks.specs.Ranks.{entry_of, entries_of}
use Rattle.basket_sets.proofs.theory.Sorting.{sorted_images}
use Rattle.basket_ranks.proofs.RankLemmas.{filter_rises, sorted_ranks, ranks_distinct, items_of_entries}
use Rattle.basket_ranks.proofs.ranks.ranked_items.Goals as goal

pub returns-clause-ranks : goal.returns-clause-ranks
returns-clause-ranks c =
    let passes : ℕ × ℕ → Bool = λ entry. meets c.args.minimum.now entry.1 c.args.total in
    let frequent = filter passes c.args.counts.now in
    let sorted = c.sort_unstable.new.self.items in
    let same = c.in_ok-entries.ensures in
    let moved = IsPermutation-map entry_of _ _ c.sort_unstable.ensures.permutation in
    let up = subst (λ l. IsRising (map (λ e. e.0) l)) (sym same) (filter_rises passes c.args.counts.now c.requires) in
    let ranks = sorted_ranks (entries_of c.in_ok-entries.entries.items) (entries_of sorted) up moved (sorted_images _ rank_order entry_of (λ a b. refl) sorted c.sort_unstable.ensures.sorted) in
    IfOk-weaker c.items_in_order.result _ _
    (λ items is. is ∙ ap (map (λ e. e.item)) c.deref.ensures.value ∙ items_of_entries sorted ∙ ap (map (λ e. e.0)) (ranks ∙ ap ranked same)) c.items_in_order.ensures

pub returns-clause-distinct : goal.returns-clause-distinct
returns-clause-distinct c =
    let passes : ℕ × ℕ → Bool = λ entry. meets c.args.minimum.now entry.1 c.args.total in
    let sorted = c.sort_unstable.new.self.items in
    let moved = IsPermutation-map entry_of _ _ c.sort_unstable.ensures.permutation in
    let up = subst (λ l. IsRising (map (λ e. e.0) l)) (sym c.in_ok-entries.ensures) (filter_rises passes c.args.counts.now c.requires) in
    let apart = ranks_distinct (entries_of c.in_ok-entries.entries.items) (entries_of sorted) up moved in
    grind (arith, common_steps, IfOk-weaker, items_of_entries)
