use Rattle.std.proofs.Common.{◌≡◌, sym, ap, subst, ◌∙◌, []}
use Rattle.basket_ranks.specs.Codes.{Coding, IsCoding}
use Rattle.basket_sets.specs.Database.{merged_of}
use Rattle.basket_sets.specs.Support.{total_of}
use Rattle.basket_ranks.proofs.CodeLemmas.{merged_is_coding}
use Rattle.basket_sets.proofs.theory.Merging.{merging_keeps_supports}
use Rattle.basket_ranks.proofs.coded.Coded.merged.Goals as goal

pub new-requires-clause-coding : goal.new-requires-clause-coding
new-requires-clause-coding c =
    let inside = c.known.inside in
    let old : Coding = record { items = inside.items.items; minimum = inside.minimum; baskets = inside.baskets.value.items } in
    let same : inside.baskets.value.items ≡ c.self.inside.baskets.items = ap (λ r. r.baskets) c.known.view_is ∙ c.self.invariant in
    let made = c.in_ok-baskets.ensures ∙ sym (ap merged_of same) in
    subst (λ baskets. IsCoding (record { items = inside.items.items; minimum = inside.minimum; baskets = baskets })) (sym made) (merged_is_coding old c.known.invariant.0)

pub new-requires-clause-total : goal.new-requires-clause-total
new-requires-clause-total c =
    let inside = c.known.inside in
    let same : inside.baskets.value.items ≡ c.self.inside.baskets.items = ap (λ r. r.baskets) c.known.view_is ∙ c.self.invariant in
    let made = c.in_ok-baskets.ensures ∙ sym (ap merged_of same) in
    c.known.invariant.1 ∙ sym (ap total_of made ∙ merging_keeps_supports inside.baskets.value.items [])
