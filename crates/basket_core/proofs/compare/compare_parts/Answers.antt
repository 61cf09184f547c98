use Rattle.std.proofs.Common.{◌≡◌, length, take, drop, min, sym, ◌∙◌, rules}
use Rattle.std.specs.Cmp.Lexicographic.{slice_cmp}
use Rattle.std.specs.Ordering.{nat_cmp, ordering_then}
use Rattle.std.proofs.lemmas.List.{take_min, drop_min}
use Rattle.basket_core.proofs.CompareLemmas.{by_parts}
use Rattle.basket_core.proofs.compare.compare_parts.Goals as goal

pub returns : goal.returns
returns c =
    let set = c.args.items.now in
    let front = c.args.front.now in
    let rest = c.args.rest.now in
    let start = c.split_at.result.0.now in
    let end = c.split_at.result.1.now in
    let step : c.then_with.result ≡ ordering_then (slice_cmp nat_cmp start front) (slice_cmp nat_cmp end rest) = search rules in
    let cut : c.min.result ≡ min (length front) (length set) = c.min.ensures in
    let before : start ≡ take (length front) set = c.split_at.ensures.front ∙ (λ i. take (cut i) set) ∙ take_min (length front) set in
    let after : end ≡ drop (length front) set = c.split_at.ensures.back ∙ (λ i. drop (cut i) set) ∙ drop_min (length front) set in
    step ∙ (λ i. ordering_then (slice_cmp nat_cmp (before i) front) (slice_cmp nat_cmp (after i) rest)) ∙ sym (by_parts set front rest)
