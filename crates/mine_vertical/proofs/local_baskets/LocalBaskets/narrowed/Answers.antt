use Rattle.std.proofs.Common.{◌≡◌, true, get_or, length, map, subst, sym, ap, ◌∙◌, arith}
use Rattle.std.specs.Prelude.{All}
use Rattle.std.proofs.lemmas.List.{length-map}
use Rattle.basket_ranks.specs.Codes.{coded_basket}
use Rattle.basket_sets.specs.Itemset.{has}
use Rattle.basket_sets.proofs.theory.Rising.{Member-from_has}
use Rattle.mine_baskets.specs.Covers.{cover_of}
use Rattle.mine_baskets.specs.ListBaskets.{AreRankBaskets, weight_where}
use Rattle.mine_baskets.specs.Span.{IsWithin, baskets_at}
use Rattle.mine_vertical.specs.LocalBaskets.{baskets_in, named}
use Rattle.mine_vertical.proofs.NarrowedLemmas.{chosen_ranked, chosen_within, cover_inside, narrowed_is, no_span}
use Rattle.mine_vertical.proofs.local_baskets.LocalBaskets.narrowed.Goals as goal

pub items_at-requires : goal.items_at-requires
items_at-requires g c = λ tid h.
    let local = c.args.self.now in
    let (set, cover) = c.requires.cover in
    omega (arith, cover_inside local set tid (Member-from_has (cover_of (baskets_in local) set) tid (subst (λ l. has l tid ≡ true) cover h)), ap length c.deref.ensures.value)

pub invariant_of-chosen : goal.invariant_of-chosen
invariant_of-chosen g c =
    let (set, cover) = c.requires.cover in
    let numbers = c.args.self.now.numbers.items in
    let spans = c.deref-4.result.now in
    let are = c.deref-4.ensures.value ∙ c.in_ok-spans.ensures no_span ∙ (λ i. map (λ tid. get_or (c.deref.ensures.value i) tid no_span) (cover i)) in
    let count : c.in_ok-count.count ≡ length c.args.self.now.ranks.items = omega (arith, c.in_ok-count.ensures, c.len.ensures, c.deref-2.ensures.len, ap length c.deref-2.ensures.value) in
    record {
      within = subst (λ numbers. All (IsWithin (length numbers)) spans) (sym c.deref-3.ensures.value) (chosen_within c.args.self.now set spans are);
      ranked = subst (λ numbers. AreRankBaskets (record { ranks = c.in_ok-count.count; baskets = baskets_at numbers spans })) (sym c.deref-3.ensures.value)
          (subst (λ n. AreRankBaskets (record { ranks = n; baskets = baskets_at numbers spans })) (sym count) (chosen_ranked c.args.self.now set spans are));
    }

pub with_siblings-requires-clause-long : goal.with_siblings-requires-clause-long
with_siblings-requires-clause-long g c =
    c.in_ok-merged.ensures.ranks ∙ c.in_ok-below.ensures.ranks ∙ sym (ap length (c.in_ok-ranks.ensures 0) ∙ length-map c.args.kept.now (λ number. get_or c.deref-2.result.now number 0))

pub returns-clause-narrowed : goal.returns-clause-narrowed
returns-clause-narrowed g c = λ set cover.
    let local = c.args.self.now in
    let kept = c.args.kept.now in
    let chosen = c.deref-4.result.now in
    narrowed_is local set chosen (c.deref-4.ensures.value ∙ c.in_ok-spans.ensures no_span ∙ (λ i. map (λ tid. get_or (c.deref.ensures.value i) tid no_span) (cover i))) kept c.in_ok-made.made.0
    (ap (λ v. v.items) c.in_ok-made.ensures.ranks ∙ c.in_ok-ranks.ensures 0 ∙ ap (λ l. named l kept) c.deref-2.ensures.value)
    (λ test. ap (λ numbers. weight_where test (map (coded_basket kept) (baskets_at numbers chosen))) (sym c.deref-3.ensures.value)
    ∙ c.in_ok-below.ensures.weights test ∙ c.in_ok-merged.ensures.weights test ∙ ap (weight_where test) (sym c.in_ok-made.ensures.baskets))
