use Rattle.std.proofs.Common.{◌∙◌, ap, sym}
use Rattle.basket_core.specs.Listing.{Listing}
use Rattle.basket_parts.specs.CombinedCounts.{frequent_in, total_in}
use Rattle.basket_sets.specs.declared.minimum.Minimum.{Minimum}
use Rattle.basket_outcome.proofs.GapLemmas.{listing_is_whole}
use Rattle.basket_outcome.proofs.counted.listing.Goals as goal

pub returns-in_ok-frequent-in-None-clause-whole : goal.returns-in_ok-frequent-in-None-clause-whole
returns-in_ok-frequent-in-None-clause-whole c =
    let lines = c.args.combined.now in
    let listing : Minimum → Listing = λ minimum. record { sets = frequent_in lines minimum; total = total_in lines } in
    listing_is_whole c.args.plan.now.question lines c.in_ok-frequent-in-None.field-0 (sym c.in_ok-fault.ensures ∙ c.in-None.is) c.in_ok-frequent-in-None.ensures.rising
    (c.in_ok-frequent-in-None.ensures.frequent ∙ ap listing c.minimum-in-None.ensures)
