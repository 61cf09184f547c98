use Rattle.std.proofs.Common.{subst}
use Rattle.std.specs.List.{flat_map}
use Rattle.basket_read.specs.Cut.{cut_at}
use Rattle.basket_read.specs.Fault.{ReturnsBy}
use Rattle.basket_read.specs.Fimi.{is_line_feed, basket_of, if_light}
use Rattle.basket_read.specs.GatheredBaskets.{Gathers}
use Rattle.basket_read.proofs.TextLemmas.{all_ended}
use Rattle.basket_read.proofs.text.Text.finish.Goals as goal

pub returns : goal.returns
returns c = λ counting bytes t.
    subst (λ all. ReturnsBy (Gathers counting) c.finish.result (if_light all)) (all_ended c.args.self counting bytes t)
    (c.finish.ensures.baskets counting _ (c.in_ok-end_line.ensures.baskets counting (flat_map basket_of (cut_at is_line_feed bytes).ended) t.gathered))
