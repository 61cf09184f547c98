use Rattle.std.proofs.Common.{subst, sym}
use Rattle.std.proofs.lemmas.List.Concat.{flat_map-append}
use Rattle.basket_read.specs.GatheredBaskets.{HasGathered}
use Rattle.basket_csv.specs.Csv.{basket_of}
use Rattle.basket_csv.proofs.baskets.BasketsGathering.followed_by.Goals as goal

pub returns : goal.returns
returns c = λ reading names rows more has later. record {
  weighted = has.weighted;
  gathered = subst (HasGathered c.append_any.new.self reading.counting) (sym (flat_map-append (basket_of reading.weighted names) rows more))
      (c.in_ok-append_any.ensures reading.counting reading.counting _ _ (λ e. e) has.gathered later.gathered);
}
