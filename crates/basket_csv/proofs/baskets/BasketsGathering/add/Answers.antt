use Rattle.std.proofs.Common.{fold, ap, refl, ◌∙◌}
use Rattle.basket_csv.specs.Csv.{names_in}
use Rattle.basket_csv.specs.Record.{fields_of}
use Rattle.basket_names.specs.Names.{with_name}
use Rattle.basket_csv.proofs.BasketLemmas.{added}
use Rattle.basket_csv.proofs.GatheringLemmas.{whatever}
use Rattle.basket_csv.proofs.baskets.BasketsGathering.add.Goals as goal

pub returns-clause-names : goal.returns-clause-names
returns-clause-names c = λ reading rows h.
    whatever c.add.result _ (c.in_ok-weight.ensures.names ∙ ap (λ b. fold with_name c.args.names.now (names_in b (fields_of c.args.row.now))) h.weighted)

pub returns-clause-read : goal.returns-clause-read
returns-clause-read c = λ reading rows among h.
    let old = c.args.self.now in
    added old (record { weighted = old.weighted; gathered = c.add.new.self; numbers = c.number_basket.new.numbers }) reading c.args.names.now c.number_basket.new.names rows (fields_of c.args.row.now)
    c.in_ok-weight.weight c.deref.result.now c.add.result c.in_ok-weight.ensures.weight refl c.in_ok-weight.ensures.names
    (c.deref.ensures.value ∙ c.in_ok-weight.ensures.numbers) c.add.ensures.baskets among h
