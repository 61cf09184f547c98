use Rattle.std.proofs.Common.{get_or, sym, ◌∙◌}
use Rattle.std.proofs.lemmas.List.{length-map}
use Rattle.basket_lists.specs.Packed.{code_of, number_of, indexes_of, size_of}
use Rattle.basket_lists.proofs.DigitLemmas.{length-digits}
use Rattle.basket_lists.proofs.known.KnownItems.size.Goals as goal

pub returns : goal.returns
returns c =
    let coding = c.args.self.now in
    let code = code_of coding c.args.packed.now in
    c.code_size.ensures ∙ sym (length-digits coding.item_bits (size_of coding code) (number_of coding code)) ∙ sym (length-map (indexes_of coding code) (λ index. get_or coding.items index 0))
