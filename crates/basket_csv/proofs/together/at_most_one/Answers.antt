use Rattle.std.proofs.Common.{◌≡◌, ◌++◌, ◌∷◌, ◌∙◌, [], ap, append-nil, length, refl, subst, sym, arith}
use Rattle.std.specs.List.{flat_map, range_with_len}
use Rattle.std.proofs.lemmas.List.{length-append, nil_from_length}
use Rattle.basket_csv.specs.Gathering.{HasRead}
use Rattle.basket_csv.specs.Rows.{InParts}
use Rattle.basket_csv.specs.Together.{IsNumbered}
use Rattle.basket_names.specs.Names.{in_order}
use Rattle.basket_csv.proofs.TogetherLemmas.{numbered_alone}
use Rattle.basket_csv.proofs.together.at_most_one.Goals as goal

pub returns : goal.returns
returns g c = λ rows parts.
    let has = g.G.Gathering.has in
    let names_of = g.G.Gathering.names_of in
    let reading = c.args.reading in
    let part = c.in-Some.part in
    let none : c.pop.new.self.items ≡ [] = nil_from_length c.pop.new.self.items (omega (arith, c.requires, ap length c.in-Some.ensures.items, length-append c.pop.new.self.items (part ∷ []))) in
    let (own, later, first, mine, rest) = subst (λ l. InParts (HasRead has names_of reading []) l rows) (c.in-Some.ensures.items ∙ ap (λ l. l ++ part ∷ []) none) parts in
    let is : rows ≡ own = first ∙ ap (λ l. own ++ l) rest ∙ append-nil own in
    record {
      together = mine.names ∙ ap (λ r. in_order (flat_map (names_of reading.weighted) r)) (sym is);
      each = subst (λ l. InParts (IsNumbered has names_of reading part.names) l rows) (sym (c.in_ok-push.ensures.items ∙ ap (λ l. l ++ record { gathered = part.gathered; numbers = c.in_ok-numbers.numbers } ∷ []) c.new-all.ensures.items)) (
        own,
        [],
        is ∙ sym (append-nil own),
        numbered_alone has names_of reading part (record { gathered = part.gathered; numbers = c.in_ok-numbers.numbers }) own refl (c.in_ok-numbers.ensures ∙ ap (range_with_len 0) c.len.ensures) mine,
        refl,
      );
    }
