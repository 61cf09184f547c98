use Rattle.std.proofs.Common.{◌≤◌, ap, ◌∙◌, ◌++◌, ◌∷◌, [], map, length, inl, inr, arith}
use Rattle.std.proofs.lemmas.Bool.{cases_lt, false≢true}
use Rattle.basket_csv.proofs.PairLemmas.{group_new}
use Rattle.basket_csv.proofs.groups.add_number.Goals as goal

pub returns : goal.returns
returns c =
    let all : length c.args.groups.now.items ≤ c.args.index = elim (cases_lt c.args.index c.args.groups.now.len) [ inl h ↦ absurd (false≢true (c.in_default.ensures.variant.1 h)) | inr h ↦ omega (arith, h, c.args.groups.now.ok.0) ] in
    ap (map (λ group. group.items)) c.in_ok-push-3.ensures.items
    ∙ group_new (λ group. group.items) c.args.groups.now.items c.args.index (c.args.number ∷ []) c.push-2.new.self all (c.in_ok-push-2.ensures.ok ∙ ap (λ l. l ++ c.args.number ∷ []) c.new-group.ensures.items)
