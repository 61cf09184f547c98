use Rattle.std.proofs.Common.{◌≡◌, ◌<◌, ℕ, List, [], ◌∷◌, true, ltb, length, sym, subst, ◌∙◌, inl, inr}
use Rattle.std.specs.List.{list_all}
use Rattle.std.proofs.lemmas.Bool.{and_parts, ltb-true}
use Rattle.basket_sets.specs.Counts.{AllBelow}
use Rattle.basket_sets.proofs.theory.Members.{Member}
use Rattle.basket_sets.proofs.theory.Rising.{Member-from_has}
use Rattle.basket_checks.proofs.tests.codes.decoded.Goals as goal

-- ranks that pass a test are below the bound
all_below : (bound : ℕ) (ranks : List ℕ) → list_all (λ rank. ltb rank bound) ranks ≡ true → AllBelow bound ranks
all_below bound ranks passed rank here = below ranks passed (Member-from_has ranks rank here)
  where
    below : (rest : List ℕ) → list_all (λ r. ltb r bound) rest ≡ true → Member rank rest → rank < bound
    below [] h m = absurd m
    below (first ∷ rest) h (inl e) = subst (λ r. r < bound) e (ltb-true first bound (and_parts (ltb first bound) (list_all (λ r. ltb r bound) rest) h).0)
    below (first ∷ rest) h (inr m) = below rest (and_parts (ltb first bound) (list_all (λ r. ltb r bound) rest) h).1 m

pub decode-requires : goal.decode-requires
decode-requires c =
    let ranks = c.items.result.now in
    subst (AllBelow (length c.args.coded.now.items)) c.items.ensures.items (all_below (length c.args.coded.now.items) ranks (sym c.are_ranks.ensures ∙ c.if-are_ranks.true))
