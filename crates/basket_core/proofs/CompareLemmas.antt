-- A list beside the two parts of another.
use Rattle.std.proofs.Common.{◌≡◌, ℕ, List, [], ◌∷◌, ◌++◌, length, take, drop, refl, ap, ◌∙◌}
use Rattle.std.specs.declared.cmp.Ordering.{Ordering}
use Rattle.std.specs.declared.cmp.Ordering.TheVariants.{Less, Equal, Greater}
use Rattle.std.specs.Ordering.{nat_cmp, ordering_then}
use Rattle.std.specs.Cmp.Lexicographic.{slice_cmp}

then_assoc : (o p q : Ordering) → ordering_then o (ordering_then p q) ≡ ordering_then (ordering_then o p) q
then_assoc Less p q = refl
then_assoc Equal p q = refl
then_assoc Greater p q = refl

pub by_parts : (items front rest : List ℕ) → slice_cmp nat_cmp items (front ++ rest)
    ≡ ordering_then (slice_cmp nat_cmp (take (length front) items) front) (slice_cmp nat_cmp (drop (length front) items) rest)
by_parts items [] rest = refl
by_parts [] (y ∷ front) rest = refl
by_parts (x ∷ items) (y ∷ front) rest =
    ap (ordering_then (nat_cmp x y)) (by_parts items front rest)
    ∙ then_assoc (nat_cmp x y) (slice_cmp nat_cmp (take (length front) items) front) (slice_cmp nat_cmp (drop (length front) items) rest)
