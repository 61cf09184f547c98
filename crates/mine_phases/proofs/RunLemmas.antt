-- The runs of ranges of ranks, one range after another.
use Rattle.std.proofs.Common.{◌≡◌, ℕ, ◌+◌, ◌<◌, List, [], ◌∷◌, ◌++◌, length, get_or, refl, sym, subst, arith, zero, suc}
use Rattle.std.proofs.lemmas.Grind.{common_steps}
use Rattle.std.specs.List.{flat_map, range_with_len}
use Rattle.std.proofs.lemmas.List.Concat.{flat_map-cons}
use Rattle.mine_baskets.specs.declared.span.Span.{Span}
use Rattle.mine_pairs.specs.declared.rank_range.RankRange.{RankRange}
use Rattle.mine_pairs.specs.Triangle.{ranks_in}

module _ (IsOf : ℕ → List Span → Type 0) where
  -- the lists are those of the ranks
  abbrev pub AreOf : List ℕ → List (List Span) → Type 0
  AreOf [] [] = Unit {0}
  AreOf [] (list ∷ lists) = ⊥
  AreOf (rank ∷ ranks) [] = ⊥
  AreOf (rank ∷ ranks) (list ∷ lists) = IsOf rank list × AreOf ranks lists

  are_appended : (ranks more : List ℕ) (lists others : List (List Span)) → AreOf ranks lists → AreOf more others → AreOf (ranks ++ more) (lists ++ others)
  are_appended [] more [] others are next = next
  are_appended [] more (list ∷ lists) others are next = absurd are
  are_appended (rank ∷ ranks) more [] others are next = absurd are
  are_appended (rank ∷ ranks) more (list ∷ lists) others are next = (are.0, are_appended ranks more lists others are.1 next)

  are_in_range : (first count : ℕ) (lists : List (List Span)) → length lists ≡ count → ((n : ℕ) → n < count → IsOf (first + n) (get_or lists n [])) → AreOf (range_with_len first count) lists
  are_in_range first zero [] long each = tt
  are_in_range first zero (list ∷ lists) long each = absurd (omega (arith, long))
  are_in_range first (suc count) [] long each = absurd (omega (arith, long))
  are_in_range first (suc count) (list ∷ lists) long each = (
    subst (λ r. IsOf r list) (omega arith) (each 0 (omega arith)),
    are_in_range (first + 1) count lists (omega (arith, long)) (λ n below. subst (λ r. IsOf r (get_or lists n [])) (omega arith) (each (suc n) (omega (arith, below)))),
  )

  pub length-are : (first count : ℕ) (lists : List (List Span)) → AreOf (range_with_len first count) lists → length lists ≡ count
  length-are first zero [] are = omega arith
  length-are first zero (list ∷ lists) are = absurd are
  length-are first (suc count) [] are = absurd are
  length-are first (suc count) (list ∷ lists) are = let rest = length-are (first + 1) count lists are.1 in omega (arith, rest)

  pub are_at : (first count : ℕ) (lists : List (List Span)) → AreOf (range_with_len first count) lists → (n : ℕ) → n < count → IsOf (first + n) (get_or lists n [])
  are_at first zero lists are n below = absurd (omega (arith, below))
  are_at first (suc count) [] are n below = absurd are
  are_at first (suc count) (list ∷ lists) are zero below = subst (λ r. IsOf r list) (omega arith) are.0
  are_at first (suc count) (list ∷ lists) are (suc n) below = grind (arith, common_steps, are_at (first + 1) count lists are.1 n (omega (arith, below)))

  pub are_joined : (ranges : List RankRange) (parts : List (List (List Span))) → length parts ≡ length ranges
      → ((part : ℕ) (range : RankRange) → part < length ranges → get_or ranges part range ≡ range
      → (length (get_or parts part []) ≡ range.count) × ((n : ℕ) → n < range.count → IsOf (range.first + n) (get_or (get_or parts part []) n [])))
      → AreOf (flat_map ranks_in ranges) (flat_map (λ lists. lists) parts)
  are_joined [] [] long each = tt
  are_joined [] (lists ∷ parts) long each = absurd (omega (arith, long))
  are_joined (range ∷ ranges) [] long each = absurd (omega (arith, long))
  are_joined (range ∷ ranges) (lists ∷ parts) long each =
      let here = each 0 range (omega arith) refl in
      subst (λ r. AreOf r (flat_map (λ l. l) (lists ∷ parts))) (sym (flat_map-cons ranks_in range ranges))
      (subst (AreOf (ranks_in range ++ flat_map ranks_in ranges)) (sym (flat_map-cons (λ l. l) lists parts))
      (are_appended (ranks_in range) (flat_map ranks_in ranges) lists (flat_map (λ l. l) parts) (are_in_range range.first range.count lists here.0 here.1)
      (are_joined ranges parts (omega (arith, long)) (λ part r below is. each (suc part) r (omega (arith, below)) is))))
