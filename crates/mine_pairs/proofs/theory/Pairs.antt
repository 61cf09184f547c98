-- The frequent pairs of baskets that have the same supports.
use Rattle.std.proofs.Common.{◌≡◌, ℕ, List, [], ◌∷◌, ◌&&◌, leb, ltb, map, filter}
use Rattle.std.specs.List.{range_with_len}
use Rattle.basket_sets.specs.declared.weighted.Weighted.{Weighted}
use Rattle.basket_sets.specs.Support.{support_of}
use Rattle.mine_pairs.specs.Pairs.{pairs_by_greater, pairs_of}

-- baskets that give each set the same support have the same pairs
pub same_of_rank : (one other : List Weighted) (least rank : ℕ) → ((set : List ℕ) → support_of one set ≡ support_of other set) → pairs_of one least rank ≡ pairs_of other least rank
same_of_rank one other least rank same i = map (λ lesser. (lesser, same (lesser ∷ rank ∷ []) i))
    (filter (λ lesser. ltb lesser rank && (leb 1 (same (lesser ∷ rank ∷ []) i) && leb least (same (lesser ∷ rank ∷ []) i))) (range_with_len 0 rank))

pub same_pairs : (one other : List Weighted) (least count : ℕ) → ((set : List ℕ) → support_of one set ≡ support_of other set) → pairs_by_greater one least count ≡ pairs_by_greater other least count
same_pairs one other least count same i = map (λ rank. same_of_rank one other least rank same i) (range_with_len 0 count)
