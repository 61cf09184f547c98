-- Supports over the parts of a list of baskets: those that a seat has added are bounded by the support in the baskets before the next part, and all together are the supports in the baskets.
use Rattle.std.proofs.Common.{◌≡◌, ℕ, zero, suc, ◌+◌, ◌^◌, ◌<◌, ◌≤◌, List, [], ◌∷◌, ◌++◌, map, take, length, get_or, replicate, Ok, refl, ap, sym, ◌∙◌, subst, arith}
use Rattle.std.proofs.lemmas.Grind.{common_steps}
use Rattle.std.specs.Prelude.{All, Any, IsPermutation, slice_index}
use Rattle.std.specs.List.{range_with_len, sum_by}
use Rattle.std.proofs.lemmas.List.{ext_get_or, get_or-map, length-map, take-take}
use Rattle.std.proofs.lemmas.List.Elements.{All-head}
use Rattle.std.proofs.lemmas.List.Folds.{flat_map-map}
use Rattle.std.proofs.lemmas.List.Sorted.{sum_by-IsPermutation}
use Rattle.std.proofs.lemmas.List.Sums.{sum_by-take-le, sum_by_push}
use Rattle.basket_ranks.proofs.theory.Shards.{shard_more, shard_start-le, shards_are_all}
use Rattle.basket_ranks.specs.Shards.{shard_of, shard_start}
use Rattle.basket_sets.proofs.theory.Support.{support-append, support_falls, supports_add_up}
use Rattle.basket_sets.specs.declared.weighted.Weighted.{Weighted}
use Rattle.basket_sets.specs.Database.{MOST_WEIGHT}
use Rattle.basket_sets.specs.Support.{support_of, total_of, weight_at}
use Rattle.mine_round.specs.SeatView.{SeatView}
use Rattle.mine_round.specs.Totals.{added_by, claimed_by}
use Rattle.mine_sets.specs.Supports.{AddsSupports, part_support}
use Rattle.mine_pieces.specs.declared.worker_result.WorkerResult.{WorkerResult}
use Rattle.mine_pieces.proofs.theory.Claims.{after, after-le, after_push}
use Rattle.mine_pieces.proofs.theory.Seats.{Ends, each_seat, sum_by-flat_map, sum_by-map, sums_at_most}

module _ (baskets : List Weighted) (pieces : ℕ) (set : List ℕ) where
  -- the support in the baskets before a part
  abbrev pub front : ℕ → ℕ
  front i = support_of (take (shard_start i pieces (length baskets)) baskets) set

  front_more : 1 ≤ pieces → (i : ℕ) → front (i + 1) ≡ front i + part_support baskets pieces set i
  front_more some i = grind (arith, common_steps, shard_more, support-append)

  front-le : 1 ≤ pieces → (i j : ℕ) → i ≤ j → front i ≤ front j
  front-le some i j le =
      let low : ℕ = shard_start i pieces (length baskets) in let high : ℕ = shard_start j pieces (length baskets) in
      let part = sum_by-take-le (weight_at set) (take high baskets) low in
      omega (arith, part, ap (sum_by (weight_at set)) (take-take low high baskets (shard_start-le i j pieces (length baskets) some le)))

  front_is_light : (i : ℕ) → total_of baskets ≤ MOST_WEIGHT → front i ≤ MOST_WEIGHT
  front_is_light i light = grind (arith, common_steps, sum_by-take-le, support_falls)

  -- what was added so far is bounded, and so it is with the next part
  abbrev pub IsBounded : List ℕ → Type 0
  IsBounded claimed = sum_by (part_support baskets pieces set) claimed ≤ front (after claimed)

  pub bounded_next : 1 ≤ pieces → (claimed : List ℕ) (piece : ℕ) → All (λ x. x < piece) claimed → IsBounded claimed → IsBounded (claimed ++ piece ∷ [])
  bounded_next some claimed piece below bounded =
      let le = front-le some (after claimed) piece (after-le claimed piece below) in
      let step = front_more some piece in
      let push = sum_by_push (part_support baskets pieces set) claimed piece in
      let e = ap front (after_push claimed piece below) in omega arith

  -- all parts together
  pub parts_are_all : 1 ≤ pieces → sum_by (part_support baskets pieces set) (range_with_len 0 pieces) ≡ support_of baskets set
  parts_are_all some =
      sym (sum_by-map (λ part. support_of part set) (λ piece. shard_of piece pieces baskets) (range_with_len 0 pieces))
      ∙ sym (supports_add_up (map (λ piece. shard_of piece pieces baskets) (range_with_len 0 pieces)) set)
      ∙ ap (λ l. support_of l set) (flat_map-map (λ part. part) (λ piece. shard_of piece pieces baskets) (range_with_len 0 pieces) ∙ shards_are_all pieces baskets some)

-- what a seat has added to the counters of the sets
pub record HasAdded (baskets : List Weighted) (pieces : ℕ) (sets : List (List ℕ)) (claimed added : List ℕ) : Type 0 where
  pub sized : length added ≡ length sets
  pub each : (k : ℕ) → k < length sets → slice_index added k ≡ sum_by (part_support baskets pieces (get_or sets k [])) claimed
  pub bounded : (k : ℕ) → k < length sets → IsBounded baskets pieces (get_or sets k []) claimed

pub index_zero : (n k : ℕ) → slice_index (replicate n 0) k ≡ 0
index_zero zero k = refl
index_zero (suc n) zero = refl
index_zero (suc n) (suc k) = index_zero n k

pub nothing_added : (baskets : List Weighted) (pieces : ℕ) (sets : List (List ℕ)) → HasAdded baskets pieces sets [] (replicate (length sets) 0)
nothing_added baskets pieces sets = grind (arith, common_steps)

-- what was added is far below what a counter holds
pub added_fits : (baskets : List Weighted) (pieces : ℕ) (sets : List (List ℕ)) (claimed added : List ℕ) → HasAdded baskets pieces sets claimed added → total_of baskets ≤ MOST_WEIGHT
    → (k : ℕ) → k < length sets → slice_index added k ≤ 2 ^ 40
added_fits baskets pieces sets claimed added has light k within =
    let each = has.each k within in
    let bounded = has.bounded k within in
    let most = front_is_light baskets pieces (get_or sets k []) (after claimed) light in omega arith

-- one part more
module _ (baskets : List Weighted) (pieces : ℕ) (sets : List (List ℕ)) (claimed added : List ℕ) (piece : ℕ) (some : 1 ≤ pieces) (below : All (λ x. x < piece) claimed)
    (before : HasAdded baskets pieces sets claimed added) where
  pub part_fits : total_of baskets ≤ MOST_WEIGHT → (k : ℕ) → k < length added → slice_index added k + total_of (shard_of piece pieces baskets) ≤ MOST_WEIGHT
  part_fits light k within =
      let set = get_or sets k [] in
      let short : k < length sets = omega (arith, before.sized) in
      let each = before.each k short in
      let bounded = before.bounded k short in
      let le = front-le baskets pieces set some (after claimed) piece (after-le claimed piece below) in
      let fall = support_falls (take (shard_start piece pieces (length baskets)) baskets) set [] refl in
      let step = front_more baskets pieces [] some piece in
      let most = front_is_light baskets pieces [] (piece + 1) light in omega arith

  pub part_added : (now : List ℕ) → length now ≡ length added → ((k : ℕ) → k < length sets → slice_index now k ≡ slice_index added k + part_support baskets pieces (get_or sets k []) piece)
      → HasAdded baskets pieces sets (claimed ++ piece ∷ []) now
  part_added now long each = record {
    sized = long ∙ before.sized;
    each = λ k within.
        let a = before.each k within in
        let e = each k within in
        let push = sum_by_push (part_support baskets pieces (get_or sets k [])) claimed piece in omega arith;
    bounded = λ k within. bounded_next baskets pieces (get_or sets k []) some claimed piece below (before.bounded k within);
  }

-- ---- what all seats added

-- where it holds of each of some seats, it holds of one
some_seat : (P Q : SeatView → Type 0) → ((seat : SeatView) → P seat → Q seat) → (seats : List SeatView) → 1 ≤ length seats → All P seats → Any Q seats
some_seat P Q weaker [] some all = absurd (omega arith)
some_seat P Q weaker (seat ∷ seats) some all = (0, seat, omega arith, refl, weaker seat (All-head P seat seats all))

seats_added : (baskets : List Weighted) (pieces : ℕ) (sets : List (List ℕ)) (k : ℕ) → k < length sets → (seats : List SeatView) → All (AddsSupports baskets pieces sets) seats
    → added_by seats k ≡ sum_by (part_support baskets pieces (get_or sets k [])) (claimed_by seats)
seats_added baskets pieces sets k within seats all = grind (arith, common_steps, sums_at_most, sum_by-flat_map)

-- the totals of the counters are the supports in all baskets
totals_are_supports : (baskets : List Weighted) (pieces : ℕ) (sets : List (List ℕ)) (seats : List SeatView) (totals : List ℕ) → 1 ≤ pieces → length totals ≡ length sets
    → All (AddsSupports baskets pieces sets) seats → IsPermutation (claimed_by seats) (range_with_len 0 pieces)
    → ((k : ℕ) → k < length totals → slice_index totals k ≡ added_by seats k) → totals ≡ map (support_of baskets) sets
totals_are_supports baskets pieces sets seats totals some long all claimed each =
    ext_get_or 0 totals (map (support_of baskets) sets) (long ∙ sym (length-map sets (support_of baskets)))
    (λ k within.
    let short : k < length sets = omega arith in
    each k within ∙ seats_added baskets pieces sets k short seats all
    ∙ sym (sum_by-IsPermutation (part_support baskets pieces (get_or sets k [])) (claimed_by seats) (range_with_len 0 pieces) claimed)
    ∙ parts_are_all baskets pieces (get_or sets k []) some
    ∙ sym (get_or-map (support_of baskets) sets k [] 0 short))

-- where each worker came to its end, the totals are the supports in all baskets
pub shares_are_supports : (baskets : List Weighted) (pieces : ℕ) (sets : List (List ℕ)) (shares : List (WorkerResult (Unit {0}))) (done : List (Unit {0})) (seats : List SeatView) (all : ℕ) (totals : List ℕ)
    → 1 ≤ pieces → 1 ≤ length shares → map Ok done ≡ map (λ share. share.values) shares → All (Ends (AddsSupports baskets pieces sets)) shares → seats ≡ map (λ share. share.seat) shares
    → (Any (λ seat. 0 < seat.held.past) seats → all ≡ pieces) → IsPermutation (claimed_by seats) (range_with_len 0 all) → length totals ≡ length sets
    → ((k : ℕ) → k < length totals → slice_index totals k ≡ added_by seats k) → totals ≡ map (support_of baskets) sets
shares_are_supports baskets pieces sets shares done seats all totals some worked ends says same ended claimed long each =
    let P : SeatView → Type 0 = AddsSupports baskets pieces sets in
    let adds : All P seats = subst (All P) (sym same) (each_seat P shares done ends says) in
    let whole = ended (some_seat P (λ seat. 0 < seat.held.past) (λ seat says. says.ended) seats (omega (arith, ap length same, length-map shares (λ share. share.seat))) adds) in
    totals_are_supports baskets pieces sets seats totals some long adds (subst (λ n. IsPermutation (claimed_by seats) (range_with_len 0 n)) whole claimed) each
