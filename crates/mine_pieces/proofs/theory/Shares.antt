-- What the shares of all workers are together, where each has its values.
use Rattle.std.proofs.Common.{◌≡◌, ℕ, ◌<◌, ◌≤◌, List, [], ◌∷◌, ◌++◌, map, length, replicate, Ok, Some, None, refl, ap, sym, ◌∙◌, subst, arith}
use Rattle.std.proofs.lemmas.Grind.{common_steps}
use Rattle.std.specs.Prelude.{All, Any, IfOk, IsPermutation, Vec}
use Rattle.std.specs.Global.{Global}
use Rattle.std.specs.List.{flat_map, range_with_len}
use Rattle.std.proofs.lemmas.List.{length-map, length-replicate}
use Rattle.std.proofs.lemmas.List.Concat.{flat_map-append}
use Rattle.std.proofs.lemmas.List.Elements.{All-append, All-head, All-nil, All-tail}
use Rattle.mine_round.specs.RoundView.{RoundView}
use Rattle.mine_round.specs.SeatView.{SeatView}
use Rattle.mine_round.specs.Totals.{HoldsNumbersBelow, claimed_by}
use Rattle.mine_pieces.specs.declared.worker_result.WorkerResult.{WorkerResult}
use Rattle.mine_pieces.specs.Pieces.{AreOfPieces, HasEach, IsPieceShare}
use Rattle.mine_pieces.specs.Placed.{placed}
use Rattle.mine_pieces.specs.WorkerResult.{numbers_of}
use Rattle.mine_pieces.proofs.theory.Placing.{each_value, length-placed}

module _ {X : Type 0} (is_value : ℕ → X → Type 0) (parts : ℕ → List ℕ) (round : RoundView) where
  values_at : (share : WorkerResult (Vec (ℕ × X) Global)) (list : Vec (ℕ × X) Global) → Ok list ≡ share.values → IsPieceShare is_value parts round share → AreOfPieces is_value parts share.seat list.items
  values_at share list e says = subst (λ values. IfOk values (λ list. AreOfPieces is_value parts share.seat list.items)) (sym e) says.values

  -- the values of all shares are those of the parts of the pieces that all seats claimed
  record AreTogether (shares : List (WorkerResult (Vec (ℕ × X) Global))) (lists : List (Vec (ℕ × X) Global)) : Type 0 where
    pub claimed : flat_map (λ list. numbers_of list.items) lists ≡ flat_map parts (claimed_by (map (λ share. share.seat) shares))
    pub each : All (λ value. is_value value.0 value.1) (flat_map (λ list. list.items) lists)

  together : (shares : List (WorkerResult (Vec (ℕ × X) Global))) (lists : List (Vec (ℕ × X) Global)) → map Ok lists ≡ map (λ share. share.values) shares → All (IsPieceShare is_value parts round) shares → AreTogether shares lists
  together [] [] e says = record { claimed = refl; each = All-nil (λ value. is_value value.0 value.1) }
  together [] (list ∷ lists) e says = absurd cc
  together (share ∷ shares) [] e says = absurd cc
  together (share ∷ shares) (list ∷ lists) e says =
      let head : Ok list ≡ share.values = cc in
      let tail : map Ok lists ≡ map (λ share. share.values) shares = cc in
      let first = values_at share list head (All-head (IsPieceShare is_value parts round) share shares says) in
      let rest = together shares lists tail (All-tail (IsPieceShare is_value parts round) share shares says) in
      record {
        claimed = ap (λ l. l ++ flat_map (λ list. numbers_of list.items) lists) first.claimed ∙ ap (λ l. flat_map parts share.seat.held.claimed ++ l) rest.claimed
            ∙ sym (flat_map-append parts share.seat.held.claimed (claimed_by (map (λ share. share.seat) shares)));
        each = All-append (λ value. is_value value.0 value.1) list.items (flat_map (λ list. list.items) lists) first.each rest.each;
      }

  some_ended : (shares : List (WorkerResult (Vec (ℕ × X) Global))) (lists : List (Vec (ℕ × X) Global)) → 1 ≤ length shares → map Ok lists ≡ map (λ share. share.values) shares → All (IsPieceShare is_value parts round) shares
      → Any (λ seat. 0 < seat.held.past) (map (λ share. share.seat) shares)
  some_ended [] lists some e says = absurd (omega arith)
  some_ended (share ∷ shares) [] some e says = absurd cc
  some_ended (share ∷ shares) (list ∷ lists) some e says =
      let head : Ok list ≡ share.values = cc in
      (0, share.seat, omega arith, refl, (values_at share list head (All-head (IsPieceShare is_value parts round) share shares says)).ended)

  module _ (shares : List (WorkerResult (Vec (ℕ × X) Global))) (lists : List (Vec (ℕ × X) Global)) (all : map Ok lists ≡ map (λ share. share.values) shares) (says : All (IsPieceShare is_value parts round) shares) where
    module _ (seats : List SeatView) (count pieces : ℕ) (are : seats ≡ map (λ share. share.seat) shares) (some : 1 ≤ length shares)
        (ended : Any (λ seat. 0 < seat.held.past) seats → count ≡ pieces) (claimed : IsPermutation (claimed_by seats) (range_with_len 0 count)) where
      -- where there is a worker, each piece was claimed
      pub all_claimed : IsPermutation (claimed_by seats) (range_with_len 0 pieces)
      all_claimed = grind (arith, common_steps, some_ended)

      -- so the values have the numbers below a bound where the parts of all pieces are these
      pub hold_numbers : (bound : ℕ) → ((numbers : List ℕ) → IsPermutation numbers (range_with_len 0 pieces) → HoldsNumbersBelow bound (flat_map parts numbers))
          → HoldsNumbersBelow bound (flat_map (λ list. numbers_of list.items) lists)
      hold_numbers bound once =
          subst (HoldsNumbersBelow bound) (ap (λ l. flat_map parts (claimed_by l)) are ∙ sym (together shares lists all says).claimed) (once (claimed_by seats) all_claimed)

    -- what stands at the place of each part is its value
    pub have_each : (count : ℕ) (values : List X) → map Some values ≡ placed (replicate count None) (flat_map (λ list. list.items) lists) → HasEach is_value count values
    have_each count values is =
        let placed_all = flat_map (λ list. list.items) lists in
        let long = sym (length-map values Some) ∙ ap length is ∙ length-placed (replicate count None) placed_all ∙ length-replicate count None in
        record {
          count = long;
          each = λ part value below. each_value (λ value. is_value value.0 value.1) (replicate count None) count placed_all values refl is (together shares lists all says).each part value (omega (arith, long, below));
        }
