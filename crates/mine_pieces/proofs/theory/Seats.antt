-- What holds of the seats of all workers, and sums over what they have.
use Rattle.std.proofs.Common.{◌≡◌, ℕ, ◌+◌, ◌≤◌, List, [], ◌∷◌, map, Ok, Result, refl, ap, sym, ◌∙◌, arith}
use Rattle.std.proofs.lemmas.Grind.{common_steps}
use Rattle.std.specs.Prelude.{All, IfOk}
use Rattle.std.specs.List.{flat_map, sum_by}
use Rattle.std.proofs.lemmas.List.Elements.{All-cons, All-head, All-map, All-nil, All-same, All-tail}
use Rattle.std.proofs.lemmas.List.Sums.{sum_by-append, sum_by-cons}
use Rattle.mine_limit.specs.declared.fault.MineFault.{MineFault}
use Rattle.mine_round.specs.RoundView.{RoundView}
use Rattle.mine_round.specs.SeatView.{SeatView}
use Rattle.mine_pieces.specs.declared.worker_result.WorkerResult.{WorkerResult}

-- the seats are of the round that the seats of the shares are of
pub all_own : {V : Type 0} (round : RoundView) (shares : List (WorkerResult V)) (seats : List SeatView) → seats ≡ map (λ share. share.seat) shares → All (λ share. share.seat.round ≡ round.id) shares
    → All (λ seat. seat.round ≡ round.id) seats
all_own round shares seats are own = All-same (λ (s : SeatView). s.round ≡ round.id) _ _ are (All-map (λ (s : SeatView). s.round ≡ round.id) (λ share. share.seat) shares own)

module _ {V : Type 0} (P : SeatView → Type 0) where
  abbrev pub Ends : WorkerResult V → Type 0
  Ends share = IfOk share.values (λ _. P share.seat)

  ends_at : (seat : SeatView) (value : V) (values : Result V MineFault) → Ok value ≡ values → IfOk values (λ _. P seat) → P seat
  ends_at h1 h2 h3 h4 h5 = grind (arith, common_steps)

  -- where each worker came to its end, it holds of each seat
  pub each_seat : (shares : List (WorkerResult V)) (done : List V) → map Ok done ≡ map (λ share. share.values) shares → All Ends shares → All P (map (λ share. share.seat) shares)
  each_seat [] done e ends = All-nil P
  each_seat (share ∷ shares) [] e ends = absurd cc
  each_seat (share ∷ shares) (value ∷ done) e ends =
      let head : Ok value ≡ share.values = cc in
      let tail : map Ok done ≡ map (λ share. share.values) shares = cc in
      All-cons P share.seat (map (λ share. share.seat) shares) (ends_at share.seat value share.values head (All-head Ends share shares ends)) (each_seat shares done tail (All-tail Ends share shares ends))

-- where no seat has more of one number than of another, all seats have no more of it
pub sums_at_most : (f g : SeatView → ℕ) (seats : List SeatView) → All (λ seat. f seat ≤ g seat) seats → sum_by f seats ≤ sum_by g seats
sums_at_most f g [] each = omega arith
sums_at_most f g (seat ∷ seats) each =
    let first = All-head (λ (s : SeatView). f s ≤ g s) seat seats each in
    let rest = sums_at_most f g seats (All-tail (λ (s : SeatView). f s ≤ g s) seat seats each) in
    omega (arith, first, rest, sum_by-cons f seat seats, sum_by-cons g seat seats)

pub sum_by-map : {X Y : Type 0} (f : Y → ℕ) (g : X → Y) (xs : List X) → sum_by f (map g xs) ≡ sum_by (λ x. f (g x)) xs
sum_by-map f g [] = refl
sum_by-map f g (x ∷ xs) = sum_by-cons f (g x) (map g xs) ∙ ap (λ n. f (g x) + n) (sum_by-map f g xs) ∙ sym (sum_by-cons (λ y. f (g y)) x xs)

pub sum_by-flat_map : {X Y : Type 0} (f : Y → ℕ) (g : X → List Y) (xs : List X) → sum_by f (flat_map g xs) ≡ sum_by (λ x. sum_by f (g x)) xs
sum_by-flat_map f g [] = refl
sum_by-flat_map f g (x ∷ xs) = sum_by-append f (g x) (flat_map g xs) ∙ ap (λ n. sum_by f (g x) + n) (sum_by-flat_map f g xs) ∙ sym (sum_by-cons (λ y. sum_by f (g y)) x xs)
