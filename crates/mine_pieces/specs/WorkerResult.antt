-- What the workers of a phase hand back, and what it is together.
use Rattle.std.specs.Prelude.{◌≡◌, ◌<◌, ℕ, List, IfOk, MatchResult, Vec, length, map, fold, slice_index_or, Option, Some, None, Result, Ok, Err}
use Rattle.std.specs.Global.{Global}
use Rattle.std.specs.Fn.{FnReturns}
use denote.Param.Members.{Shared}
use Rattle.mine_limit.specs.declared.fault.MineFault.{MineFault}
use Rattle.mine_limit.specs.declared.fault.MineFault.TheVariants.{Memory, TooMany}
use Rattle.mine_round.specs.SeatView.{SeatView}
use Rattle.mine_pieces.specs.declared.worker_result.WorkerResult.{WorkerResult}

-- the numbers that values came with
abbrev pub numbers_of : {X : Type 0} → List (ℕ × X) → List ℕ
numbers_of values = map (λ value. value.0) values

-- the fault to report of two: that there are too many sets, before out of memory
abbrev pub worse : Option MineFault → MineFault → Option MineFault
worse None found = Some found
worse (Some Memory) found = Some found
worse (Some (TooMany limit)) found = Some (TooMany limit)

-- the fault to tell after a result
abbrev pub fault_after : {X : Type 0} → Option MineFault → Result X MineFault → Option MineFault
fault_after fault (Ok value) = fault
fault_after fault (Err found) = worse fault found

-- the fault to tell of some results, and none where all are well
abbrev pub fault_of : {X : Type 0} → List (Result X MineFault) → Option MineFault
fault_of results = fold fault_after None results

module _ {F V : Type 0} (g : Shared F ((ℕ × SeatView) × Unit {0}) (WorkerResult V)) (f : F) where
  -- f may be called with each of the seats and its place, which is the number of its worker
  abbrev pub AcceptsSeats : List SeatView → Type 0
  AcceptsSeats seats = (worker : ℕ) (seat : SeatView) → worker < length seats → seat ≡ slice_index_or seats worker seat → g.pre f ((worker, seat), tt)

  -- a share is what a call of f hands back that got a place and the seat there
  pub record IsHandedBack (seats : List SeatView) (worker : ℕ) (share : WorkerResult V) : Type 0 where
    pub seat : SeatView
    pub given : seat ≡ slice_index_or seats worker seat
    pub call : FnReturns g f ((worker, seat), tt) share

  -- some seats and some values, or a fault, are those of the shares that are handed back, one for each seat that was given, by the worker whose number is its place
  pub record ArePartsOfShares (given back : List SeatView) (values : Result (Vec V Global) MineFault) : Type 0 where
    pub shares : List (WorkerResult V)
    pub count : length shares ≡ length given
    pub each : (worker : ℕ) (share : WorkerResult V) → worker < length shares → IsHandedBack given worker (slice_index_or shares worker share)
    pub seats : back ≡ map (λ share. share.seat) shares
    pub lists : IfOk values (λ lists. map Ok lists.items ≡ map (λ share. share.values) shares)
    pub fault : MatchResult values (λ _. fault_of (map (λ share. share.values) shares) ≡ None) (λ fault. fault_of (map (λ share. share.values) shares) ≡ Some fault)
