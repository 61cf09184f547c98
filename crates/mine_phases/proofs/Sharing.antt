-- What all workers of a phase of classes have told and mined together.
use Rattle.std.proofs.Common.{◌≡◌, ◌≤◌, ◌<◌, ◌+◌, ◌-◌, ◌*◌, ◌^◌, ◌⊎◌, ℕ, suc, zero, List, [], ◌∷◌, map, fold, get_or, length, Option, Some, None, Err, Result, cond, ap, sym, ◌∙◌, subst, inl, inr, arith, zero-add}
use Rattle.std.proofs.lemmas.Grind.{common_steps}
use Rattle.std.specs.Prelude.{◌==◌, All, IsPermutation, Vec, slice_index}
use Rattle.std.specs.Global.{Global}
use Rattle.std.specs.List.{flat_map, range_with_len, sum, sum_by}
use Rattle.std.proofs.lemmas.List.{get_or-map, length-map}
use Rattle.std.proofs.lemmas.List.FromFn.{fill_by_all}
use Rattle.std.proofs.lemmas.List.Elements.{All-head, All-map, All-same, All-tail}
use Rattle.std.proofs.lemmas.List.Sorted.{IsPermutation-refl, sum_by-IsPermutation}
use Rattle.std.proofs.lemmas.List.Sums.{sum-map, sum_by-cons}
use Rattle.basket_ranks.specs.Codes.{Coding, IsCoding, baskets_of, frequent_of_coding}
use Rattle.basket_ranks.proofs.theory.Decoding.{decoding_keeps_frequent}
use Rattle.mine_limit.specs.declared.fault.MineFault.{MineFault}
use Rattle.mine_limit.specs.declared.fault.MineFault.TheVariants.{TooMany}
use Rattle.basket_sets.specs.declared.counted.Counted.{Counted}
use Rattle.basket_sets.specs.Frequent.{ListsOnce}
use Rattle.mine_classes.specs.Mined.{ListsClassItems, MOST_SET_WORK, class_size}
use Rattle.mine_classes.proofs.theory.Classes.{class_sizes_add_up}
use Rattle.mine_classes.proofs.theory.Listed.{class_items_are_all}
use Rattle.mine_round.specs.RoundView.{RoundView}
use Rattle.mine_round.specs.SeatView.{SeatView}
use Rattle.mine_round.specs.Totals.{HoldsNumbersBelow, added_by, claimed_by, seen_by}
use Rattle.mine_pieces.specs.declared.worker_result.WorkerResult.{WorkerResult}
use Rattle.mine_phases.specs.Classes.{HasLargeClass, IsClassShare, IsMined, ToldAll, claimed_size, ranks_of}
use Rattle.mine_pieces.specs.Pieces.{HasEach}
use Rattle.mine_pieces.specs.WorkerResult.{fault_after, fault_of}
use Rattle.mine_pieces.proofs.theory.Numbers.{sum_fits, sum_more}
use Rattle.mine_pieces.proofs.theory.Seats.{sum_by-flat_map, sums_at_most}
use Rattle.mine_pieces.proofs.theory.Placing.{times_all}
use Rattle.mine_phases.proofs.Ranks.{sum_of_ranks}

-- ---- the fault to tell

module _ {X : Type 0} where
  told_here : (most : ℕ) (fault : Option MineFault) (result : Result X MineFault) → fault_after fault result ≡ Some (TooMany most) → (fault ≡ Some (TooMany most)) ⊎ (result ≡ Err (TooMany most))
  told_here h1 h2 h3 h4 = grind (arith, common_steps)

  -- where there are too many, the share of a worker says so
  fault_from : (P : WorkerResult X → Type 0) (C : Type 0) (most : ℕ) → ((share : WorkerResult X) → P share → share.values ≡ Err (TooMany most) → C)
      → (shares : List (WorkerResult X)) (fault : Option MineFault) → All P shares → fold fault_after fault (map (λ share. share.values) shares) ≡ Some (TooMany most) → (fault ≡ Some (TooMany most)) ⊎ C
  fault_from P C most says [] fault all e = inl e
  fault_from P C most says (share ∷ shares) fault all e = elim (fault_from P C most says shares (fault_after fault share.values) (All-tail P share shares all) e) [
    | inr found ↦ inr found
    | inl now ↦ elim (told_here most fault share.values now) [ inl before ↦ inl before | inr here ↦ inr (says share (All-head P share shares all) here) ]
  ]

-- ---- what the seats saw

seen_within : (size : ℕ → ℕ) (limit : ℕ) (seats : List SeatView) → All (ToldAll size limit) seats → seen_by seats 0 ≤ limit
seen_within size limit [] all = omega arith
seen_within size limit (seat ∷ seats) all = grind (arith, common_steps, seen_within size limit seats (All-tail (ToldAll size limit) seat seats all), All-head, All-tail)

seen_at_most : {X : Type 0} (shares : List (WorkerResult X)) (k : ℕ) (d : WorkerResult X) → k < length shares → slice_index (get_or shares k d).seat.held.seen 0 ≤ seen_by (map (λ share. share.seat) shares) 0
seen_at_most [] k d below = absurd (omega arith)
seen_at_most (share ∷ shares) zero d below = omega arith
seen_at_most (share ∷ shares) (suc k) d below = let rest = seen_at_most shares k d (omega arith) in omega (arith, rest)

-- ---- the sizes of pieces

module _ (coding : Coding) (pieces : ℕ) (some : 1 ≤ pieces) where
  -- so the numbers that are claimed have each rank once
  pub ranks_once : (claimed : List ℕ) → IsPermutation claimed (range_with_len 0 pieces) → HoldsNumbersBelow (length coding.items) (flat_map (ranks_of coding pieces) claimed)
  ranks_once claimed same x = sum_of_ranks (λ rank. cond (rank == x) 1 0) coding pieces claimed some same ∙ times_all (length coding.items) x

  module _ (is : IsCoding coding) where
    all_claimed_have : (claimed : List ℕ) → IsPermutation claimed (range_with_len 0 pieces) → sum_by (claimed_size coding pieces) claimed ≡ length (frequent_of_coding coding)
    all_claimed_have claimed same = sym (sum_by-flat_map (class_size coding) (ranks_of coding pieces) claimed) ∙ sum_of_ranks (class_size coding) coding pieces claimed some same ∙ class_sizes_add_up coding is

    -- the pieces that are claimed have no more sets than there are
    claimed_have_at_most : (claimed : List ℕ) (count : ℕ) → IsPermutation claimed (range_with_len 0 count) → count ≤ pieces
        → sum_by (claimed_size coding pieces) claimed ≤ length (frequent_of_coding coding)
    claimed_have_at_most claimed count same within =
        let p = sum_by-IsPermutation (claimed_size coding pieces) claimed (range_with_len 0 count) same in
        let m = sum_more (claimed_size coding pieces) 0 count pieces within in
        let a = all_claimed_have (range_with_len 0 pieces) (IsPermutation-refl (range_with_len 0 pieces)) in omega (arith, p, m, a)

    large_class_is_too_many : (limit : ℕ) → HasLargeClass coding limit → limit < length (frequent_of_coding coding)
    large_class_is_too_many limit large =
        let f = sum_fits (class_size coding) 0 large.rank (length coding.items) (omega arith) large.within in
        let e : length coding.items - 0 ≡ length coding.items = omega arith in
        let a = ap (λ n. sum_by (class_size coding) (range_with_len 0 n)) e ∙ class_sizes_add_up coding is in
        let l = large.large in omega (arith, f, a, l)

    -- where all workers ended well, there are no more sets than the limit
    pub no_more_than_limit : (limit : ℕ) (seats : List SeatView) (total : ℕ) → All (ToldAll (claimed_size coding pieces) limit) seats → IsPermutation (claimed_by seats) (range_with_len 0 pieces)
        → total ≡ added_by seats 0 → total ≡ seen_by seats 0 → length (frequent_of_coding coding) ≤ limit
    no_more_than_limit limit seats total all same sum greatest =
        let size = claimed_size coding pieces in
        let told = sums_at_most (λ s. sum_by size s.held.claimed) (λ s. slice_index s.held.added 0) seats (λ k d below. let one = (all k d below).told in omega (arith, one)) in
        let seen = seen_within size limit seats all in
        omega (arith, told, seen, sum_by-flat_map size (λ (s : SeatView). s.held.claimed) seats, all_claimed_have (claimed_by seats) same, sum, greatest)

    -- the fault to tell is that there are too many only where there are
    pub too_many_are : (round : RoundView) (rests_on : Type 0) (work : ℕ → ℕ) (limit : ℕ) (shares : List (WorkerResult (Vec (ℕ × (List Counted × ℕ)) Global))) (seats : List SeatView) (most total count : ℕ)
        → seats ≡ map (λ share. share.seat) shares → All (IsClassShare round coding rests_on work limit pieces) shares
        → IsPermutation (claimed_by seats) (range_with_len 0 count) → count ≤ pieces → total ≡ added_by seats 0 → total ≡ seen_by seats 0
        → fault_of (map (λ share. share.values) shares) ≡ Some (TooMany most) → (most ≡ limit) × (limit < length (frequent_of_coding coding))
    too_many_are round rests_on work limit shares seats most total count are all same within sum greatest fault =
        let size = claimed_size coding pieces in
        let AtMost : SeatView → Type 0 = λ seat. slice_index seat.held.added 0 ≤ sum_by size seat.held.claimed in
        let told = sums_at_most (λ s. slice_index s.held.added 0) (λ s. sum_by size s.held.claimed) seats (All-same AtMost _ _ are (All-map AtMost (λ share. share.seat) shares (λ k d below. (all k d below).at_most))) in
        let moved = sum_by-flat_map size (λ (s : SeatView). s.held.claimed) seats in
        let claimed = claimed_have_at_most (claimed_by seats) count same within in
        let seen = greatest ∙ ap (λ l. seen_by l 0) are in
        let Told : WorkerResult (Vec (ℕ × (List Counted × ℕ)) Global) → Type 0 = λ share. IsClassShare round coding rests_on work limit pieces share × (slice_index share.seat.held.seen 0 ≤ total) in
        let Too : Type 0 = (most ≡ limit) × (limit < length (frequent_of_coding coding)) in
        elim (fault_from Told Too most
        (λ share says here.
        let t = says.0.too_many most here in (
          t.0,
          elim t.1 [
            | inl over ↦ omega (arith, over, says.1, sum, told, moved, claimed)
            | inr large ↦ large_class_is_too_many limit large
          ],
        ))
        shares None (λ k d below. (all k d below, let s = seen_at_most shares k d below in omega (arith, s, seen))) fault) [
          | inl none ↦ absurd cc
          | inr too ↦ too
        ]

-- ---- the classes of all ranks

module _ (coding : Coding) (rests_on : Type 0) (work : ℕ → ℕ) where
  work_is_few : (first : ℕ) (classes : List (List Counted × ℕ)) → ((k : ℕ) → k < length classes → (get_or classes k ([], 0)).1 ≤ class_size coding (first + k) * MOST_SET_WORK)
      → sum (map (λ class. class.1) classes) ≤ sum_by (class_size coding) (range_with_len first (length classes)) * MOST_SET_WORK
  work_is_few first [] each = omega arith
  work_is_few first (class ∷ classes) each =
      let Few : ℕ → ℕ → Type 0 = λ work rank. work ≤ class_size coding rank * MOST_SET_WORK in
      let here : first + 0 ≡ first = omega arith in
      let next : (k : ℕ) → first + suc k ≡ (first + 1) + k = λ k. omega arith in
      let few = subst (Few class.1) here (each 0 (omega arith)) in
      let rest = work_is_few (first + 1) classes (λ k below. subst (Few (get_or classes k ([], 0)).1) (next k) (each (suc k) (omega arith))) in
      let works = sum_by-cons (λ n. n) class.1 (map (λ class. class.1) classes) in
      let sizes = ap (λ n. n * MOST_SET_WORK) (sum_by-cons (class_size coding) first (range_with_len (first + 1) (length classes))) in
      omega (arith, few, rest, works, sizes)

  module _ (classes : List (List Counted × ℕ)) (has : HasEach (IsMined coding rests_on work) (length coding.items) classes) where
    -- the work of all classes fits a number
    pub work_fits : (limit : ℕ) → IsCoding coding → length (frequent_of_coding coding) ≤ limit → limit < 2 ^ 32 → sum (map (λ class. class.1) classes) < 2 ^ 64
    work_fits limit is within small =
        let few = work_is_few 0 classes (λ k below. subst (λ n. (get_or classes k ([], 0)).1 ≤ class_size coding n * MOST_SET_WORK) (sym (zero-add k)) (has.each k ([], 0) (omega (arith, has.count, below))).few) in
        let all = ap (λ n. n * MOST_SET_WORK) (ap (λ n. sum_by (class_size coding) (range_with_len 0 n)) has.count ∙ class_sizes_add_up coding is) in
        omega (arith, few, all, within, small)

    pub work_of_all : (total : ℕ) → total ≡ sum (map (λ class. class.1) classes) → rests_on → total ≡ sum_by work (range_with_len 0 (length coding.items))
    work_of_all total added known =
        let all = fill_by_all work (map (λ class. class.1) classes) (length coding.items) 0 (length-map classes (λ class. class.1) ∙ has.count)
        (λ k below. get_or-map (λ class. class.1) classes k ([], 0) 0 (omega (arith, has.count, below)) ∙ (has.each k ([], 0) below).worked known) in
        added ∙ ap sum all ∙ sum-map work (range_with_len 0 (length coding.items))

    pub once_of_all : IsCoding coding → ListsOnce (baskets_of coding) coding.minimum (flat_map (λ (class : List Counted). class) (map (λ class. class.0) classes))
    once_of_all is =
        let long : length (map (λ class. class.0) classes) ≡ length coding.items = length-map classes (λ class. class.0) ∙ has.count in
        class_items_are_all decoding_keeps_frequent coding (map (λ class. class.0) classes) is long
        (λ rank below. subst (ListsClassItems coding rank) (sym (get_or-map (λ class. class.0) classes rank ([], 0) [] (omega (arith, has.count, long, below)))) (has.each rank ([], 0) (omega (arith, long, below))).listed)
