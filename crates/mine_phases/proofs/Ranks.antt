-- The ranks of a piece, and those of all pieces.
use Rattle.std.proofs.Common.{◌≡◌, ℕ, ◌+◌, ◌-◌, ◌%◌, ◌<◌, ◌≤◌, Bool, List, [], ◌∷◌, ◌++◌, refl, sym, ap, ◌∙◌, inl, inr, arith, add-one, zero, suc, zero-add, map, min, length, reverse, get_or}
use Rattle.std.proofs.lemmas.Grind.{common_steps}
use Rattle.std.specs.Prelude.{◌==◌, IsPermutation}
use Rattle.std.specs.List.{range_with_len, sum_by, flat_map}
use Rattle.std.proofs.Math.Nat.{mod-eq_of_lt}
use Rattle.std.proofs.lemmas.Nat.{mod_below}
use Rattle.std.proofs.lemmas.Bool.{cases_Bool, eq-eqb, eqb-true, false_from_ne_true}
use Rattle.std.proofs.lemmas.List.{map-append, reverse-append}
use Rattle.std.proofs.lemmas.List.Sums.{sum_by_push}
use Rattle.std.proofs.lemmas.List.Sorted.{IsPermutation-reverse, sum_by-IsPermutation}
use Rattle.basket_sets.proofs.theory.Merging.{sum_by-same}
use Rattle.basket_sets.proofs.theory.Ranges.{range_drops, range_keeps, range_more}
use Rattle.basket_ranks.specs.Codes.{Coding}
use Rattle.mine_classes.proofs.theory.Sums.{parts_add_up}
use Rattle.mine_phases.specs.Classes.{indexes_of, rank_from_end, ranks_of}
use Rattle.mine_pieces.proofs.theory.Seats.{sum_by-flat_map, sum_by-map}

-- ---- the indexes of a piece

-- between two numbers with one remainder are as many numbers as it is of
apart : (pieces claimed low high : ℕ) → low % pieces ≡ claimed → high % pieces ≡ claimed → low < high → high < low + pieces → ⊥
apart pieces claimed low high one other less near = grind (arith, common_steps)

-- none is below the claimed number
none_before : (pieces claimed count : ℕ) → claimed < pieces → count ≤ claimed → indexes_of pieces claimed count ≡ []
none_before pieces claimed zero low few = refl
none_before pieces claimed (suc count) low few =
    let own : count % pieces ≡ count = mod-eq_of_lt (omega (arith, low, few)) in
    ap (indexes_of pieces claimed) (sym (add-one count))
    ∙ range_drops (λ index. index % pieces == claimed) count (false_from_ne_true _ (λ h. let same = eqb-true (count % pieces) claimed h in omega (arith, own, same, few)))
    ∙ none_before pieces claimed count low (omega (arith, few))

module _ (pieces claimed index : ℕ) (is : index % pieces ≡ claimed) where
  -- after an index no other one comes for as many numbers as there are pieces
  next_after : (more : ℕ) → more < pieces → indexes_of pieces claimed (index + 1 + more) ≡ indexes_of pieces claimed index ++ index ∷ []
  next_after zero some = ap (indexes_of pieces claimed) (let e : index + 1 + 0 ≡ index + 1 = omega arith in e) ∙ range_keeps (λ index. index % pieces == claimed) index (eq-eqb (index % pieces) claimed is)
  next_after (suc more) few =
      ap (indexes_of pieces claimed) (let e : index + 1 + suc more ≡ index + 1 + more + 1 = omega arith in e)
      ∙ range_drops (λ index. index % pieces == claimed) (index + 1 + more)
      (false_from_ne_true _ (λ h. apart pieces claimed index (index + 1 + more) is (eqb-true ((index + 1 + more) % pieces) claimed h) (omega arith) (omega (arith, few))))
      ∙ next_after more (omega (arith, few))

  next_index : (next : ℕ) → index < next → next ≤ index + pieces → indexes_of pieces claimed next ≡ indexes_of pieces claimed index ++ index ∷ []
  next_index next above near =
      let more = next - index - 1 in
      ap (indexes_of pieces claimed) (let e : next ≡ index + 1 + more = omega (arith, above) in e) ∙ next_after more (omega (arith, above, near))

-- the first indexes have no more than all
indexes_more : (f : ℕ → ℕ) (pieces claimed count more : ℕ) → sum_by f (indexes_of pieces claimed count) ≤ sum_by f (indexes_of pieces claimed (count + more))
indexes_more f pieces claimed count zero = omega (arith, ap (λ n. sum_by f (indexes_of pieces claimed n)) (let e : count + 0 ≡ count = omega arith in e))
indexes_more f pieces claimed count (suc more) =
    let test : ℕ → Bool = λ index. index % pieces == claimed in
    let so_far = indexes_more f pieces claimed count more in
    let end = count + more in
    let next = ap (λ n. sum_by f (indexes_of pieces claimed n)) (let e : count + suc more ≡ end + 1 = omega arith in e) in
    elim (cases_Bool (test end)) [
      | inl h ↦ omega (arith, so_far, next, ap (sum_by f) (range_keeps test end h), sum_by_push f (indexes_of pieces claimed end) end)
      | inr h ↦ omega (arith, so_far, next, ap (sum_by f) (range_drops test end h))
    ]

-- the ranks of a claimed number as far as an index
abbrev pub ranks_before : Coding → ℕ → ℕ → ℕ → List ℕ
ranks_before coding pieces claimed index = map (rank_from_end (length coding.items)) (indexes_of pieces claimed (min index (length coding.items)))

module _ (coding : Coding) (pieces claimed index : ℕ) where
  pub first_ranks : claimed < pieces → index ≡ claimed → ranks_before coding pieces claimed index ≡ []
  first_ranks low is = ap (map (rank_from_end (length coding.items))) (none_before pieces claimed (min index (length coding.items)) low (omega (arith, is)))

  pub all_ranks : length coding.items ≤ index → ranks_before coding pieces claimed index ≡ ranks_of coding pieces claimed
  all_ranks past = ap (λ n. map (rank_from_end (length coding.items)) (indexes_of pieces claimed n)) (let e : min index (length coding.items) ≡ length coding.items = omega (arith, past) in e)

  module _ (rank : ℕ) (is : index % pieces ≡ claimed) (inside : index < length coding.items) (at : rank ≡ rank_from_end (length coding.items) index) (some : 1 ≤ pieces) where
    pub next_rank : ranks_before coding pieces claimed (index + pieces) ≡ ranks_before coding pieces claimed index ++ rank ∷ []
    next_rank =
        let ranks = length coding.items in
        let here : min index ranks ≡ index = omega (arith, inside) in
        ap (map (rank_from_end ranks)) (next_index pieces claimed index is (min (index + pieces) ranks) (omega (arith, inside, some)) (omega arith))
        ∙ map-append (rank_from_end ranks) (indexes_of pieces claimed index) (index ∷ [])
        ∙ ap (λ n. map (rank_from_end ranks) (indexes_of pieces claimed n) ++ rank_from_end ranks index ∷ []) (sym here)
        ∙ ap (λ n. ranks_before coding pieces claimed index ++ n ∷ []) (sym at)

    -- with the next rank, a sum over them is no more than the sum over all of the claimed number
    pub ranks_fit : (f : ℕ → ℕ) → sum_by f (ranks_before coding pieces claimed index) + f rank ≤ sum_by f (ranks_of coding pieces claimed)
    ranks_fit f =
        let ranks = length coding.items in
        let end = min (index + pieces) ranks in
        let next = ap (sum_by f) next_rank ∙ sum_by_push f (ranks_before coding pieces claimed index) rank in
        let more = indexes_more (λ n. f (rank_from_end ranks n)) pieces claimed end (ranks - end) in
        let all = ap (λ n. sum_by (λ m. f (rank_from_end ranks m)) (indexes_of pieces claimed n)) (let e : end + (ranks - end) ≡ ranks = omega arith in e) in
        omega (arith, next, more, all, sum_by-map f (rank_from_end ranks) (indexes_of pieces claimed end), sum_by-map f (rank_from_end ranks) (indexes_of pieces claimed ranks))

-- ---- the indexes of all pieces

-- the indexes from the end, as ranks, are the ranks in the other order
from_end : (ranks first count : ℕ) → first + count ≡ ranks → map (rank_from_end ranks) (range_with_len 0 count) ≡ reverse (range_with_len first count)
from_end ranks first zero all = refl
from_end ranks first (suc count) all =
    let least : rank_from_end ranks (0 + count) ≡ first = omega (arith, all) in
    ap (map (rank_from_end ranks)) (range_more 0 count)
    ∙ map-append (rank_from_end ranks) (range_with_len 0 count) ((0 + count) ∷ [])
    ∙ ap (λ n. map (rank_from_end ranks) (range_with_len 0 count) ++ n ∷ []) least
    ∙ ap (λ l. l ++ first ∷ []) (from_end ranks (first + 1) count (omega (arith, all)))
    ∙ sym (reverse-append (first ∷ []) (range_with_len (first + 1) count))

-- where each number is claimed once, a sum over the ranks of these numbers is the sum over all ranks
pub sum_of_ranks : (f : ℕ → ℕ) (coding : Coding) (pieces : ℕ) (claimed : List ℕ) → 1 ≤ pieces → IsPermutation claimed (range_with_len 0 pieces)
    → sum_by f (flat_map (ranks_of coding pieces) claimed) ≡ sum_by f (range_with_len 0 (length coding.items))
sum_of_ranks f coding pieces claimed some same =
    let ranks = length coding.items in
    let all = range_with_len 0 ranks in
    let at = rank_from_end ranks in
    sum_by-flat_map f (ranks_of coding pieces) claimed
    ∙ sym (sum_by-IsPermutation (λ piece. sum_by f (ranks_of coding pieces piece)) claimed (range_with_len 0 pieces) same)
    ∙ sum_by-same (λ piece. sum_by f (ranks_of coding pieces piece)) (λ piece. sum_by (λ index. f (at index)) (indexes_of pieces piece ranks)) (range_with_len 0 pieces) (λ piece. sum_by-map f at (indexes_of pieces piece ranks))
    ∙ parts_add_up (λ index. f (at index)) (λ index. index % pieces) pieces all (λ k d here. mod_below (get_or all k d) pieces some)
    ∙ sym (sum_by-map f at all)
    ∙ ap (sum_by f) (from_end ranks 0 ranks (zero-add ranks))
    ∙ sum_by-IsPermutation f all (reverse all) (IsPermutation-reverse all)
