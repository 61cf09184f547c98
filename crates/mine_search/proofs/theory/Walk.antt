-- A search by the ranks that extend a set.
use Rattle.std.proofs.Common.{◌≡◌, ℕ, zero, suc, ◌+◌, ◌<◌, ◌≤◌, Bool, true, false, List, [], ◌∷◌, ◌++◌, length, get_or, take, cond, refl, sym, ap, ◌∙◌, arith}
use Rattle.std.proofs.lemmas.Grind.{common_steps}
use Rattle.std.specs.List.{filter, flat_map, range_with_len, sum_by}
use Rattle.std.proofs.lemmas.Bool.{true≢false}
use Rattle.std.proofs.lemmas.Grind.{flat_map-append}
use Rattle.std.proofs.lemmas.List.{append-nil}
use Rattle.std.proofs.lemmas.List.Sums.{count_by-le-length, length-filter, sum_by-append, sum_by-cons}
use Rattle.std.proofs.lemmas.List.FromFn.{length-range_with_len}
use Rattle.basket_sets.specs.Itemset.{IsRising}
use Rattle.basket_sets.proofs.theory.Members.{Member, Member-filter, Member-from_filter}
use Rattle.basket_sets.proofs.theory.Ranges.{Member-into_range, Member-range, filtered_range_rises, range_more}
use Rattle.mine_search.specs.Walk.{kept_below, sets_below, work_below}

module _ (test : List ℕ → Bool) where
  abbrev passes : List ℕ → ℕ → Bool
  passes set rank = test (rank ∷ set)

  pub kept_step : (rank : ℕ) (set : List ℕ) → kept_below test (suc rank) set ≡ kept_below test rank set ++ cond (test (rank ∷ set)) (rank ∷ []) []
  kept_step rank set = grind (arith, common_steps, range_more 0 rank)

  -- what the search finds by one rank: the set with the rank, and the sets that extend that
  abbrev pub branch : List ℕ → ℕ → List (List ℕ)
  branch set rank = (rank ∷ set) ∷ sets_below test rank (rank ∷ set)

  -- the work for one rank and for the sets that extend it
  abbrev pub branch_work : (List ℕ → ℕ) → List ℕ → ℕ → ℕ
  branch_work work set rank = work (rank ∷ set) + work_below work test rank (rank ∷ set)

  pub sets_are_branches : (below : ℕ) (set : List ℕ) → sets_below test below set ≡ flat_map (branch set) (kept_below test below set)
  sets_are_branches zero set = refl
  sets_are_branches (suc rank) set = grind (arith, common_steps, sets_are_branches rank set, kept_step, flat_map-append, append-nil)

  pub work_is_branches : (work : List ℕ → ℕ) (below : ℕ) (set : List ℕ) → work_below work test below set ≡ sum_by (branch_work work set) (kept_below test below set)
  work_is_branches work zero set = refl
  work_is_branches work (suc rank) set = grind (arith, common_steps, work_is_branches work rank set, kept_step, sum_by-append, sum_by-cons)

  -- the ranks before one of those that extend a set are those below it that do
  pub kept_before : (below : ℕ) (set : List ℕ) (i : ℕ) → i < length (kept_below test below set)
      → take i (kept_below test below set) ≡ kept_below test (get_or (kept_below test below set) i 0) set
  kept_before zero set i here = absurd (omega arith)
  kept_before (suc rank) set i here = grind (arith, common_steps, kept_step rank set, kept_before rank set i)

  -- the ranks that extend a set with one more rank are among those that extend the set
  pub kept_with : (rank : ℕ) (set : List ℕ) → ((other : ℕ) → test (other ∷ rank ∷ set) ≡ true → test (other ∷ set) ≡ true) → (below : ℕ)
      → kept_below test below (rank ∷ set) ≡ filter (λ other. test (other ∷ rank ∷ set)) (kept_below test below set)
  kept_with rank set falls below = within (range_with_len 0 below)
    where
      within : (xs : List ℕ) → filter (passes (rank ∷ set)) xs ≡ filter (passes (rank ∷ set)) (filter (passes set) xs)
      within [] = refl
      within (x ∷ xs) = at (passes (rank ∷ set) x) refl (passes set x) refl (within xs)
        where
          at : (b : Bool) → passes (rank ∷ set) x ≡ b → (k : Bool) → passes set x ≡ k → filter (passes (rank ∷ set)) xs ≡ filter (passes (rank ∷ set)) (filter (passes set) xs)
              → cond b (x ∷ filter (passes (rank ∷ set)) xs) (filter (passes (rank ∷ set)) xs) ≡ filter (passes (rank ∷ set)) (cond k (x ∷ filter (passes set) xs) (filter (passes set) xs))
          at b e true h rest = (λ i. cond b (x ∷ rest i) (rest i)) ∙ ap (λ t. cond t (x ∷ filter (passes (rank ∷ set)) (filter (passes set) xs)) (filter (passes (rank ∷ set)) (filter (passes set) xs))) (sym e)
          at true e false h rest = absurd (true≢false (sym (falls x e) ∙ h))
          at false e false h rest = rest

  -- they are below the number
  pub kept_lower : (below : ℕ) (set : List ℕ) (rank : ℕ) → Member rank (kept_below test below set) → rank < below
  kept_lower below set rank m = let r = Member-range 0 below rank (Member-filter (passes set) rank (range_with_len 0 below) m).0 in let high = r.1 in omega arith

  -- the set is frequent with each
  pub kept_passes : (below : ℕ) (set : List ℕ) (rank : ℕ) → Member rank (kept_below test below set) → test (rank ∷ set) ≡ true
  kept_passes below set rank m = (Member-filter (passes set) rank (range_with_len 0 below) m).1

  -- so there are at most so many
  pub kept_few : (below : ℕ) (set : List ℕ) → length (kept_below test below set) ≤ below
  kept_few below set = omega (arith, length-filter (passes set) (range_with_len 0 below), count_by-le-length (passes set) (range_with_len 0 below), length-range_with_len 0 below)

  -- they are all ranks below the number with which the set passes
  pub kept_has : (below : ℕ) (set : List ℕ) (rank : ℕ) → rank < below → test (rank ∷ set) ≡ true → Member rank (kept_below test below set)
  kept_has below set rank less h = Member-from_filter (passes set) rank (range_with_len 0 below) (Member-into_range 0 below rank (omega arith) (omega arith)) h

  -- they rise
  pub kept_rises : (below : ℕ) (set : List ℕ) → IsRising (kept_below test below set)
  kept_rises below set = filtered_range_rises (passes set) 0 below

  -- ---- work

  -- the work is that of each set that is found
  pub work_is_sum : (work : List ℕ → ℕ) (below : ℕ) (set : List ℕ) → work_below work test below set ≡ sum_by work (sets_below test below set)
  work_is_sum work zero set = refl
  work_is_sum work (suc rank) set =
      (λ i. work_is_sum work rank set i + one (work_is_sum work rank (rank ∷ set)) (test (rank ∷ set)) i)
      ∙ sym (sum_by-append work (sets_below test rank set) (cond (test (rank ∷ set)) ((rank ∷ set) ∷ sets_below test rank (rank ∷ set)) []))
    where
      one : work_below work test rank (rank ∷ set) ≡ sum_by work (sets_below test rank (rank ∷ set)) → (b : Bool)
          → cond b (work (rank ∷ set) + work_below work test rank (rank ∷ set)) 0 ≡ sum_by work (cond b ((rank ∷ set) ∷ sets_below test rank (rank ∷ set)) [])
      one deeper true = ap (λ n. work (rank ∷ set) + n) deeper ∙ sym (sum_by-cons work (rank ∷ set) (sets_below test rank (rank ∷ set)))
      one deeper false = refl

  -- there is none if no set that is longer takes any
  pub no_work_below : (work : List ℕ → ℕ) (set : List ℕ) → ((rank : ℕ) (more : List ℕ) → work (rank ∷ more ++ set) ≡ 0) → (below : ℕ) (more : List ℕ) → work_below work test below (more ++ set) ≡ 0
  no_work_below work set free zero more = refl
  no_work_below work set free (suc rank) more = grind (arith, common_steps, no_work_below work set free rank more, no_work_below work set free rank (rank ∷ more))
