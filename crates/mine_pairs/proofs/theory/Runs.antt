-- Runs of ranks.
use Rattle.std.proofs.Common.{◌≡◌, ℕ, ◌+◌, ◌-◌, ◌<◌, Bool, true, false, List, [], ◌∷◌, ◌++◌, length, get_or, set, cond, ltb, sym, ap, ◌∙◌, subst, inl, inr, arith, zero, suc, zero-add}
use Rattle.std.proofs.lemmas.Grind.{common_steps}
use Rattle.std.proofs.lemmas.Bool.{cases_lt}
use Rattle.std.specs.declared.alloc.Global.{Global}
use Rattle.std.specs.declared.vec.Vec.{Vec}
use Rattle.std.specs.List.{slice_range}
use Rattle.mine_baskets.specs.Span.{IsWithin}
use Rattle.std.proofs.lemmas.List.{get_or-map, get_or-set_same, get_or-set_other, length-map, length-set, map-set}
use Rattle.basket_sets.specs.Itemset.{IsRising}
use Rattle.basket_sets.specs.declared.weighted.Weighted.{Weighted}
use Rattle.mine_baskets.specs.declared.span.Span.{Span}
use Rattle.mine_pairs.specs.Runs.{AreRunsOf, HaveRuns, HaveRunsFrom, lists_in, with_last_heavier, with_run}
use Rattle.mine_baskets.specs.Span.{span_front}
use Rattle.basket_sets.proofs.theory.Tests.{rising_at}

pub heavier_is : (runs : List Span) (i : ℕ) (last : Span) (weight : ℕ) → i + 1 ≡ length runs → last ≡ get_or runs i last
    → set runs i (record { start = last.start; end = last.end; weight = last.weight + weight }) ≡ with_last_heavier weight runs
heavier_is [] i last weight at is = absurd (omega arith)
heavier_is (run ∷ []) zero last weight at is = ap (λ (r : Span). record { start = r.start; end = r.end; weight = r.weight + weight } ∷ []) is
heavier_is (run ∷ []) (suc i) last weight at is = absurd (omega arith)
heavier_is (run ∷ next ∷ runs) zero last weight at is = absurd (omega arith)
heavier_is (run ∷ next ∷ runs) (suc i) last weight at is = ap (λ rest. run ∷ rest) (heavier_is (next ∷ runs) i last weight (omega arith) is)

pub same_run : (run : Span) (runs : List Span) (same : Bool) → same ≡ true → with_last_heavier run.weight runs ≡ with_run same run runs
same_run run runs same e = ap (λ b. cond b (with_last_heavier run.weight runs) (runs ++ run ∷ [])) (sym e)

pub other_run : (run : Span) (runs : List Span) (same : Bool) → same ≡ false → runs ++ run ∷ [] ≡ with_run same run runs
other_run run runs same e = ap (λ b. cond b (with_last_heavier run.weight runs) (runs ++ run ∷ [])) (sym e)

-- ---- lists of runs

pub list_at : (of : List (Vec Span Global)) (rank : ℕ) (d : Vec Span Global) → rank < length of → get_or (lists_in of) rank [] ≡ (get_or of rank d).items
list_at of rank d below = get_or-map (λ (v : Vec Span Global). v.items) of rank d [] below

pub lists_in-set : (of : List (Vec Span Global)) (rank : ℕ) (v : Vec Span Global) → lists_in (set of rank v) ≡ set (lists_in of) rank v.items
lists_in-set of rank v = map-set (λ (w : Vec Span Global). w.items) of rank v

pub length-lists_in : (of : List (Vec Span Global)) → length (lists_in of) ≡ length of
length-lists_in of = length-map of (λ (v : Vec Span Global). v.items)

-- the runs of a rank, and the list of ranks in which they lie, as they are lent
pub runs_at : (ranks lent : List ℕ) (baskets : List Weighted) (count : ℕ) (of : List (Vec Span Global)) (rank : ℕ) (own : Vec Span Global) (runs : List Span)
    → HaveRunsFrom 0 count ranks baskets (lists_in of) → rank < count → own ≡ get_or of rank own → runs ≡ own.items → lent ≡ ranks → AreRunsOf lent baskets rank runs
runs_at ranks lent baskets count of rank own runs have here is same lends =
    let list = list_at of rank own (omega (arith, here, have.long, length-lists_in of)) in
    subst (λ l. AreRunsOf l baskets rank runs) (sym lends)
    (subst (AreRunsOf ranks baskets rank) (list ∙ ap (λ (v : Vec Span Global). v.items) (sym is) ∙ sym same)
    (subst (λ r. AreRunsOf ranks baskets r (get_or (lists_in of) rank [])) (zero-add rank) (have.are rank here)))

-- ---- the runs of each rank

module _ (path : List ℕ) (basket : Span) (shared first : ℕ) (old : List (List Span)) (up : IsRising path) (depth : ℕ) (now : List (List Span)) (have : HaveRuns path basket shared depth first old now)
    (below : depth < length path) where
  -- the runs of the next rank, which has a number, are as they were
  pub untouched : (n : ℕ) → get_or path depth 0 ≡ first + n → get_or now n [] ≡ get_or old n []
  untouched n is = have.off n (λ k less same. let rises = rising_at path k depth up less below in omega (arith, is, same))

  pub have_more : (n : ℕ) → get_or path depth 0 ≡ first + n → n < length now
      → HaveRuns path basket shared (depth + 1) first old (set now n (with_run (ltb depth shared) (span_front basket depth) (get_or now n [])))
  have_more n is here = record {
    long = length-set now n run ∙ have.long;
    on = λ k m less inside at. elim (cases_lt k depth) [
      | inl before ↦ grind (arith, common_steps, rising_at, get_or-set_other, run)
      | inr after ↦ grind (arith, common_steps, get_or-set_same, untouched, run)
    ];
    off = λ m other. get_or-set_other now n m run [] (λ same. other depth (omega arith) (is ∙ ap (λ j. first + j) (sym same))) ∙ have.off m (λ k less. other k (omega arith));
  }
    where
      run : List Span
      run = with_run (ltb depth shared) (span_front basket depth) (get_or now n [])

  -- the next rank has no number
  pub have_outside : ((n : ℕ) → n < length old → get_or path depth 0 ≡ first + n → ⊥) → HaveRuns path basket shared (depth + 1) first old now
  have_outside none = record {
    long = have.long;
    on = λ k m less inside at. elim (cases_lt k depth) [
      | inl before ↦ have.on k m before inside at
      | inr after ↦ absurd (none m inside (ap (λ j. get_or path j 0) (omega (arith, less, after)) ∙ at))
    ];
    off = λ m other. have.off m (λ k less. other k (omega arith));
  }

pub length-range : (ranks : List ℕ) (span : Span) → IsWithin (length ranks) span → length (slice_range ranks span.start span.end) ≡ span.end - span.start
length-range ranks span within = grind (arith, common_steps)
