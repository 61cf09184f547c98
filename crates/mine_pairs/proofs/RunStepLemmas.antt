-- One basket more adds to the runs of its ranks.
use Rattle.std.proofs.Common.{◌≡◌, ℕ, ◌+◌, ◌<◌, ◌≤◌, Bool, true, false, List, [], ◌∷◌, ◌++◌, length, take, get_or, cond, ltb, refl, sym, ap, ◌∙◌, subst, inl, inr, arith, zero, suc}
use Rattle.std.proofs.lemmas.Grind.{common_steps}
use Rattle.std.specs.Prelude.{All}
use Rattle.std.specs.Cmp.Lexicographic.{bytes_decides}
use Rattle.std.specs.List.{AllByRecursion, filter, slice_range}
use Rattle.std.proofs.lemmas.Bool.{cases_Bool, lt-ltb, ltb-true}
use Rattle.std.proofs.lemmas.List.{map-append}
use Rattle.std.proofs.lemmas.List.Elements.{All-from_recursion, recursion_from_All}
use Rattle.basket_sets.specs.declared.weighted.Weighted.{Weighted}
use Rattle.basket_sets.specs.Database.{weighted}
use Rattle.basket_sets.specs.Itemset.{IsRising, has}
use Rattle.basket_sets.proofs.theory.Members.{Member}
use Rattle.basket_sets.proofs.theory.Rising.{first_below, rest_rises}
use Rattle.basket_sets.proofs.theory.Tests.{Member-at}
use Rattle.mine_baskets.specs.declared.span.Span.{Span}
use Rattle.mine_baskets.specs.ListBaskets.{IsRankBasket, repeats_last, weight_where, with_last_raised}
use Rattle.mine_pairs.specs.Runs.{AreRunsOf, below, with_last_heavier}
use Rattle.mine_baskets.specs.Span.{IsWithin, basket_at, baskets_at}
use Rattle.mine_baskets.proofs.theory.Neighbours.{raised_all, raised_weight, pushed_all}

-- ---- the ranks before a rank

filter_none : (p : ℕ → Bool) (xs : List ℕ) → ((x : ℕ) → Member x xs → p x ≡ false) → filter p xs ≡ []
filter_none p [] none = refl
filter_none p (x ∷ xs) none = ap (λ b. cond b (x ∷ filter p xs) (filter p xs)) (none x (inl refl)) ∙ filter_none p xs (λ y m. none y (inr m))

not_below : (x y : ℕ) → y ≤ x → ltb x y ≡ false
not_below x y le = elim (cases_Bool (ltb x y)) [ inl e ↦ absurd (let less = ltb-true x y e in omega arith) | inr e ↦ e ]

pub front_is : (path : List ℕ) (k : ℕ) → IsRising path → k < length path → filter (λ other. ltb other (get_or path k 0)) path ≡ take k path
front_is [] k up here = absurd (omega arith)
front_is (x ∷ path) zero up here =
    filter_none (λ other. ltb other x) (x ∷ path) after
  where
    after : (y : ℕ) → Member y (x ∷ path) → ltb y x ≡ false
    after h1 h2 = grind (arith, common_steps, not_below, first_below)
front_is (x ∷ path) (suc k) up here =
    ap (λ b. cond b (x ∷ filter (λ other. ltb other (get_or path k 0)) path) (filter (λ other. ltb other (get_or path k 0)) path))
    (lt-ltb x (get_or path k 0) (first_below x path up (get_or path k 0) (Member-at path k (omega arith))))
    ∙ ap (λ l. x ∷ l) (front_is path k (rest_rises x path up) (omega arith))

pub front_range : (ranks : List ℕ) (start end k : ℕ) → start + k ≤ end → slice_range ranks start (start + k) ≡ take k (slice_range ranks start end)
front_range ranks start end k within = grind (arith, common_steps)

-- ---- the baskets that have a rank

module _ (rank : ℕ) (index : Weighted) where
  abbrev keeps : ℕ → Bool
  keeps other = ltb other rank

  pub below_with : (done : List Weighted) → has index.basket rank ≡ true → below rank (done ++ index ∷ []) ≡ below rank done ++ weighted (filter keeps index.basket) index.weight ∷ []
  below_with done here = grind (arith, common_steps)

  pub below_without : (done : List Weighted) → has index.basket rank ≡ false → below rank (done ++ index ∷ []) ≡ below rank done
  below_without done none = grind (arith, common_steps)

-- ---- one run more, or a heavier one

pub heavier_baskets : (ranks : List ℕ) (weight : ℕ) (runs : List Span) → baskets_at ranks (with_last_heavier weight runs) ≡ with_last_raised weight (baskets_at ranks runs)
heavier_baskets ranks weight [] = refl
heavier_baskets ranks weight (run ∷ []) = refl
heavier_baskets ranks weight (run ∷ next ∷ runs) = ap (λ rest. basket_at ranks run ∷ rest) (heavier_baskets ranks weight (next ∷ runs))

heavier_within : (n weight : ℕ) (runs : List Span) → AllByRecursion (IsWithin n) runs → AllByRecursion (IsWithin n) (with_last_heavier weight runs)
heavier_within n weight [] all = tt
heavier_within n weight (run ∷ []) all = (record { ordered = all.0.ordered; within = all.0.within }, tt)
heavier_within n weight (run ∷ next ∷ runs) all = (all.0, heavier_within n weight (next ∷ runs) all.1)

pushed_within : (n : ℕ) (runs : List Span) (run : Span) → AllByRecursion (IsWithin n) runs → IsWithin n run → AllByRecursion (IsWithin n) (runs ++ run ∷ [])
pushed_within n [] run all one = (one, tt)
pushed_within n (first ∷ runs) run all one = (all.0, pushed_within n runs run all.1 one)

pub raised_repeats : (weight : ℕ) (receipts : List Weighted) (basket : List ℕ) → repeats_last (with_last_raised weight receipts) basket ≡ repeats_last receipts basket
raised_repeats weight [] basket = refl
raised_repeats weight (index ∷ []) basket = refl
raised_repeats weight (index ∷ next ∷ []) basket = refl
raised_repeats weight (index ∷ next ∷ third ∷ receipts) basket = raised_repeats weight (next ∷ third ∷ receipts) basket

pub pushed_repeats : (receipts : List Weighted) (index : Weighted) → repeats_last (receipts ++ index ∷ []) index.basket ≡ true
pushed_repeats [] index = (bytes_decides index.basket index.basket).1 refl
pushed_repeats (first ∷ []) index = (bytes_decides index.basket index.basket).1 refl
pushed_repeats (first ∷ second ∷ receipts) index = pushed_repeats (second ∷ receipts) index

heavier_basket : (rank : ℕ) (index : Weighted) (weight : ℕ) → IsRankBasket rank index → IsRankBasket rank (weighted index.basket (index.weight + weight))
heavier_basket rank index weight is = record { rises = is.rises; below = is.below; weighs = (let some = is.weighs in omega arith) }

-- the runs of a rank after a basket that has it at a depth
module _ (ranks : List ℕ) (rank : ℕ) (done : List Weighted) (index : Weighted) (run : Span) (runs : List Span) (here : has index.basket rank ≡ true) (is : IsRankBasket rank (basket_at ranks run))
    (run_is : basket_at ranks run ≡ weighted (filter (λ other. ltb other rank) index.basket) index.weight) (inside : IsWithin (length ranks) run) (are : AreRunsOf ranks done rank runs) where
  more_weight : (test : List ℕ → Bool) → weight_where test (below rank (done ++ index ∷ [])) ≡ weight_where test (baskets_at ranks runs) + cond (test (basket_at ranks run).basket) run.weight 0
  more_weight test = grind (arith, common_steps)

  pub pushed_are : AreRunsOf ranks (done ++ index ∷ []) rank (runs ++ run ∷ [])
  pushed_are = record {
    within = All-from_recursion (IsWithin (length ranks)) (runs ++ run ∷ []) (pushed_within (length ranks) runs run (recursion_from_All (IsWithin (length ranks)) runs are.within) inside);
    each = subst (All (IsRankBasket rank)) (sym (map-append (basket_at ranks) runs (run ∷ [])))
        (All-from_recursion (IsRankBasket rank) (baskets_at ranks runs ++ basket_at ranks run ∷ [])
        (pushed_all (IsRankBasket rank) (heavier_basket rank) (baskets_at ranks runs) (basket_at ranks run) (recursion_from_All (IsRankBasket rank) (baskets_at ranks runs) are.each) is));
    weights = λ test. grind (arith, common_steps);
  }

  pub heavier_are : repeats_last (baskets_at ranks runs) (basket_at ranks run).basket ≡ true → AreRunsOf ranks (done ++ index ∷ []) rank (with_last_heavier run.weight runs)
  heavier_are again = record {
    within = All-from_recursion (IsWithin (length ranks)) (with_last_heavier run.weight runs) (heavier_within (length ranks) run.weight runs (recursion_from_All (IsWithin (length ranks)) runs are.within));
    each = subst (All (IsRankBasket rank)) (sym (heavier_baskets ranks run.weight runs))
        (All-from_recursion (IsRankBasket rank) (with_last_raised run.weight (baskets_at ranks runs))
        (raised_all (IsRankBasket rank) (heavier_basket rank) run.weight (baskets_at ranks runs) (recursion_from_All (IsRankBasket rank) (baskets_at ranks runs) are.each)));
    weights = λ test. grind (arith, common_steps, more_weight, heavier_baskets, raised_weight);
  }
