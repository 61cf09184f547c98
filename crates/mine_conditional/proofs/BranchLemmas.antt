-- Whether baskets are a single branch, by the lengths of the paths of their runs.
use Rattle.std.proofs.Common.{◌≡◌, ℕ, ◌+◌, ◌-◌, ◌<◌, ◌≤◌, Bool, true, false, List, [], ◌∷◌, filter, length, cond, eqb, ltb, refl, sym, ap, ◌∙◌, subst, inl, inr, arith, zero, suc}
use Rattle.std.proofs.lemmas.Grind.{common_steps}
use Rattle.std.specs.Prelude.{not}
use Rattle.std.specs.List.{list_all, range_with_len}
use Rattle.std.proofs.lemmas.Bool.{cases_Bool, cases_lt, eq-eqb, eqb-true, lt-ltb}
use Rattle.std.proofs.lemmas.List.Elements.{recursion_from_All}
use Rattle.std.proofs.lemmas.List.FromFn.{length-range_with_len}
use Rattle.std.proofs.lemmas.List.Sums.{sum_by-cons}
use Rattle.basket_sets.specs.declared.weighted.Weighted.{Weighted}
use Rattle.basket_sets.specs.Counts.{AllBelow}
use Rattle.basket_sets.specs.Database.{weighted}
use Rattle.basket_sets.specs.Itemset.{IsRising, contains, has}
use Rattle.basket_sets.proofs.theory.Members.{Member, Member-filter, Member-from_filter, Member-from_map, Member-map, at_Member}
use Rattle.basket_sets.proofs.theory.Rising.{contains_each, first_below, has-from_Member, has_each, length-le-contains, rest_rises}
use Rattle.basket_sets.proofs.theory.Tests.{all_of, each_of}
use Rattle.basket_sets.proofs.theory.Ranges.{Member-range, range_rises}
use Rattle.mine_baskets.specs.declared.span.Span.{Span}
use Rattle.mine_baskets.specs.declared.baskets.Baskets.{Baskets}
use Rattle.mine_baskets.specs.Baskets.{baskets_in}
use Rattle.mine_baskets.specs.ListBaskets.{AreRankBaskets, HaveSameWeights, IsRankBasket, RankBaskets, weight_where}
use Rattle.mine_pairs.specs.Runs.{below}
use Rattle.mine_baskets.specs.Span.{IsWithin, basket_at}
use Rattle.mine_pairs.proofs.theory.Runs.{length-range}
use Rattle.mine_conditional.proofs.theory.Branches.{AreHeavy, IsFullAt, from_picked, into_picked}
use Rattle.mine_conditional.specs.Paths.{is_branch}

-- ---- rising lists that fill a range

abbrev IsInRange : ℕ → ℕ → List ℕ → Type 0
IsInRange a n xs = (y : ℕ) → Member y xs → (a ≤ y) × (y < a + n)

at_most : (n a : ℕ) (xs : List ℕ) → IsRising xs → IsInRange a n xs → length xs ≤ n
at_most n a [] up within = omega arith
at_most zero a (x ∷ xs) up within = let low = (within x (inl refl)).0 in let high = (within x (inl refl)).1 in absurd (omega arith)
at_most (suc n) a (x ∷ xs) up within =
    let rest = at_most n (a + 1) xs (rest_rises x xs up) (λ y m.
    let low = (within x (inl refl)).0 in let more = first_below x xs up y m in let high = (within y (inr m)).1 in (omega arith, omega arith)) in
    omega arith

fills : (n a : ℕ) (xs : List ℕ) → IsRising xs → IsInRange a n xs → length xs ≡ n → (z : ℕ) → a ≤ z → z < a + n → Member z xs
fills zero a xs up within long z low high = absurd (omega arith)
fills (suc n) a [] up within long z low high = absurd (omega arith)
fills (suc n) a (x ∷ xs) up within long z low high =
    let first = within x (inl refl) in
    elim (cases_lt a x) [
      | inl more ↦
          (let short = at_most n (a + 1) (x ∷ xs) up (λ y m. let top = (within y m).1 in (later y m more, omega arith)) in
          absurd (omega arith))
      | inr less ↦
          (let from = first.0 in
          elim (cases_lt a z) [
            | inl above ↦ inr (fills n (a + 1) xs (rest_rises x xs up) (λ y m.
                let next = first_below x xs up y m in let top = (within y (inr m)).1 in (omega arith, omega arith)) (omega arith) z (omega arith) (omega arith))
            | inr at ↦ inl (omega arith)
          ])
    ]
  where
    later : (y : ℕ) → Member y (x ∷ xs) → a < x → a + 1 ≤ y
    later h1 h2 h3 = grind (arith, common_steps, first_below)

-- ---- weights

weightless : (test : List ℕ → Bool) (receipts : List Weighted) → AreHeavy receipts → weight_where test receipts ≡ 0 → (receipt : Weighted) → Member receipt receipts → test receipt.basket ≡ false
weightless test [] heavy none receipt m = absurd m
weightless test (p ∷ receipts) heavy none receipt m =
    let sum = sum_by-cons (λ (q : Weighted). cond (test q.basket) q.weight 0) p receipts in
    elim m [
      | inl e ↦ elim (cases_Bool (test p.basket)) [
        | inl h ↦
            (let whole : cond (test p.basket) p.weight 0 ≡ p.weight = ap (λ b. cond b p.weight 0) h in
            let weighs = heavy p (inl refl) in
            absurd (omega arith))
        | inr h ↦ ap (λ (q : Weighted). test q.basket) (sym e) ∙ h
      ]
      | inr n ↦ (let rest : weight_where test receipts ≡ 0 = omega arith in weightless test receipts (λ q k. heavy q (inr k)) rest receipt n)
    ]

no_weight : (test : List ℕ → Bool) (receipts : List Weighted) → ((receipt : Weighted) → Member receipt receipts → test receipt.basket ≡ false) → weight_where test receipts ≡ 0
no_weight test [] fail = refl
no_weight test (p ∷ receipts) fail =
    sum_by-cons (λ (q : Weighted). cond (test q.basket) q.weight 0) p receipts
    ∙ ap (λ b. cond b p.weight 0 + weight_where test receipts) (fail p (inl refl)) ∙ (let rest = no_weight test receipts (λ q m. fail q (inr m)) in omega arith)

-- ---- runs

pub branch_from_full : (count : ℕ) (baskets : List Weighted) → ((receipt : Weighted) → Member receipt baskets → AllBelow count receipt.basket) → ((rank : ℕ) → rank < count → IsFullAt rank baskets) → is_branch baskets ≡ true
branch_from_full count baskets low full = grind (arith, common_steps, all_of, has-from_Member)

module _ (value : RankBaskets) (rank : ℕ) (paths : Baskets) (count : paths.count ≡ rank) (weights : HaveSameWeights (below rank value.baskets) (baskets_in paths)) (ranked : AreRankBaskets value) where
  abbrev ranks : List ℕ
  ranks = paths.ranks.now

  abbrev runs : List Span
  runs = paths.spans.now

  abbrev lacks : List ℕ → Bool
  lacks basket = not (contains basket (range_with_len 0 rank))

  abbrev is_whole : Span → Bool
  is_whole run = eqb (run.end - run.start) rank

  abbrev has_rank : Weighted → Bool
  has_rank receipt = has receipt.basket rank

  abbrev lower_part : Weighted → Weighted
  lower_part receipt = weighted (filter (λ other. ltb other rank) receipt.basket) receipt.weight

  abbrev receipts : List Weighted
  receipts = baskets_in paths

  run_basket : (receipt : Weighted) → Member receipt receipts → IsRankBasket rank receipt
  run_basket receipt m = subst (λ n. IsRankBasket n receipt) count (at_Member (IsRankBasket paths.count) receipt receipts (recursion_from_All (IsRankBasket paths.count) receipts paths.ranked.each) m)

  run_within : (run : Span) → Member run runs → IsWithin (length ranks) run
  run_within run m = at_Member (IsWithin (length ranks)) run runs (recursion_from_All (IsWithin (length ranks)) runs paths.within) m

  heavy : AreHeavy value.baskets
  heavy receipt m = (at_Member (IsRankBasket value.ranks) receipt value.baskets (recursion_from_All (IsRankBasket value.ranks) value.baskets ranked.each) m).weighs

  below_heavy : AreHeavy (below rank value.baskets)
  below_heavy receipt m = let p = from_picked has_rank lower_part value.baskets receipt m in subst (λ (q : Weighted). 1 ≤ q.weight) p.3 (heavy p.0 p.1)

  lower_contains : (receipt : Weighted) → contains receipt.basket (range_with_len 0 rank) ≡ true → contains (lower_part receipt).basket (range_with_len 0 rank) ≡ true
  lower_contains receipt h = grind (arith, common_steps, contains_each, Member-from_filter, has_each, lt-ltb, Member-range)

  not_lacking : (basket : List ℕ) → lacks basket ≡ false → contains basket (range_with_len 0 rank) ≡ true
  not_lacking basket h = grind (arith, common_steps)

  in_range : (receipt : Weighted) → Member receipt receipts → IsInRange 0 rank receipt.basket
  in_range receipt m y n = (omega arith, (let less = (run_basket receipt m).below y (has-from_Member receipt.basket y n) in omega arith))

  whole_full : (run : Span) → Member run runs → is_whole run ≡ true → lacks (basket_at ranks run).basket ≡ false
  whole_full run m h =
      let receipt = basket_at ranks run in
      let n = Member-map (basket_at ranks) run runs m in
      let long = length-range ranks run (run_within run m) ∙ eqb-true (run.end - run.start) rank h in
      ap not (contains_each receipt.basket (range_with_len 0 rank) (λ z k. fills rank 0 receipt.basket (run_basket receipt n).rises (in_range receipt n) long z (omega arith) (let less = (Member-range 0 rank z k).1 in omega arith)))

  full_whole : (run : Span) → Member run runs → lacks (basket_at ranks run).basket ≡ false → is_whole run ≡ true
  full_whole run m h =
      let receipt = basket_at ranks run in
      let n = Member-map (basket_at ranks) run runs m in
      let short = at_most rank 0 receipt.basket (run_basket receipt n).rises (in_range receipt n) in
      let more = length-le-contains (range_with_len 0 rank) receipt.basket (range_rises 0 rank) (run_basket receipt n).rises (has_each receipt.basket (range_with_len 0 rank) (not_lacking receipt.basket h)) in
      eq-eqb (run.end - run.start) rank (omega (arith, length-range ranks run (run_within run m), short, more, length-range_with_len 0 rank))

  pub full_by_runs : list_all is_whole runs ≡ true → IsFullAt rank value.baskets
  full_by_runs h receipt m here =
      let none : weight_where lacks receipts ≡ 0 = no_weight lacks receipts (λ p n.
      let r = Member-from_map (basket_at ranks) p runs n in
      ap (λ (q : Weighted). lacks q.basket) (sym r.2) ∙ whole_full r.0 r.1 (each_of is_whole runs h r.0 r.1)) in
      let lower = not_lacking (lower_part receipt).basket (weightless lacks (below rank value.baskets) below_heavy (weights lacks ∙ none) (lower_part receipt) (into_picked has_rank lower_part value.baskets receipt m here)) in
      contains_each receipt.basket (range_with_len 0 rank) (λ r n.
      (Member-filter (λ other. ltb other rank) r receipt.basket (has_each (lower_part receipt).basket (range_with_len 0 rank) lower r n)).0)

  pub runs_by_full : IsFullAt rank value.baskets → list_all is_whole runs ≡ true
  runs_by_full full =
      let none : weight_where lacks (below rank value.baskets) ≡ 0 = no_weight lacks (below rank value.baskets) (λ p n.
      let r = from_picked has_rank lower_part value.baskets p n in
      ap (λ (q : Weighted). lacks q.basket) (sym r.3) ∙ ap not (lower_contains r.0 (full r.0 r.1 r.2))) in
      all_of is_whole runs (λ run m.
      full_whole run m (weightless lacks receipts (λ p n. (run_basket p n).weighs) (sym (weights lacks) ∙ none) (basket_at ranks run) (Member-map (basket_at ranks) run runs m)))
