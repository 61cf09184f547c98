-- LocalNumbers of ranks in a rising list.
use Rattle.std.proofs.Common.{◌≡◌, ℕ, unwrap_or, ◌+◌, ◌<◌, ◌≤◌, Bool, false, ◌||◌, List, [], ◌∷◌, ◌++◌, Option, Some, None, length, take, get_or, set, map, cond, eqb, refl, sym, ap, ◌∙◌, subst, inl, inr, arith, add-zero, zero-add, zero, suc}
use Rattle.std.proofs.lemmas.Grind.{common_steps}
use Rattle.std.specs.Prelude.{All, replicate}
use Rattle.std.specs.List.{AllByRecursion, cons_option, filter_map}
use Rattle.std.specs.Option.{is_some, option_to_list}
use mir.Val.{bool_byte}
use Rattle.std.proofs.lemmas.Bool.{cases_Bool, cases_eq, cases_lt, eq-eqb, ne_eqb}
use Rattle.std.proofs.lemmas.List.{ext_get_or, get_or_default, get_or-set_other, get_or-take, length-replicate, length-take, map-append, take_more}
use Rattle.std.proofs.lemmas.List.Elements.{All-from_recursion, recursion_from_All}
use Rattle.basket_sets.specs.declared.weighted.Weighted.{Weighted}
use Rattle.basket_ranks.specs.Codes.{coded, coded_basket, rank_from, rank_of}
use Rattle.basket_ranks.proofs.theory.Coding.{coded_basket_is, coded_total, from_ranks, into_ranks, ranks_rise}
use Rattle.basket_sets.specs.Database.{MOST_WEIGHT, weighted}
use Rattle.basket_sets.specs.Itemset.{IsRising, has}
use Rattle.basket_sets.proofs.theory.Members.{Member, Contains-from_Member}
use Rattle.basket_sets.proofs.theory.Rising.{Member-from_has, has-from_Member, cons_rises, first_below, nil_rises, rest_rises, same_rising}
use Rattle.basket_sets.proofs.theory.Tests.{Member-at, rising_at}
use Rattle.mine_baskets.specs.declared.span.Span.{Span}
use Rattle.mine_baskets.specs.ListBaskets.{AreRankBaskets, IsRankBasket}
use Rattle.mine_conditional.specs.LocalNumbers.{AreNumbers, HasNumbers, by_table, table_numbers}
use Rattle.mine_baskets.specs.Span.{IsWithin, baskets_at}
use Rattle.mine_baskets.proofs.theory.Neighbours.{pushed_basket}

pub index_le : (xs : List ℕ) (k : ℕ) → IsRising xs → k < length xs → k ≤ get_or xs k 0
index_le xs zero up here = omega arith
index_le xs (suc k) up here = let less = rising_at xs k (suc k) up (omega arith) here in let rest = index_le xs k up (omega arith) in omega arith

-- ---- the receipt of a rank

neither : (a b : Bool) → (a || b) ≡ false → (a ≡ false) × (b ≡ false)
neither h1 h2 h3 = grind (arith, common_steps)

rank_from_at : (number : ℕ) (kept : List ℕ) (k : ℕ) → IsRising kept → k < length kept → rank_from number kept (get_or kept k 0) ≡ Some (number + k)
rank_from_at number [] k up here = absurd (omega arith)
rank_from_at number (x ∷ kept) zero up here = ap (λ b. cond b (Some number) (rank_from (number + 1) kept x)) (eq-eqb x x refl) ∙ ap Some (sym (add-zero number))
rank_from_at number (x ∷ kept) (suc k) up here =
    let within : k < length kept = omega arith in
    let above = first_below x kept up (get_or kept k 0) (Member-at kept k within) in
    ap (λ b. cond b (Some number) (rank_from (number + 1) kept (get_or kept k 0))) (ne_eqb x (get_or kept k 0) (λ same. absurd (omega arith)))
    ∙ rank_from_at (number + 1) kept k (rest_rises x kept up) within ∙ (let e : number + 1 + k ≡ number + suc k = omega arith in ap Some e)

pub rank_from_none : (number : ℕ) (kept : List ℕ) (rank : ℕ) → has kept rank ≡ false → rank_from number kept rank ≡ None
rank_from_none number [] rank missing = refl
rank_from_none number (x ∷ kept) rank missing =
    let both = neither (eqb x rank) (has kept rank) missing in
    ap (λ b. cond b (Some number) (rank_from (number + 1) kept rank)) both.0 ∙ rank_from_none (number + 1) kept rank both.1

pub rank_at : (kept : List ℕ) (k : ℕ) → IsRising kept → k < length kept → rank_of kept (get_or kept k 0) ≡ Some k
rank_at kept k up here = rank_from_at 0 kept k up here ∙ ap Some (zero-add k)

-- ---- tables

module _ {T : Type 0} (made_of : Option ℕ → T) (kept : List ℕ) (up : IsRising kept) where
  -- what a table has at a rank is made of the rank's number
  pub table_at : (table : List T) (rank : ℕ) → HasNumbers made_of kept table → get_or table rank (made_of None) ≡ made_of (rank_of kept rank)
  table_at table rank has_each = elim (cases_Bool (has kept rank)) [
    | inl e ↦
        (let c = Contains-from_Member rank kept (Member-from_has kept rank e) in
        let at : get_or kept c.0 0 ≡ rank = get_or_default kept c.0 0 rank c.1 ∙ c.2 in
        ap (λ r. get_or table r (made_of None)) (sym at) ∙ has_each.at c.0 c.1 ∙ ap made_of (sym (ap (rank_of kept) (sym at) ∙ rank_at kept c.0 up c.1)))
    | inr e ↦ has_each.none rank e ∙ ap made_of (sym (rank_from_none 0 kept rank e))
  ]

  -- one number more is put there
  pub number_more : (i : ℕ) (table : List T) → i < length kept → get_or kept i 0 < length table → HasNumbers made_of (take i kept) table
      → HasNumbers made_of (take (i + 1) kept) (set table (get_or kept i 0) (made_of (Some i)))
  number_more i table here inside are = record {
    at = λ k below. (let within : k < i + 1 = omega (arith, below, length-take (i + 1) kept) in
        let same = get_or-take (i + 1) kept k 0 within in
        ap (λ r. get_or new r (made_of None)) same ∙ (elim (cases_lt k i) [
          | inl less ↦ grind (arith, common_steps, rising_at, get_or-take, get_or-set_other, length-take)
          | inr last ↦ grind (arith, common_steps)
        ]));
    none = λ rank missing. grind (arith, common_steps);
  }
    where
      new : List T
      new = set table (get_or kept i 0) (made_of (Some i))

pub all_none : {T : Type 0} (none : T) (count : ℕ) (table : List T) → length table ≡ count → ((rank : ℕ) → get_or table rank none ≡ none) → table ≡ replicate count none
all_none none count table long none_at = grind (arith, common_steps, ext_get_or none table (replicate count none) (long ∙ sym (length-replicate count none)), length-replicate count none)

-- ---- a basket's receipts

filter_map-push : (h : ℕ → Option ℕ) (xs : List ℕ) (x : ℕ) → filter_map h (xs ++ x ∷ []) ≡ filter_map h xs ++ option_to_list (h x)
filter_map-push h [] x = grind (arith, common_steps)
filter_map-push h (first ∷ xs) x = grind (arith, common_steps, filter_map-push h xs x)

pub numbers_more : (h : ℕ → Option ℕ) (basket : List ℕ) (i : ℕ) → i < length basket
    → filter_map h (take (i + 1) basket) ≡ filter_map h (take i basket) ++ option_to_list (h (get_or basket i 0))
numbers_more h basket i here = ap (filter_map h) (take_more basket i 0 here) ∙ filter_map-push h (take i basket) (get_or basket i 0)

-- what is put down for one rank more, over which the next is put where there is nothing for it
pub slot_put : (now front : List ℕ) (len : ℕ) (slot : Option ℕ) (more : ℕ) → len < length now → more ≡ bool_byte (is_some slot) → take len now ≡ front
    → take (len + more) (set now len (unwrap_or slot 0)) ≡ front ++ option_to_list slot
slot_put h1 h2 h3 h4 h5 h6 h7 h8 = grind (arith, common_steps)

-- ---- receipts as a coding

-- the receipts of those ranks of a basket that have one
abbrev pub numbers_in : List ℕ → List ℕ → List ℕ
numbers_in kept basket = filter_map (rank_of kept) basket

abbrev pub placed : List ℕ → Weighted → Weighted
placed kept receipt = weighted (numbers_in kept receipt.basket) receipt.weight

module _ (kept : List ℕ) (up : IsRising kept) where
  -- a rank that has a receipt stands there
  pub stands : (rank receipt : ℕ) → rank_of kept rank ≡ Some receipt → (receipt < length kept) × (get_or kept receipt 0 ≡ rank)
  stands rank receipt is = elim (cases_Bool (has kept rank)) [
    | inl e ↦
        (let c = Contains-from_Member rank kept (Member-from_has kept rank e) in
        let at = get_or_default kept c.0 0 rank c.1 ∙ c.2 in
        let same : c.0 ≡ receipt = some_same (sym (rank_at kept c.0 up c.1) ∙ ap (rank_of kept) at ∙ is) in
        (subst (λ k. k < length kept) same c.1, ap (λ k. get_or kept k 0) (sym same) ∙ at))
    | inr e ↦ (let no : None ≡ Some receipt = sym (rank_from_none 0 kept rank e) ∙ is in absurd cc)
  ]
    where
      some_same : {a b : ℕ} → Some a ≡ Some b → a ≡ b
      some_same e = cc

  pub from_numbers : (basket : List ℕ) (receipt : ℕ) → Member receipt (numbers_in kept basket) → (rank : ℕ) × Member rank basket × (rank_of kept rank ≡ Some receipt)
  from_numbers [] receipt m = absurd m
  from_numbers (first ∷ basket) receipt m = grind (arith, common_steps, from_numbers basket receipt)

  pub into_numbers : (basket : List ℕ) (rank receipt : ℕ) → Member rank basket → rank_of kept rank ≡ Some receipt → Member receipt (numbers_in kept basket)
  into_numbers [] rank receipt m is = absurd m
  into_numbers (first ∷ basket) rank receipt (inl same) is = grind (arith, common_steps)
  into_numbers (first ∷ basket) rank receipt (inr m) is = grind (arith, common_steps, into_numbers basket rank receipt m is)

  -- the receipts of a rising basket rise
  pub numbers_rise : (basket : List ℕ) → IsRising basket → IsRising (numbers_in kept basket)
  numbers_rise [] rises = nil_rises
  numbers_rise (first ∷ basket) rises = at (rank_of kept first) refl (numbers_rise basket (rest_rises first basket rises))
    where
      above : (y : ℕ) → rank_of kept first ≡ Some y → (z : ℕ) → Member z (numbers_in kept basket) → y < z
      above y e z m = elim (cases_lt y z) [
        | inl less ↦ less
        | inr not ↦
            (let r = from_numbers basket z m in
            let a = stands first y e in
            let b = stands r.0 z r.2 in
            let more = first_below first basket rises r.0 r.1 in
            let at_most : get_or kept z 0 ≤ get_or kept y 0 = no_more z y not a.0 in
            let x = a.1 in let w = b.1 in
            absurd (omega arith))
      ]
        where
          no_more : (i j : ℕ) → i ≤ j → j < length kept → get_or kept i 0 ≤ get_or kept j 0
          no_more i j le here = grind (arith, common_steps, cases_eq, rising_at)

      at : (o : Option ℕ) → rank_of kept first ≡ o → IsRising (numbers_in kept basket) → IsRising (cons_option o (numbers_in kept basket))
      at None e rest = rest
      at (Some y) e rest = cons_rises y (numbers_in kept basket) (above y e) rest

  -- they are the basket coded by the list
  pub numbers_are_coded : (basket : List ℕ) → IsRising basket → numbers_in kept basket ≡ coded kept basket
  numbers_are_coded basket rises = same_rising (numbers_in kept basket) (coded kept basket) (numbers_rise basket rises) (ranks_rise 0 kept basket)
      (λ receipt m. let r = from_numbers basket receipt m in
      let s = stands r.0 receipt r.2 in
      subst (λ n. Member n (coded kept basket)) (zero-add receipt) (into_ranks 0 kept basket receipt s.0 (has-from_Member basket (get_or kept receipt 0) (subst (λ x. Member x basket) (sym s.1) r.1))))
      (λ receipt m. let r = from_ranks 0 kept basket receipt m in
      let same : receipt ≡ r.0 = r.2 ∙ zero-add r.0 in
      into_numbers basket (get_or kept r.0 0) receipt (Member-from_has basket (get_or kept r.0 0) r.3) (rank_at kept r.0 up r.1 ∙ ap Some (sym same)))

  coded_each : (count : ℕ) (baskets : List Weighted) → AllByRecursion (IsRankBasket count) baskets → map (placed kept) baskets ≡ map (coded_basket kept) baskets
  coded_each count [] all = refl
  coded_each count (receipt ∷ baskets) all = grind (arith, common_steps, coded_each count baskets all.1, numbers_are_coded)

  pub all_coded : (count : ℕ) (baskets : List Weighted) → All (IsRankBasket count) baskets → map (placed kept) baskets ≡ map (coded_basket kept) baskets
  all_coded count baskets all = coded_each count baskets (recursion_from_All (IsRankBasket count) baskets all)

  -- and so are the receipts by a table
  pub table_coded : (of : List (Option ℕ)) (count : ℕ) (baskets : List Weighted) → AreNumbers kept of → All (IsRankBasket count) baskets → map (by_table of) baskets ≡ map (coded_basket kept) baskets
  table_coded of count baskets are all = (λ i. map (λ receipt. weighted (filter_map (λ rank. table_at (λ number. number) kept up of rank are i) receipt.basket) receipt.weight) baskets) ∙ all_coded count baskets all

-- coded baskets of ranks are baskets of ranks
pub coded_rank_baskets : (kept : List ℕ) (count : ℕ) (baskets : List Weighted) → AreRankBaskets (record { ranks = count; baskets = baskets })
    → AreRankBaskets (record { ranks = length kept; baskets = map (coded_basket kept) baskets })
coded_rank_baskets kept count baskets are = record {
  each = All-from_recursion (IsRankBasket (length kept)) (map (coded_basket kept) baskets) (each baskets (recursion_from_All (IsRankBasket count) baskets are.each));
  light = subst (λ n. n ≤ MOST_WEIGHT) (sym (coded_total kept baskets)) are.light;
}
  where
    each : (receipts : List Weighted) → AllByRecursion (IsRankBasket count) receipts → AllByRecursion (IsRankBasket (length kept)) (map (coded_basket kept) receipts)
    each [] all = tt
    each (receipt ∷ receipts) all = let is = coded_basket_is kept receipt in (record { rises = is.0; below = is.1; weighs = all.0.weighs }, each receipts all.1)

-- ---- the loops over baskets

pub placed_more : (baskets : List Weighted) (locals : List ℕ) (of : List (Option ℕ)) (spans : List Span) (i : ℕ) (basket : Weighted) (span : Span) → i < length baskets
    → basket ≡ get_or baskets i (weighted [] 0) → All (IsWithin (length locals)) spans → span.start ≡ length locals → span.end ≡ length locals + length (table_numbers of basket.basket) → span.weight ≡ basket.weight
    → baskets_at locals spans ≡ map (by_table of) (take i baskets) → baskets_at (locals ++ table_numbers of basket.basket) (spans ++ span ∷ []) ≡ map (by_table of) (take (i + 1) baskets)
placed_more baskets locals of spans i basket span here is within start end weight so_far = grind (arith, common_steps, pushed_basket, take_more, map-append)
