-- The frequent items in the order of their ranks, and the ranks of items.
use Rattle.std.proofs.Common.{◌≡◌, ◌≢◌, ℕ, ◌+◌, ◌<◌, Bool, true, false, List, [], ◌∷◌, ◌++◌, length, take, get_or, map, cond, eqb, Option, Some, None, refl, sym, ap, ◌∙◌, subst, inl, inr, ◌⊎◌, arith, zero, suc}
use Rattle.std.proofs.lemmas.Grind.{common_steps}
use Rattle.std.specs.declared.cmp.Ordering.{Ordering}
use Rattle.std.specs.declared.cmp.Ordering.TheVariants.{Less}
use Rattle.std.specs.Ordering.{ordering_reverse, is_lt, is_eq, eq_by_cmp}
use Rattle.std.specs.Cmp.{IsTotalOrder, nat_cmp_total}
use Rattle.std.specs.Prelude.{nat_eq}
use Rattle.std.specs.List.{IsDistinct, filter}
use Rattle.std.specs.List.Sorted.{IsStrictlySortedBy, IsPermutation, IsSorted}
use Rattle.std.proofs.lemmas.Cmp.{then_total, on_total, back_total}
use Rattle.std.proofs.lemmas.Bool.{cond-true, cond-false, cond_both, cases_eq, eqb-true, eq-eqb, ne_eqb, true≢false}
use Rattle.std.proofs.lemmas.Bool.Decides.{nat_tests}
use Rattle.std.proofs.lemmas.List.{take_more, get_or-take, get_or_default, length-take}
use Rattle.std.proofs.lemmas.List.Sorted.{IsPermutation-map}
use Rattle.std.proofs.lemmas.Simd.{map-map}
use Rattle.std.proofs.lemmas.Map.Keys.{IsDistinct-IsPermutation, apart_from_distinct}
use Rattle.basket_ranks.specs.Codes.{rank_order, with_entry, ranked, rank_from, rank_of}
use Rattle.basket_sets.specs.Itemset.{IsRising}
use Rattle.basket_ranks.specs.declared.ranks.RankedItem.{RankedItem}
use Rattle.basket_ranks.specs.Ranks.{entries_of, entry_of}
use Rattle.basket_sets.proofs.theory.Members.{Member, All-from_Member, at_Member, Member-map, Member-from_map, Member-filter, Contains-from_Member}
use Rattle.basket_sets.proofs.theory.Rising.{cons_rises, first_below, nil_rises, rest_rises, rising_distinct}
use Rattle.basket_sets.proofs.theory.Sorting.{less_from_test, sorted_is}

-- ---- the order of ranks

pub rank_order_total : IsTotalOrder rank_order
rank_order_total = then_total (back_total (on_total (λ (e : ℕ × ℕ). e.1) nat_cmp_total)) (on_total (λ (e : ℕ × ℕ). e.0) nat_cmp_total)

-- entries of two items are told apart
apart_entries : (a b : ℕ × ℕ) → a.0 ≢ b.0 → eq_by_cmp rank_order a b ≡ false
apart_entries a b ne = grind (arith, common_steps)

-- entries whose items rise are distinct
pub distinct_entries : (entries : List (ℕ × ℕ)) → IsRising (map (λ e. e.0) entries) → IsDistinct (eq_by_cmp rank_order) entries
unfolding IsDistinct
distinct_entries [] up = tt
distinct_entries (e ∷ entries) up = (
  All-from_Member (λ f. eq_by_cmp rank_order e f ≡ false) entries
      (λ f m. apart_entries e f (λ same. let b = first_below e.0 (map (λ x. x.0) entries) up f.0 (Member-map (λ (x : ℕ × ℕ). x.0) f entries m) in omega arith)),
  distinct_entries entries (rest_rises e.0 (map (λ x. x.0) entries) up),
)

-- the entries that pass a test rise as all do
pub filter_rises : (p : ℕ × ℕ → Bool) (entries : List (ℕ × ℕ)) → IsRising (map (λ e. e.0) entries) → IsRising (map (λ e. e.0) (filter p entries))
filter_rises p [] up = nil_rises
filter_rises p (e ∷ entries) up =
    let rest = filter_rises p entries (rest_rises e.0 (map (λ x. x.0) entries) up) in
    cond_both (p e) (e ∷ filter p entries) (filter p entries) (λ l. IsRising (map (λ x. x.0) l)) (λ kept. cons_rises e.0 (map (λ x. x.0) (filter p entries)) below rest) (λ left. rest)
  where
    below : (y : ℕ) → Member y (map (λ (x : ℕ × ℕ). x.0) (filter p entries)) → e.0 < y
    below y m =
        let f = Member-from_map (λ (x : ℕ × ℕ). x.0) y (filter p entries) m in
        subst (λ z. e.0 < z) f.2 (first_below e.0 (map (λ x. x.0) entries) up f.0.0 (Member-map (λ (x : ℕ × ℕ). x.0) f.0 entries (Member-filter p f.0 entries f.1).0))

-- ---- entries in the order of ranks

pub Member-with_entry : (e : ℕ × ℕ) (xs : List (ℕ × ℕ)) (x : ℕ × ℕ) → Member x (with_entry e xs) → (e ≡ x) ⊎ Member x xs
Member-with_entry e [] x (inl s) = inl s
Member-with_entry e [] x (inr m) = absurd m
Member-with_entry e (f ∷ xs) x m = cond_both (is_lt (rank_order e f)) (e ∷ f ∷ xs) (f ∷ with_entry e xs) (λ l. Member x l → (e ≡ x) ⊎ Member x (f ∷ xs)) (λ less n. n)
    (λ more n. elim n [ inl s ↦ inr (inl s) | inr k ↦ elim (Member-with_entry e xs x k) [ inl s ↦ inl s | inr own ↦ inr (inr own) ] ]) m

pub Member-into_with_entry : (e : ℕ × ℕ) (xs : List (ℕ × ℕ)) (x : ℕ × ℕ) → (e ≡ x) ⊎ Member x xs → Member x (with_entry e xs)
Member-into_with_entry e [] x (inl s) = inl s
Member-into_with_entry e [] x (inr m) = absurd m
Member-into_with_entry e (f ∷ xs) x m = cond_both (is_lt (rank_order e f)) (e ∷ f ∷ xs) (f ∷ with_entry e xs) (Member x) (λ less. m) (λ more. elim m [
  | inl s ↦ inr (Member-into_with_entry e xs x (inl s))
  | inr k ↦ elim k [ inl s ↦ inl s | inr n ↦ inr (Member-into_with_entry e xs x (inr n)) ]
])

pub Member-ranked : (entries : List (ℕ × ℕ)) (x : ℕ × ℕ) → Member x (ranked entries) → Member x entries
Member-ranked [] x m = m
Member-ranked (e ∷ entries) x m = elim (Member-with_entry e (ranked entries) x m) [ inl s ↦ inl s | inr n ↦ inr (Member-ranked entries x n) ]

pub Member-into_ranked : (entries : List (ℕ × ℕ)) (x : ℕ × ℕ) → Member x entries → Member x (ranked entries)
Member-into_ranked [] x m = m
Member-into_ranked (e ∷ entries) x (inl s) = Member-into_with_entry e (ranked entries) x (inl s)
Member-into_ranked (e ∷ entries) x (inr m) = Member-into_with_entry e (ranked entries) x (inr (Member-into_ranked entries x m))

not_less : (r s : Ordering) → s ≡ ordering_reverse r → is_lt r ≡ false → is_eq r ≡ false → s ≡ Less
not_less h1 h2 h3 h4 h5 = grind (arith, common_steps)

with_entry_sorted : (e : ℕ × ℕ) (xs : List (ℕ × ℕ)) → IsStrictlySortedBy rank_order xs → ((x : ℕ × ℕ) → Member x xs → eq_by_cmp rank_order e x ≡ false)
    → IsStrictlySortedBy rank_order (with_entry e xs)
unfolding IsStrictlySortedBy
with_entry_sorted e [] up apart = (tt, tt)
with_entry_sorted e (f ∷ xs) up apart = cond_both (is_lt (rank_order e f)) (e ∷ f ∷ xs) (f ∷ with_entry e xs) (IsStrictlySortedBy rank_order)
    (λ less. (All-from_Member (λ z. rank_order e z ≡ Less) (f ∷ xs) (before less), up))
    (λ more. (All-from_Member (λ z. rank_order f z ≡ Less) (with_entry e xs) (after more), with_entry_sorted e xs up.1 (λ x m. apart x (inr m))))
  where
    o : IsTotalOrder rank_order
    o = rank_order_total

    before : is_lt (rank_order e f) ≡ true → (z : ℕ × ℕ) → Member z (f ∷ xs) → rank_order e z ≡ Less
    before less z (inl s) = subst (λ w. rank_order e w ≡ Less) s (less_from_test (rank_order e f) less)
    before less z (inr m) = o.trans e f z (less_from_test (rank_order e f) less) (at_Member (λ w. rank_order f w ≡ Less) z xs up.0 m)

    after : is_lt (rank_order e f) ≡ false → (z : ℕ × ℕ) → Member z (with_entry e xs) → rank_order f z ≡ Less
    after more z m = elim (Member-with_entry e xs z m) [
      | inl s ↦ subst (λ w. rank_order f w ≡ Less) s (not_less (rank_order e f) (rank_order f e) (o.antisymm f e) more (apart f (inl refl)))
      | inr n ↦ at_Member (λ w. rank_order f w ≡ Less) z xs up.0 n
    ]

pub ranked_sorted : (entries : List (ℕ × ℕ)) → IsDistinct (eq_by_cmp rank_order) entries → IsStrictlySortedBy rank_order (ranked entries)
unfolding IsDistinct IsStrictlySortedBy
ranked_sorted [] apart = tt
ranked_sorted (e ∷ entries) apart =
    with_entry_sorted e (ranked entries) (ranked_sorted entries apart.1) (λ x m. at_Member (λ y. eq_by_cmp rank_order e y ≡ false) x entries apart.0 (Member-ranked entries x m))

-- a sort by rank of entries whose items rise
pub sorted_ranks : (entries sorted : List (ℕ × ℕ)) → IsRising (map (λ e. e.0) entries) → IsPermutation entries sorted → IsSorted rank_order sorted → sorted ≡ ranked entries
sorted_ranks entries sorted up moved in_order =
    let apart = distinct_entries entries up in
    sorted_is rank_order_total entries sorted (ranked entries) apart moved in_order (ranked_sorted entries apart)
    (λ z m. Member-into_ranked entries z m) (λ z m. Member-ranked entries z m)

flips : (x y : ℕ) → nat_eq x y ≡ nat_eq y x
flips x y = grind (arith, nat_tests)

-- their items are distinct
pub ranks_distinct : (entries sorted : List (ℕ × ℕ)) → IsRising (map (λ e. e.0) entries) → IsPermutation entries sorted → IsDistinct nat_eq (map (λ e. e.0) sorted)
ranks_distinct entries sorted up moved =
    IsDistinct-IsPermutation nat_eq flips (map (λ e. e.0) entries) (map (λ e. e.0) sorted) (IsPermutation-map (λ (e : ℕ × ℕ). e.0) entries sorted moved) (rising_distinct _ up)

-- ---- the rank of an item

abbrev after : ℕ → ℕ → ℕ → Option ℕ → Option ℕ
after number last item (Some rank) = Some rank
after number last item None = cond (eqb last item) (Some number) None

rank_from-push : (number : ℕ) (items : List ℕ) (last item : ℕ) → rank_from number (items ++ last ∷ []) item ≡ after (number + length items) last item (rank_from number items item)
rank_from-push number [] last item = ap (λ n. cond (eqb last item) (Some n) None) (omega arith)
rank_from-push number (x ∷ items) last item = grind (arith, common_steps, rank_from-push (number + 1) items last item)

-- an item that is not there has no rank
pub no_rank : (number : ℕ) (items : List ℕ) (item : ℕ) → (Member item items → ⊥) → rank_from number items item ≡ None
no_rank number [] item none = refl
no_rank number (x ∷ items) item none =
    ap (λ b. cond b (Some number) (rank_from (number + 1) items item)) (ne_eqb x item (λ e. none (inl e))) ∙ no_rank (number + 1) items item (λ m. none (inr m))

-- each of distinct items has its index as its rank
pub rank_at : (number : ℕ) (items : List ℕ) (i d : ℕ) → IsDistinct nat_eq items → i < length items → rank_from number items (get_or items i d) ≡ Some (number + i)
unfolding IsDistinct
rank_at number [] i d apart below = absurd (omega arith)
rank_at number (x ∷ items) zero d apart below = grind (arith, common_steps)
rank_at number (x ∷ items) (suc i) d apart below = grind (arith, common_steps, rank_at (number + 1) items i d apart.1 (omega arith))

-- an item that has a rank stands at that index
pub rank_from_is : (number : ℕ) (items : List ℕ) (item rank : ℕ) → rank_from number items item ≡ Some rank → (k : ℕ) × (k < length items) × (rank ≡ number + k) × (get_or items k 0 ≡ item)
rank_from_is number [] item rank e = absurd cc
rank_from_is number (x ∷ items) item rank e = cond_both (eqb x item) (Some number) (rank_from (number + 1) items item)
    (λ found. found ≡ Some rank → (k : ℕ) × (k < suc (length items)) × (rank ≡ number + k) × (get_or (x ∷ items) k 0 ≡ item))
    (λ same p. (0, omega arith, (let q : number ≡ rank = cc in omega arith), eqb-true x item same))
    (λ other p. let r = rank_from_is (number + 1) items item rank p in (suc r.0, omega (arith, r.1), omega (arith, r.2), r.3)) e

-- ---- a table from items to ranks

-- one item more
rank_more : (ranked : List ℕ) (i item : ℕ) → i < length ranked → rank_of (take (i + 1) ranked) item ≡ after i (get_or ranked i 0) item (rank_of (take i ranked) item)
rank_more ranked i item below = grind (arith, common_steps, take_more ranked i 0 below, rank_from-push 0 (take i ranked) (get_or ranked i 0) item, length-take i ranked)

after_other : (number last item : ℕ) (o : Option ℕ) → last ≢ item → after number last item o ≡ o
after_other h1 h2 h3 h4 h5 = grind (arith, common_steps)

-- a later item has no rank among those before it
not_yet : (ranked : List ℕ) (i : ℕ) → IsDistinct nat_eq ranked → i < length ranked → rank_of (take i ranked) (get_or ranked i 0) ≡ None
not_yet ranked i apart below = no_rank 0 (take i ranked) (get_or ranked i 0) (λ m.
    let c = Contains-from_Member (get_or ranked i 0) (take i ranked) m in
    let short = length-take i ranked in
    let at : get_or ranked c.0 0 ≡ get_or ranked i 0 = sym (get_or-take i ranked c.0 0 (omega (arith, c.1))) ∙ get_or_default (take i ranked) c.0 0 (get_or ranked i 0) c.1 ∙ c.2 in
    true≢false (sym (eq-eqb _ _ at) ∙ apart_from_distinct nat_eq ranked c.0 i 0 apart (omega (arith, c.1)) below))

pub rank_next : (ranked : List ℕ) (i item : ℕ) → IsDistinct nat_eq ranked → i < length ranked
    → rank_of (take (i + 1) ranked) item ≡ cond (eqb (get_or ranked i 0) item) (Some i) (rank_of (take i ranked) item)
rank_next ranked i item apart below = grind (arith, common_steps, rank_more, cases_eq, not_yet, cond-true, eq-eqb, after_other, cond-false)

pub items_of_entries : (entries : List RankedItem) → map (λ e. e.item) entries ≡ map (λ e. e.0) (entries_of entries)
items_of_entries entries = sym (map-map (λ (e : ℕ × ℕ). e.0) entry_of entries)
