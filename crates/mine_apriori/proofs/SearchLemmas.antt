-- What one comparison in a sorted list of sets says of the sets beside it, and when a search is over.
use Rattle.std.proofs.Common.{◌≡◌, ℕ, ◌<◌, ◌≤◌, ◌+◌, true, false, List, [], length, get_or, sym, ap, ◌∙◌, subst, inl, inr, arith}
use Rattle.std.specs.declared.cmp.Ordering.{Ordering}
use Rattle.std.specs.declared.cmp.Ordering.TheVariants.{Less, Equal, Greater}
use Rattle.std.specs.Ordering.{nat_cmp, is_eq, ordering_reverse}
use Rattle.std.specs.Cmp.Lexicographic.{slice_cmp, bytes_decides, texts_ties, nat_list_cmp_total}
use Rattle.std.specs.List.Sorted.{IsStrictlySortedBy}
use Rattle.std.proofs.lemmas.Bool.{cases_Bool, cases_eq, cases_lt}
use Rattle.std.proofs.lemmas.List.{get_or_default}
use Rattle.std.proofs.lemmas.Map.Keys.{Less-from_sorted}
use Rattle.basket_sets.proofs.theory.Members.{Member-from_Contains, Contains-from_Member, not_both_less}
use Rattle.mine_apriori.specs.Candidates.{is_one_of}
use Rattle.mine_apriori.proofs.PruneLemmas.{Member-from_is_one_of, is_one_of-from_Member}

abbrev pub IsBefore : List ℕ → List ℕ → Type 0
IsBefore one other = slice_cmp nat_cmp one other ≡ Less

module _ (sets : List (List ℕ)) (key : List ℕ) where
  -- the set at an index compares as it did where it was read
  pub compared : (at : ℕ) (read : List ℕ) (o : Ordering) → at < length sets → read ≡ get_or sets at read → slice_cmp nat_cmp read key ≡ o → slice_cmp nat_cmp (get_or sets at []) key ≡ o
  compared at read o below is e = ap (λ set. slice_cmp nat_cmp set key) (get_or_default sets at [] read below ∙ sym is) ∙ e

  pub found_at : (at : ℕ) → slice_cmp nat_cmp (get_or sets at []) key ≡ Equal → get_or sets at [] ≡ key
  found_at at e = (bytes_decides (get_or sets at []) key).0 (texts_ties (get_or sets at []) key ∙ ap is_eq e)

  pub is_there : (at : ℕ) → at < length sets → get_or sets at [] ≡ key → true ≡ is_one_of sets key
  is_there at below same = sym (is_one_of-from_Member sets key (Member-from_Contains key sets (at, below, get_or_default sets at key [] below ∙ same)))

  module _ (up : IsStrictlySortedBy (slice_cmp nat_cmp) sets) where
    pub smaller_to : (at : ℕ) → at < length sets → IsBefore (get_or sets at []) key → (k : ℕ) → k < at + 1 → IsBefore (get_or sets k []) key
    smaller_to at below less k low = elim (cases_eq k at) [
      | inl same ↦ subst (λ n. IsBefore (get_or sets n []) key) (sym same) less
      | inr differ ↦ nat_list_cmp_total.trans (get_or sets k []) (get_or sets at []) key (Less-from_sorted (slice_cmp nat_cmp) sets k at [] up (omega arith) below) less
    ]

    pub greater_from : (at : ℕ) → slice_cmp nat_cmp (get_or sets at []) key ≡ Greater → (k : ℕ) → at ≤ k → k < length sets → IsBefore key (get_or sets k [])
    greater_from at more k high below =
        let before = nat_list_cmp_total.antisymm key (get_or sets at []) ∙ ap ordering_reverse more in
        elim (cases_eq k at) [
          | inl same ↦ subst (λ n. IsBefore key (get_or sets n [])) (sym same) before
          | inr differ ↦ nat_list_cmp_total.trans key (get_or sets at []) (get_or sets k []) before (Less-from_sorted (slice_cmp nat_cmp) sets at k [] up (omega arith) below)
        ]

  -- a search is over where every set was compared
  pub is_missing : (start end : ℕ) → end ≤ start → ((k : ℕ) → k < start → IsBefore (get_or sets k []) key) → ((k : ℕ) → end ≤ k → k < length sets → IsBefore key (get_or sets k [])) → false ≡ is_one_of sets key
  is_missing start end over smaller greater = elim (cases_Bool (is_one_of sets key)) [
    | inl e ↦ absurd (nowhere (Contains-from_Member key sets (Member-from_is_one_of sets key e)))
    | inr e ↦ sym e
  ]
    where
      apart : IsBefore key key → ⊥
      apart less = not_both_less nat_list_cmp_total key key less less

      nowhere : (k : ℕ) × (k < length sets) × (get_or sets k key ≡ key) → ⊥
      nowhere c =
          let same : key ≡ get_or sets c.0 [] = sym (get_or_default sets c.0 [] key c.1 ∙ c.2) in
          elim (cases_lt c.0 start) [
            | inl before ↦ apart (ap (λ set. slice_cmp nat_cmp set key) same ∙ smaller c.0 before)
            | inr after ↦ apart (ap (slice_cmp nat_cmp key) same ∙ greater c.0 (omega arith) c.1)
          ]
