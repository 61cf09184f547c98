-- Which sets of a consistent list are marked, and what is kept of them.
use Rattle.std.proofs.Common.{◌≡◌, ℕ, ◌<◌, ◌≤◌, Bool, true, not, eqb, ◌&&◌, List, [], ◌∷◌, length, get_or, refl, sym, ap, ◌∙◌, subst, inl, inr, arith}
use Rattle.std.proofs.lemmas.Grind.{common_steps}
use Rattle.std.specs.List.{list_all}
use Rattle.std.proofs.lemmas.Bool.{and_parts, and_from, eqb-true, eq-eqb}
use Rattle.basket_sets.specs.declared.counted.Counted.{Counted}
use Rattle.basket_sets.specs.Itemset.{contains, with_item}
use Rattle.basket_sets.proofs.theory.Members.{Contains-from_Member}
use Rattle.basket_rules.specs.Consistency.{IsConsistent}
use Rattle.basket_rules.specs.Listed.{set_at, count_at}
use Rattle.basket_rules.specs.Subset.{IsWithout}
use Rattle.basket_rules.specs.declared.covered.Supersets.{Supersets}
use Rattle.basket_rules.specs.declared.covered.Supersets.TheVariants.{All, SameCount}
use Rattle.basket_rules.specs.Covered.{AreMarks, HasSuperset, IsBetween, IsMark}
use Rattle.basket_rules.specs.Condensed.{is_proper_superset, is_closed_in, is_maximal_in, closed_in, maximal_in}
use Rattle.basket_lists.specs.CountedSets.{AreUnmarked}
use Rattle.basket_rules.proofs.SubsetLemmas.{none_alike, not_true, true_not, contains_without, without_lacks, placed, item_more, contains_less, contains_with_item}
use Rattle.basket_rules.proofs.SearchLemmas.{none, set_is, count_is, entry_listed, stands_once}
use Rattle.basket_rules.proofs.theory.Condensed.{with_item_nonempty}
use Rattle.basket_rules.proofs.theory.Consistency.{set_nonempty, subset_stands}
use Rattle.basket_sets.proofs.theory.Numerals.{and_true}

-- ---- the entries of a list

module _ (list : List Counted) where
  abbrev entry : ℕ → Counted
  entry k = record { set = set_at list k; count = count_at list k }

  entry_is : (k : ℕ) (d : Counted) → k < length list → entry k ≡ get_or list k d
  entry_is k d below = λ i. record { set = set_is list k d below i; count = count_is list k d below i }

  -- none passes a test exactly where there is no mark, if an entry that passes gives a mark and a mark such an entry
  marked_alike : (test : Counted → Bool) (mark : Bool) → (mark ≡ true → (k : ℕ) × (k < length list) × (test (entry k) ≡ true)) → ((k : ℕ) → k < length list → test (entry k) ≡ true → mark ≡ true)
      → list_all (λ c. not (test c)) list ≡ not mark
  marked_alike test mark some each = none_alike test (λ b. b) list (mark ∷ [])
      (λ c m e. let p = Contains-from_Member c list m in (mark, inl refl, each p.0 p.1 (subst (λ x. test x ≡ true) (sym (entry_is p.0 c p.1 ∙ p.2)) e)))
      (λ b m e. elim m [
        | inl is ↦ (let p = some (is ∙ e) in (get_or list p.0 none, entry_listed list p.0 p.1, subst (λ x. test x ≡ true) (entry_is p.0 none p.1) p.2))
        | inr no' ↦ absurd no'
      ])
      ∙ and_true (not mark)

-- ---- the marks

module _ (list : List Counted) (consistent : IsConsistent list) where
  -- a set with one item more is a proper superset
  above_is_superset : (supersets : Supersets) (k : ℕ) → (a : HasSuperset list supersets k) → is_proper_superset (set_at list a.above) (set_at list k) ≡ true
  above_is_superset supersets k a = grind (arith, common_steps, and_from, contains_without, not_true, without_lacks, set_nonempty)

  -- the list has a set with one item more, whose count is between those of both
  pub record IsOneMore (k j : ℕ) : Type 0 where
    pub above : ℕ
    pub index : ℕ
    pub without : IsWithout list above index k
    pub no_lower : count_at list j ≤ count_at list above
    pub no_higher : count_at list above ≤ count_at list k

  -- it has where it has a proper superset
  one_more : (k j : ℕ) → k < length list → j < length list → is_proper_superset (set_at list j) (set_at list k) ≡ true → IsOneMore k j
  one_more k j below there h =
      let set = set_at list k in
      let other = set_at list j in
      let tests = and_parts (contains other set) (not (contains set other)) h in
      let more = item_more set other (true_not (contains set other) tests.1) in
      let nonempty = set_nonempty list consistent k below in
      let s = subset_stands list consistent j (with_item more.0 set) there (with_item_nonempty more.0 set nonempty.0) (contains_with_item more.0 set other more.1 tests.0) in
      let p = placed more.0 set more.2 in
      let back = subset_stands list consistent s.index set s.listed nonempty (subst (λ t. contains t set ≡ true) (sym s.is) (contains_less more.0 set)) in
      let same = ap (count_at list) (stands_once list back.index k consistent.in_order back.listed below back.is) in
      grind (arith, common_steps)

  closed_at : (k : ℕ) (mark : Bool) → k < length list → IsMark list SameCount (IsBetween 0 (length list)) k mark → is_closed_in list (entry list k) ≡ not mark
  closed_at k mark below m = marked_alike list (λ o. is_proper_superset o.set (set_at list k) && eqb o.count (count_at list k)) mark
      (λ told. let a = m.some told in
      (a.above, a.without.listed, and_from (is_proper_superset (set_at list a.above) (set_at list k)) _ (above_is_superset SameCount k a) (eq-eqb (count_at list a.above) (count_at list k) a.matters)))
      (λ j there e. let tests = and_parts (is_proper_superset (set_at list j) (set_at list k)) (eqb (count_at list j) (count_at list k)) e in
      let o = one_more k j below there tests.0 in
      let same = eqb-true (count_at list j) (count_at list k) tests.1 in
      let low = o.no_lower in let high = o.no_higher in
      m.each consistent.in_order o.above o.index (omega arith, o.without.listed) o.without (omega (arith, same, low, high)))

  maximal_at : (k : ℕ) (mark : Bool) → k < length list → IsMark list All (IsBetween 0 (length list)) k mark → is_maximal_in list (entry list k) ≡ not mark
  maximal_at k mark below m = marked_alike list (λ o. is_proper_superset o.set (set_at list k)) mark
      (λ told. let a = m.some told in (a.above, a.without.listed, above_is_superset All k a))
      (λ j there e. let o = one_more k j below there e in m.each consistent.in_order o.above o.index (omega arith, o.without.listed) o.without tt)

-- ---- all sets

pub all_closed : (list : List Counted) (marks : List Bool) (kept : List Counted) → AreMarks list SameCount (IsBetween 0 (length list)) marks
    → AreUnmarked list marks kept → IsConsistent list → kept ≡ closed_in list
all_closed list marks kept marked so consistent = grind (arith, common_steps, entry_is, closed_at)

pub all_maximal : (list : List Counted) (marks : List Bool) (kept : List Counted) → AreMarks list All (IsBetween 0 (length list)) marks
    → AreUnmarked list marks kept → IsConsistent list → kept ≡ maximal_in list
all_maximal list marks kept marked so consistent = grind (arith, common_steps, entry_is, maximal_at)
