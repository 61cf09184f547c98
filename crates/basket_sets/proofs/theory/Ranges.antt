-- Numbers in a row, and what a test keeps of numbers.
use Rattle.std.proofs.Common.{◌≡◌, ℕ, ◌+◌, ◌<◌, ◌≤◌, Bool, true, false, List, [], ◌∷◌, ◌++◌, cond, refl, ap, ◌∙◌, inl, inr, arith, add-one, zero, suc}
use Rattle.std.proofs.lemmas.Grind.{common_steps}
use Rattle.std.specs.List.{filter, range_with_len}
use Rattle.std.specs.Ordering.{nat_cmp}
use Rattle.std.proofs.lemmas.Bool.{cases_eq}
use Rattle.std.proofs.lemmas.List.{append-nil}
use Rattle.std.proofs.lemmas.List.Elements.{filter-append}
use Rattle.std.proofs.lemmas.List.Kept.{IsStrictlySortedBy-filter}
use Rattle.basket_sets.specs.Itemset.{IsRising}
use Rattle.basket_sets.proofs.theory.Members.{Member}
use Rattle.basket_sets.proofs.theory.Rising.{cons_rises, nil_rises}

pub Member-range : (a n x : ℕ) → Member x (range_with_len a n) → (a ≤ x) × (x < a + n)
Member-range a zero x m = absurd m
Member-range a (suc n) x (inl e) = (omega arith, omega arith)
Member-range a (suc n) x (inr m) = let r = Member-range (a + 1) n x m in let low = r.0 in let high = r.1 in (omega arith, omega arith)

pub Member-into_range : (a n x : ℕ) → a ≤ x → x < a + n → Member x (range_with_len a n)
Member-into_range a zero x low high = absurd (omega arith)
Member-into_range a (suc n) x low high = elim (cases_eq a x) [
  | inl e ↦ inl e
  | inr differ ↦ inr (Member-into_range (a + 1) n x (omega arith) (omega arith))
]

pub range_rises : (a n : ℕ) → IsRising (range_with_len a n)
range_rises a zero = nil_rises
range_rises a (suc n) = cons_rises a (range_with_len (a + 1) n) (λ y m. let r = Member-range (a + 1) n y m in let low = r.0 in omega arith) (range_rises (a + 1) n)

pub range_more : (a n : ℕ) → range_with_len a (suc n) ≡ range_with_len a n ++ (a + n) ∷ []
range_more a zero = ap (λ m. m ∷ []) (omega arith)
range_more a (suc n) = ap (λ l. a ∷ l) (range_more (a + 1) n ∙ ap (λ m. range_with_len (a + 1) n ++ m ∷ []) (omega arith))

pub range_next : (n : ℕ) → range_with_len 0 (n + 1) ≡ range_with_len 0 n ++ n ∷ []
range_next n = let zero_and : 0 + n ≡ n = omega arith in ap (range_with_len 0) (add-one n) ∙ range_more 0 n ∙ ap (λ m. range_with_len 0 n ++ m ∷ []) zero_and

pub filter_rises : (p : ℕ → Bool) (xs : List ℕ) → IsRising xs → IsRising (filter p xs)
filter_rises p xs up = IsStrictlySortedBy-filter nat_cmp p xs up

-- tests that agree on the members keep the same
pub filter_members : {X : Type 0} (p q : X → Bool) (xs : List X) → ((x : X) → Member x xs → p x ≡ q x) → filter p xs ≡ filter q xs
filter_members p q [] same = refl
filter_members p q (x ∷ xs) same =
    ap (λ b. cond b (x ∷ filter p xs) (filter p xs)) (same x (inl refl)) ∙ ap (λ l. cond (q x) (x ∷ l) l) (filter_members p q xs (λ y m. same y (inr m)))

pub filtered_range_rises : (p : ℕ → Bool) (a n : ℕ) → IsRising (filter p (range_with_len a n))
filtered_range_rises p a n = IsStrictlySortedBy-filter nat_cmp p (range_with_len a n) (range_rises a n)

-- one more number that passes a test, or doesn't
pub range_keeps : (p : ℕ → Bool) (n : ℕ) → p n ≡ true → filter p (range_with_len 0 (n + 1)) ≡ filter p (range_with_len 0 n) ++ n ∷ []
range_keeps p n h = ap (filter p) (range_next n) ∙ filter-append p (range_with_len 0 n) (n ∷ []) ∙ ap (λ b. filter p (range_with_len 0 n) ++ cond b (n ∷ []) []) h

pub range_drops : (p : ℕ → Bool) (n : ℕ) → p n ≡ false → filter p (range_with_len 0 (n + 1)) ≡ filter p (range_with_len 0 n)
range_drops p n h = grind (arith, common_steps, range_next, filter-append, append-nil)
