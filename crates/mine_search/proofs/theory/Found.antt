-- What a search finds: each set that passes the test, once.
use Rattle.std.proofs.Common.{◌≡◌, ℕ, zero, suc, ◌<◌, Bool, true, false, List, [], ◌∷◌, ◌++◌, length, cond, refl, sym, ap, ◌∙◌, subst, inl, inr, arith, append_assoc, length-append}
use Rattle.std.proofs.lemmas.Grind.{common_steps}
use Rattle.std.specs.Prelude.{nat_eq}
use Rattle.std.specs.Cmp.Lexicographic.{pointwise}
use Rattle.std.specs.List.{IsDistinct}
use Rattle.std.proofs.lemmas.List.{append_cancel_right}
use Rattle.std.proofs.lemmas.Bool.{cases_eq, eq-eqb}
use Rattle.basket_sets.specs.Frequent.{IsNonemptySet}
use Rattle.mine_classes.specs.Classes.{ends_in}
use Rattle.basket_sets.specs.Itemset.{IsRising}
use Rattle.basket_sets.proofs.theory.Members.{Member, All-from_Member, Member-append, Member-append_left, Member-append_right}
use Rattle.basket_sets.proofs.theory.Rising.{cons_rises, first_below, front_rises, nil_rises, rest_rises}
use Rattle.mine_classes.proofs.theory.Greatest.{ends_push, front_of}
use Rattle.mine_classes.proofs.theory.Lists.{apart, distinct-append}
use Rattle.mine_search.specs.Walk.{sets_below}

-- the last of a list
pub split_last : (x : ℕ) (xs : List ℕ) → (front : List ℕ) × (last : ℕ) × (x ∷ xs ≡ front ++ last ∷ [])
split_last x [] = ([], x, refl)
split_last x (y ∷ ys) = let (front, last, is) = split_last y ys in (x ∷ front, last, ap (λ l. x ∷ l) is)

pub front_below : (front : List ℕ) (last : ℕ) → IsRising (front ++ last ∷ []) → (item : ℕ) → Member item front → item < last
front_below [] last up item m = absurd m
front_below (x ∷ front) last up item (inl e) = subst (λ y. y < last) e (first_below x (front ++ last ∷ []) up last (Member-append_right last front (last ∷ []) (inl refl)))
front_below (x ∷ front) last up item (inr m) = front_below front last (rest_rises x (front ++ last ∷ []) up) item m

pub push_rises : (front : List ℕ) (last : ℕ) → ((rank : ℕ) → Member rank front → rank < last) → IsRising front → IsRising (front ++ last ∷ [])
push_rises [] last low up = cons_rises last [] (λ y m. absurd m) nil_rises
push_rises (x ∷ front) last low up =
    cons_rises x (front ++ last ∷ []) (λ y m. elim (Member-append y front (last ∷ []) m) [
      | inl n ↦ first_below x front up y n
      | inr (inl e) ↦ subst (λ z. x < z) e (low x (inl refl))
      | inr (inr n) ↦ absurd n
    ]) (push_rises front last (λ rank m. low rank (inr m)) (rest_rises x front up))

module _ (test : List ℕ → Bool) where
  -- what is found by one rank
  abbrev by_rank : Bool → ℕ → List ℕ → List (List ℕ)
  by_rank b rank set = cond b ((rank ∷ set) ∷ sets_below test rank (rank ∷ set)) []

  -- a set that is found passes the test, and has one or more ranks below the number before the set that it extends
  pub record IsFound (below : ℕ) (set found : List ℕ) : Type 0 where
    pub first : ℕ
    pub others : List ℕ
    pub is : found ≡ (first ∷ others) ++ set
    pub rises : IsRising (first ∷ others)
    pub lower : (rank : ℕ) → Member rank (first ∷ others) → rank < below
    pub passes : test found ≡ true

  pub from_sets : (below : ℕ) (set found : List ℕ) → Member found (sets_below test below set) → IsFound below set found
  from_sets zero set found m = absurd m
  from_sets (suc rank) set found m = elim (Member-append found (sets_below test rank set) (by_rank (test (rank ∷ set)) rank set) m) [
    | inl n ↦ (let f = from_sets rank set found n in record { first = f.first; others = f.others; is = f.is; rises = f.rises; lower = λ r k. (let low = f.lower r k in omega arith); passes = f.passes })
    | inr n ↦ at (test (rank ∷ set)) refl (from_sets rank (rank ∷ set) found) n
  ]
    where
      at : (b : Bool) → test (rank ∷ set) ≡ b → (Member found (sets_below test rank (rank ∷ set)) → IsFound rank (rank ∷ set) found) → Member found (by_rank b rank set) → IsFound (suc rank) set found
      at true e deeper (inl is) = record {
        first = rank;
        others = [];
        is = sym is;
        rises = push_rises [] rank (λ r k. absurd k) nil_rises;
        lower = λ r k. elim k [ inl same ↦ omega arith | inr none ↦ absurd none ];
        passes = ap test (sym is) ∙ e;
      }
      at true e deeper (inr d) = (let f = deeper d in record {
        first = f.first;
        others = f.others ++ rank ∷ [];
        is = f.is ∙ sym (append_assoc (f.first ∷ f.others) (rank ∷ []) set);
        rises = push_rises (f.first ∷ f.others) rank f.lower f.rises;
        lower = λ r k. elim (Member-append r (f.first ∷ f.others) (rank ∷ []) k) [ inl n ↦ (let low = f.lower r n in omega arith) | inr (inl same) ↦ omega arith | inr (inr none) ↦ absurd none ];
        passes = f.passes;
      })
      at false e deeper k = absurd k

  -- so it is longer than the set
  longer : (below : ℕ) (set found : List ℕ) → Member found (sets_below test below set) → length set < length found
  longer below set found m = let f = from_sets below set found m in omega (arith, ap length f.is, length-append (f.first ∷ f.others) set)

  -- each set that passes, where each set so far does, is found
  pub into_sets : (falls : (a b : List ℕ) → test (a ++ b) ≡ true → test b ≡ true) (below : ℕ) (x : ℕ) (xs set : List ℕ) → IsRising (x ∷ xs) → ((rank : ℕ) → Member rank (x ∷ xs) → rank < below)
      → test ((x ∷ xs) ++ set) ≡ true → Member ((x ∷ xs) ++ set) (sets_below test below set)
  into_sets falls zero x xs set up lower h = (let less = lower x (inl refl) in absurd (omega arith))
  into_sets falls (suc rank) x xs set up lower h =
      let (front, last, is) = split_last x xs in
      let ups = subst IsRising is up in
      let last_low = lower last (subst (Member last) (sym is) (Member-append_right last front (last ∷ []) (inl refl))) in
      elim (cases_eq last rank) [
        | inl e ↦
            (let whole : (x ∷ xs) ++ set ≡ front ++ rank ∷ set = ap (λ l. l ++ set) is ∙ append_assoc front (last ∷ []) set ∙ ap (λ r. front ++ r ∷ set) e in
            let passes = falls front (rank ∷ set) (subst (λ s. test s ≡ true) whole h) in
            subst (λ s. Member s (sets_below test (suc rank) set)) (sym whole)
            (Member-append_right (front ++ rank ∷ set) (sets_below test rank set) (by_rank (test (rank ∷ set)) rank set)
            (subst (λ b. Member (front ++ rank ∷ set) (by_rank b rank set)) (sym passes)
            (last_one front (λ y ys f. into_sets falls rank y ys (rank ∷ set) (subst IsRising f (front_rises front last ups)) (λ z m. let less = front_below front last ups z (subst (Member z) (sym f) m) in omega arith)
            (subst (λ s. test (s ++ rank ∷ set) ≡ true) f (subst (λ s. test s ≡ true) whole h)))))))
        | inr differ ↦
            Member-append_left ((x ∷ xs) ++ set) (sets_below test rank set) (by_rank (test (rank ∷ set)) rank set)
            (into_sets falls rank x xs set up (λ z m. elim (Member-append z front (last ∷ []) (subst (Member z) is m)) [
              | inl n ↦ (let less = front_below front last ups z n in omega arith)
              | inr n ↦ (let same = only z last n in omega arith)
            ]) h)
      ]
    where
      only : (z last : ℕ) → Member z (last ∷ []) → last ≡ z
      only z last (inl e) = e
      only z last (inr n) = absurd n

      last_one : (front : List ℕ) → ((y : ℕ) (ys : List ℕ) → front ≡ y ∷ ys → Member ((y ∷ ys) ++ rank ∷ set) (sets_below test rank (rank ∷ set))) → Member (front ++ rank ∷ set) ((rank ∷ set) ∷ sets_below test rank (rank ∷ set))
      last_one [] deeper = inl refl
      last_one (y ∷ ys) deeper = inr (deeper y ys refl)

  -- each once
  apart_from : (below : ℕ) (set : List ℕ) → IsDistinct (pointwise nat_eq) (sets_below test below set) → IsDistinct (pointwise nat_eq) (set ∷ sets_below test below set)
  unfolding IsDistinct
  apart_from below set distinct = grind (arith, common_steps, All-from_Member, apart, longer)

  pub sets_distinct : (below : ℕ) (set : List ℕ) → IsDistinct (pointwise nat_eq) (sets_below test below set)
  unfolding IsDistinct
  sets_distinct zero set = tt
  sets_distinct (suc rank) set =
      distinct-append (pointwise nat_eq) (sets_below test rank set) (by_rank (test (rank ∷ set)) rank set) (sets_distinct rank set)
      (at (test (rank ∷ set)) (apart_from rank (rank ∷ set) (sets_distinct rank (rank ∷ set))))
      (λ a b m n. apart a b (λ e.
      let f = from_sets rank set a m in
      let (front, is) = with_rank (test (rank ∷ set)) b n in
      let same = append_cancel_right (f.first ∷ f.others) (front ++ rank ∷ []) set (sym f.is ∙ e ∙ is) in
      let low = f.lower rank (subst (Member rank) (sym same) (Member-append_right rank front (rank ∷ []) (inl refl))) in omega arith))
    where
      at : (b : Bool) → IsDistinct (pointwise nat_eq) ((rank ∷ set) ∷ sets_below test rank (rank ∷ set)) → IsDistinct (pointwise nat_eq) (by_rank b rank set)
      at true deeper = deeper
      at false deeper = tt

      with_rank : (b : Bool) (found : List ℕ) → Member found (by_rank b rank set) → (front : List ℕ) × (found ≡ (front ++ rank ∷ []) ++ set)
      with_rank true found (inl is) = ([], sym is)
      with_rank true found (inr d) = let f = from_sets rank (rank ∷ set) found d in (f.first ∷ f.others, f.is ∙ sym (append_assoc (f.first ∷ f.others) (rank ∷ []) set))
      with_rank false found d = absurd d

  -- ---- the class of a rank

  pub class_distinct : (rank : ℕ) → IsDistinct (pointwise nat_eq) ((rank ∷ []) ∷ sets_below test rank (rank ∷ []))
  class_distinct rank = apart_from rank (rank ∷ []) (sets_distinct rank (rank ∷ []))

  pub class_sound : (rank : ℕ) → test (rank ∷ []) ≡ true → (set : List ℕ) → Member set ((rank ∷ []) ∷ sets_below test rank (rank ∷ [])) → IsNonemptySet set × (ends_in rank set ≡ true) × (test set ≡ true)
  class_sound rank passes set (inl is) = subst (λ s. IsNonemptySet s × (ends_in rank s ≡ true) × (test s ≡ true)) is ((push_rises [] rank (λ r k. absurd k) nil_rises, λ e. absurd cc), eq-eqb rank rank refl, passes)
  class_sound rank passes set (inr m) =
      let f = from_sets rank (rank ∷ []) set m in (
        (subst IsRising (sym f.is) (push_rises (f.first ∷ f.others) rank f.lower f.rises), λ e. (let more = longer rank (rank ∷ []) set m in let none = ap length e in absurd (omega arith))),
        ap (ends_in rank) f.is ∙ ends_push rank rank (f.first ∷ f.others) ∙ eq-eqb rank rank refl,
        f.passes,
      )

  pub class_complete : (falls : (a b : List ℕ) → test (a ++ b) ≡ true → test b ≡ true) (rank : ℕ) (set : List ℕ) → IsRising set → ends_in rank set ≡ true → test set ≡ true
      → Member set ((rank ∷ []) ∷ sets_below test rank (rank ∷ []))
  class_complete falls rank set up ends h =
      let (front, is) = front_of rank set ends in
      subst (λ s. Member s ((rank ∷ []) ∷ sets_below test rank (rank ∷ []))) (sym is) (at front (subst IsRising is up) (subst (λ s. test s ≡ true) is h))
    where
      at : (front : List ℕ) → IsRising (front ++ rank ∷ []) → test (front ++ rank ∷ []) ≡ true → Member (front ++ rank ∷ []) ((rank ∷ []) ∷ sets_below test rank (rank ∷ []))
      at [] rises passes = inl refl
      at (y ∷ ys) rises passes = inr (into_sets falls rank y ys (rank ∷ []) (front_rises (y ∷ ys) rank rises) (λ z m. front_below (y ∷ ys) rank rises z m) passes)
