-- How a cut list goes on.
use Rattle.std.proofs.Common.{◌≡◌, ℕ, Bool, true, false, not, List, [], ◌∷◌, ◌++◌, refl, sym, ap, ◌∙◌, inl, inr, append_assoc, fold}
use Rattle.std.specs.List.{list_all}
use Rattle.std.proofs.lemmas.Bool.{cases_Bool, and_parts, and_from, not-true}
use Rattle.std.proofs.lemmas.List.{append-nil}
use Rattle.std.proofs.lemmas.List.Sums.{fold_push, fold-append}
use Rattle.basket_read.specs.Cut.{Cut, cut_more, cut_at}
use Rattle.basket_read.specs.Grammar.{PrefixesAreGood}

abbrev pub cut : List (List ℕ) → List ℕ → Cut
cut ended last = record { ended = ended; last = last }

-- a separator ends the last part
pub cut_ended : (p : ℕ → Bool) (xs : List ℕ) (x : ℕ) → p x ≡ true → cut_at p (xs ++ x ∷ []) ≡ cut ((cut_at p xs).ended ++ (cut_at p xs).last ∷ []) []
cut_ended p xs x h = rw (fold_push, h)

-- any other element joins it
pub cut_joined : (p : ℕ → Bool) (xs : List ℕ) (x : ℕ) → p x ≡ false → cut_at p (xs ++ x ∷ []) ≡ cut (cut_at p xs).ended ((cut_at p xs).last ++ x ∷ [])
cut_joined p xs x h = rw (fold_push, h)

-- and so do several that are no separators
pub cut_on_by : (p q : ℕ → Bool) (xs ys : List ℕ) → ((y : ℕ) → q y ≡ true → p y ≡ false) → list_all q ys ≡ true → cut_at p (xs ++ ys) ≡ cut (cut_at p xs).ended ((cut_at p xs).last ++ ys)
cut_on_by p q xs [] other h = ap (cut_at p) (append-nil xs) ∙ ap (cut (cut_at p xs).ended) (sym (append-nil (cut_at p xs).last))
cut_on_by p q xs (y ∷ ys) other h =
    let parts = and_parts (q y) (list_all q ys) h in
    ap (cut_at p) (sym (append_assoc xs (y ∷ []) ys)) ∙ cut_on_by p q (xs ++ y ∷ []) ys other parts.1
    ∙ ap (λ (k : Cut). cut k.ended (k.last ++ ys)) (cut_joined p xs y (other y parts.0))
    ∙ ap (cut (cut_at p xs).ended) (append_assoc (cut_at p xs).last (y ∷ []) ys)

-- and so do several with which the last part is good, if no separator stands in a good part
pub cut_on : (p : ℕ → Bool) (good : List ℕ → Bool) → PrefixesAreGood good → ((part : List ℕ) (x : ℕ) → good (part ++ x ∷ []) ≡ true → p x ≡ false)
    → (xs run : List ℕ) → good ((cut_at p xs).last ++ run) ≡ true → cut_at p (xs ++ run) ≡ cut (cut_at p xs).ended ((cut_at p xs).last ++ run)
cut_on p good prefixes none xs run h = cut_on_by p (λ x. not (p x)) xs run (λ x. not-true (p x)) (free (cut_at p xs).last run h)
  where
    free : (part run : List ℕ) → good (part ++ run) ≡ true → list_all (λ x. not (p x)) run ≡ true
    free part [] h = refl
    free part (x ∷ run) h =
        let whole = ap good (append_assoc part (x ∷ []) run) ∙ h in
        and_from (not (p x)) (list_all (λ x. not (p x)) run) (ap not (none part x (prefixes (part ++ x ∷ []) run whole))) (free (part ++ x ∷ []) run whole)

-- ---- after a separator

-- parts that have ended before
abbrev pub with_ended : List (List ℕ) → Cut → Cut
with_ended ended k = cut (ended ++ k.ended) k.last

fold_with : (p : ℕ → Bool) (before ended : List (List ℕ)) (last xs : List ℕ)
    → fold (cut_more p) (cut (before ++ ended) last) xs ≡ with_ended before (fold (cut_more p) (cut ended last) xs)
fold_with p before ended last [] = refl
fold_with p before ended last (x ∷ xs) = elim (cases_Bool (p x)) [
  | inl e ↦ simp e (ap (λ e. fold (cut_more p) (cut e []) xs) (append_assoc before ended (last ∷ [])) ∙ fold_with p before (ended ++ last ∷ []) [] xs)
  | inr e ↦ simp e (fold_with p before ended (last ++ x ∷ []) xs)
]

-- a text after one that ends with a separator
pub cut_after : (p : ℕ → Bool) (prefix rest : List ℕ) → (cut_at p prefix).last ≡ [] → cut_at p (prefix ++ rest) ≡ with_ended (cut_at p prefix).ended (cut_at p rest)
cut_after p prefix rest whole =
    let ended = (cut_at p prefix).ended in
    fold-append (cut_more p) (cut [] []) prefix rest
    ∙ ap (λ last. fold (cut_more p) (cut ended last) rest) whole
    ∙ ap (λ e. fold (cut_more p) (cut e []) rest) (sym (append-nil ended))
    ∙ fold_with p ended [] [] rest
