-- What is counted of some sets in parts, added up.
use Rattle.std.proofs.Common.{◌≡◌, ◌∙◌, inl, inr, ℕ, ◌+◌, ◌++◌, Bool, true, false, cond, List, [], ◌∷◌, ap, ap₂, map, refl, sym, subst, arith}
use Rattle.std.proofs.lemmas.Grind.{common_steps}
use Rattle.std.specs.Prelude.{nat_eq, fold, ◌||◌, if◌then◌else◌}
use Rattle.std.specs.Cmp.Lexicographic.{pointwise, bytes_decides}
use Rattle.std.specs.List.{list_any, sum_by}
use Rattle.std.proofs.lemmas.Bool.{false≢true}
use Rattle.std.proofs.lemmas.List.Sums.{sum_by-append}
use Rattle.basket_parts.specs.CombinedCounts.{count_in, has_set}
use Rattle.basket_read.specs.declared.counted_line.CountedLine.{CountedLine}
use Rattle.basket_sets.specs.declared.counted.Counted.{Counted}
use Rattle.basket_sets.specs.declared.weighted.Weighted.{Weighted}
use Rattle.basket_sets.specs.Frequent.{counted}
use Rattle.basket_sets.specs.Support.{support_of}
use Rattle.basket_sets.proofs.theory.Members.{Member}
use Rattle.basket_sets.proofs.theory.Rising.{same_test}
use Rattle.basket_sets.proofs.theory.Support.{support-append}
use Rattle.basket_laws.specs.Parts.{counts_of_parts, said_of, whole_of}
use Rattle.mine_sets.specs.Asked.{asked_of, with_set}

-- ---- equal sets

pub equal : (a b : List ℕ) → pointwise nat_eq a b ≡ true → a ≡ b
equal a b e = (bytes_decides a b).0 e

pub itself : (a : List ℕ) → pointwise nat_eq a a ≡ true
itself a = (bytes_decides a a).1 refl

turned : (a b : List ℕ) → pointwise nat_eq a b ≡ pointwise nat_eq b a
turned a b = same_test _ _ (λ e. subst (λ x. pointwise nat_eq x a ≡ true) (equal a b e) (itself a)) (λ e. subst (λ x. pointwise nat_eq x b ≡ true) (equal b a e) (itself b))

-- whether a list has the set
abbrev pub any : List ℕ → List (List ℕ) → Bool
any set sets = list_any (pointwise nat_eq set) sets

pub any_from_Member : (set : List ℕ) (sets : List (List ℕ)) → Member set sets → any set sets ≡ true
any_from_Member set [] m = absurd m
any_from_Member set (x ∷ sets) (inl e) = grind (arith, common_steps, itself)
any_from_Member set (x ∷ sets) (inr m) = grind (arith, common_steps, any_from_Member set sets m)

pub Member_from_any : (set : List ℕ) (sets : List (List ℕ)) → any set sets ≡ true → Member set sets
Member_from_any set [] e = absurd (false≢true e)
Member_from_any set (x ∷ sets) e = go (pointwise nat_eq set x) refl e (Member_from_any set sets)
  where
    go : (b : Bool) → pointwise nat_eq set x ≡ b → (b || any set sets) ≡ true → (any set sets ≡ true → Member set sets) → Member set (x ∷ sets)
    go true is h rest = inl (sym (equal set x is))
    go false is h rest = inr (rest h)

any_push : (set x : List ℕ) (sets : List (List ℕ)) → any set (sets ++ x ∷ []) ≡ (any set sets || pointwise nat_eq set x)
any_push set x [] = grind (arith, common_steps)
any_push set x (y ∷ sets) = grind (arith, common_steps, any_push set x sets)

-- ---- counts by lines, and by sets with counts

abbrev pub count_among : List Counted → List ℕ → ℕ
count_among list set = sum_by (λ c. if pointwise nat_eq c.set set then c.count else 0) list

abbrev pub has_among : List Counted → List ℕ → Bool
has_among list set = list_any (λ c. pointwise nat_eq c.set set) list

pub count_said : (lines : List CountedLine) (set : List ℕ) → count_in lines set ≡ count_among (map said_of lines) set
count_said [] set = refl
count_said (line ∷ lines) set = grind (arith, common_steps, count_said lines set)

pub has_said : (lines : List CountedLine) (set : List ℕ) → has_set lines set ≡ has_among (map said_of lines) set
has_said [] set = refl
has_said (line ∷ lines) set = ap (λ b. pointwise nat_eq line.set set || b) (has_said lines set)

-- ---- the sets that are asked for, in one part

module _ (part : List Weighted) (set : List ℕ) where
  abbrev IsOnce : List (List ℕ) → Type 0
  IsOnce sets = count_among (map (counted part) sets) set ≡ cond (any set sets) (support_of part set) 0

  count_push : (sets : List (List ℕ)) (x : List ℕ) → count_among (map (counted part) (sets ++ x ∷ [])) set
      ≡ count_among (map (counted part) sets) set + cond (pointwise nat_eq x set) (support_of part x) 0
  count_push [] x = grind (arith, common_steps)
  count_push (y ∷ sets) x = grind (arith, common_steps, count_push sets x)

  once_push : (sets : List (List ℕ)) (x : List ℕ) → any x sets ≡ false → IsOnce sets → IsOnce (sets ++ x ∷ [])
  once_push sets x new once = go (pointwise nat_eq x set) refl
    where
      go : (b : Bool) → pointwise nat_eq x set ≡ b → IsOnce (sets ++ x ∷ [])
      go true is =
          let same : x ≡ set = equal x set is in
          let missing : any set sets ≡ false = subst (λ y. any y sets ≡ false) same new in
          let there : any set (sets ++ x ∷ []) ≡ true = any_push set x sets ∙ ap₂ (λ a b. a || b) missing (turned set x ∙ is) in
          count_push sets x
          ∙ ap₂ (λ m n. m + n) (once ∙ ap (λ b. cond b (support_of part set) 0) missing) (ap (λ b. cond b (support_of part x) 0) is ∙ ap (support_of part) same)
          ∙ none_plus (support_of part set)
          ∙ ap (λ b. cond b (support_of part set) 0) (sym there)
        where
          none_plus : (n : ℕ) → 0 + n ≡ n
          none_plus n = omega arith
      go false is =
          let there : any set (sets ++ x ∷ []) ≡ any set sets = any_push set x sets ∙ ap (λ b. any set sets || b) (turned set x ∙ is) ∙ or_false (any set sets) in
          count_push sets x
          ∙ ap₂ (λ m n. m + n) once (ap (λ b. cond b (support_of part x) 0) is)
          ∙ plus_none (cond (any set sets) (support_of part set) 0)
          ∙ ap (λ b. cond b (support_of part set) 0) (sym there)
        where
          or_false : (b : Bool) → (b || false) ≡ b
          or_false true = refl
          or_false false = refl

          plus_none : (n : ℕ) → n + 0 ≡ n
          plus_none n = omega arith

  once_with : (sets : List (List ℕ)) (x : List ℕ) → IsOnce sets → IsOnce (with_set sets x)
  once_with sets x once = grind (arith, common_steps, once_push)

  once_folded : (sets more : List (List ℕ)) → IsOnce sets → IsOnce (fold with_set sets more)
  once_folded sets [] once = once
  once_folded sets (x ∷ more) once = once_folded (with_set sets x) more (once_with sets x once)

  asked_once : (sets : List (List ℕ)) → IsOnce (asked_of sets)
  asked_once sets = once_folded [] ([] ∷ sets) refl

  has_mapped : (sets : List (List ℕ)) → has_among (map (counted part) sets) set ≡ any set sets
  has_mapped [] = refl
  has_mapped (x ∷ sets) = ap₂ (λ a b. a || b) (turned x set) (has_mapped sets)

-- ---- which sets are asked for

any_with : (set : List ℕ) (sets : List (List ℕ)) (x : List ℕ) → any set (with_set sets x) ≡ (any set sets || pointwise nat_eq set x)
any_with set sets x = go (any x sets) refl
  where
    known : (b : Bool) → pointwise nat_eq set x ≡ b → any x sets ≡ true → any set sets ≡ (any set sets || b)
    known true is e =
        let there : any set sets ≡ true = subst (λ y. any y sets ≡ true) (sym (equal set x is)) e in
        there ∙ ap (λ b. b || true) (sym there)
    known false is e = same (any set sets)
      where
        same : (b : Bool) → b ≡ (b || false)
        same true = refl
        same false = refl

    go : (b : Bool) → any x sets ≡ b → any set (if b then sets else sets ++ x ∷ []) ≡ (any set sets || pointwise nat_eq set x)
    go true e = known (pointwise nat_eq set x) refl e
    go false e = any_push set x sets

any_folded : (set : List ℕ) (sets more : List (List ℕ)) → any set (fold with_set sets more) ≡ (any set sets || any set more)
any_folded set sets [] = grind (arith, common_steps)
any_folded set sets (x ∷ more) = grind (arith, common_steps, any_folded set (with_set sets x) more, any_with)

-- a set is asked for where it is empty, or one of the sets
pub any_asked : (set : List ℕ) (sets : List (List ℕ)) → any set (asked_of sets) ≡ any set ([] ∷ sets)
any_asked set sets = any_folded set [] ([] ∷ sets)

-- ---- all parts

among_append : (a b : List Counted) (set : List ℕ) → count_among (a ++ b) set ≡ count_among a set + count_among b set
among_append a b set = sum_by-append (λ (c : Counted). if pointwise nat_eq c.set set then c.count else 0) a b

has_append : (a b : List Counted) (set : List ℕ) → has_among (a ++ b) set ≡ (has_among a set || has_among b set)
has_append [] b set = refl
has_append (c ∷ a) b set = grind (arith, common_steps, has_append a b set)

pub parts_add_up : (parts : List (List Weighted)) (sets : List (List ℕ)) (set : List ℕ)
    → count_among (counts_of_parts parts sets) set ≡ cond (any set (asked_of sets)) (support_of (whole_of parts) set) 0
parts_add_up [] sets set = grind (arith, common_steps)
parts_add_up (part ∷ parts) sets set = grind (arith, common_steps, parts_add_up parts sets set, among_append, asked_once, support-append)

pub has_from_parts : (parts : List (List Weighted)) (sets : List (List ℕ)) (set : List ℕ) → has_among (counts_of_parts parts sets) set ≡ true → any set (asked_of sets) ≡ true
has_from_parts [] sets set e = absurd (false≢true e)
has_from_parts (part ∷ parts) sets set e = grind (arith, common_steps, has_from_parts parts sets set, has_append, has_mapped)

pub has_in_parts : (part : List Weighted) (parts : List (List Weighted)) (sets : List (List ℕ)) (set : List ℕ) → any set (asked_of sets) ≡ true
    → has_among (counts_of_parts (part ∷ parts) sets) set ≡ true
has_in_parts part parts sets set e = grind (arith, common_steps, has_append, has_mapped)
