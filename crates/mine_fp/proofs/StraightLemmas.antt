-- A conditional tree is a single branch where each basket that has a rank has the lower ones.
use Rattle.std.proofs.Common.{◌≡◌, ℕ, ◌+◌, ◌<◌, ◌≤◌, Bool, true, ◌&&◌, List, [], ◌∷◌, filter, cond, eqb, ltb, refl, sym, ap, ◌∙◌, inl, inr, arith}
use Rattle.std.proofs.lemmas.Grind.{common_steps}
use Rattle.std.specs.Prelude.{◌||◌}
use Rattle.std.specs.List.{list_all}
use Rattle.std.specs.Ordering.{nat_cmp}
use Rattle.std.proofs.lemmas.Bool.{and_from, and_parts, cases_Bool, cases_order, cond-false, eq-eqb, eqb-true, or_cases, true≢false}
use Rattle.std.proofs.lemmas.List.Kept.{IsStrictlySortedBy-filter}
use Rattle.basket_sets.specs.declared.weighted.Weighted.{Weighted}
use Rattle.basket_sets.specs.declared.minimum.Minimum.{Minimum}
use Rattle.basket_sets.specs.Frequent.{is_frequent}
use Rattle.basket_sets.specs.Itemset.{IsRising, contains, has}
use Rattle.basket_sets.specs.Support.{support_of, total_of, weight_at}
use Rattle.basket_sets.proofs.theory.Members.{Member, Member-filter, Member-from_filter}
use Rattle.basket_sets.proofs.theory.Rising.{Member-from_has, contains_each, first_below, has-from_Member, has_each, rest_rises, same_test}
use Rattle.basket_sets.proofs.theory.Support.{at_least_one, support-cons, support_falls}
use Rattle.basket_sets.proofs.theory.Tests.{all_of, each_of}
use Rattle.mine_conditional.proofs.theory.Branches.{AreHeavy, from_picked, into_picked}
use Rattle.mine_fp.specs.Tree.{begins}
use Rattle.mine_fp.specs.Trees.{is_straight, paths_below}

-- ---- lists that begin others

lower_in : (xs ys : List ℕ) (a b : ℕ) → IsRising ys → begins xs ys ≡ true → Member b xs → Member a ys → a < b → Member a xs
lower_in [] ys a b up h m n less = absurd m
lower_in (x ∷ xs) [] a b up h m n less = absurd n
lower_in (x ∷ xs) (y ∷ ys) a b up h m (inl e) less = inl (eqb-true x y (and_parts (eqb x y) (begins xs ys) h).0 ∙ e)
lower_in (x ∷ xs) (y ∷ ys) a b up h (inl e) (inr n) less =
    let same = eqb-true x y (and_parts (eqb x y) (begins xs ys) h).0 in let low = first_below y ys up a n in absurd (omega arith)
lower_in (x ∷ xs) (y ∷ ys) a b up h (inr m) (inr n) less = inr (lower_in xs ys a b (rest_rises y ys up) (and_parts (eqb x y) (begins xs ys) h).1 m n less)

begins_in : (xs ys : List ℕ) (z : ℕ) → begins xs ys ≡ true → Member z xs → Member z ys
begins_in [] ys z h m = absurd m
begins_in (x ∷ xs) [] z h m = absurd (true≢false (sym h))
begins_in (x ∷ xs) (y ∷ ys) z h (inl e) = inl (sym (eqb-true x y (and_parts (eqb x y) (begins xs ys) h).0) ∙ e)
begins_in (x ∷ xs) (y ∷ ys) z h (inr m) = inr (begins_in xs ys z (and_parts (eqb x y) (begins xs ys) h).1 m)

-- in one list, below each of its numbers, are all numbers of another
abbrev HasLower : List ℕ → List ℕ → Type 0
HasLower xs ys = (a b : ℕ) → a < b → Member b xs → Member a ys → Member a xs

rest_has_lower : (x y : ℕ) (xs ys : List ℕ) → x ≡ y → IsRising (y ∷ ys) → HasLower (x ∷ xs) (y ∷ ys) → HasLower xs ys
rest_has_lower x y xs ys same up low a b less m n = grind (arith, common_steps, first_below)

not_lower : (x y : ℕ) (ys : List ℕ) → x < y → IsRising (y ∷ ys) → Member x (y ∷ ys) → ⊥
not_lower h1 h2 h3 h4 h5 h6 = grind (arith, common_steps, first_below)

one_begins : (xs ys : List ℕ) → IsRising xs → IsRising ys → HasLower xs ys → HasLower ys xs → (begins xs ys || begins ys xs) ≡ true
one_begins [] ys up over low high = refl
one_begins (x ∷ xs) [] up over low high = refl
one_begins (x ∷ xs) (y ∷ ys) up over low high = elim (cases_order x y) [
  | inl same ↦
      (λ i. (eq-eqb x y same i && begins xs ys) || (eq-eqb y x (sym same) i && begins ys xs))
      ∙ one_begins xs ys (rest_rises x xs up) (rest_rises y ys over) (rest_has_lower x y xs ys same over low) (rest_has_lower y x ys xs (sym same) up high)
  | inr (inl less) ↦ absurd (not_lower x y ys less over (high x y less (inl refl) (inl refl)))
  | inr (inr more) ↦ absurd (not_lower y x xs more up (low y x more (inl refl) (inl refl)))
]

-- ---- supports

-- a set of some support stands in some basket
pub some_basket : (baskets : List Weighted) (set : List ℕ) → 1 ≤ support_of baskets set → (receipt : Weighted) × Member receipt baskets × (contains receipt.basket set ≡ true)
some_basket [] set some = absurd (omega arith)
some_basket (p ∷ baskets) set some = elim (cases_Bool (contains p.basket set)) [
  | inl e ↦ (p, inl refl, e)
  | inr e ↦
      (let z = cond-false (contains p.basket set) p.weight 0 e in
      let c = support-cons p baskets set in
      let r = some_basket baskets set (omega arith) in
      (r.0, inr r.1, r.2))
]

-- where more items have the same support, each basket that has the less has the more
pub has_more_too : (baskets : List Weighted) (more less : List ℕ) → contains more less ≡ true → AreHeavy baskets → support_of baskets more ≡ support_of baskets less
    → (receipt : Weighted) → Member receipt baskets → contains receipt.basket less ≡ true → contains receipt.basket more ≡ true
has_more_too [] more less sub heavy same receipt m h = absurd m
has_more_too (p ∷ baskets) more less sub heavy same receipt m h =
    let falls = support_falls baskets more less sub in
    let one = support_falls (p ∷ []) more less sub in
    let all_more = support-cons p baskets more in
    let all_less = support-cons p baskets less in
    let one_more = support-cons p [] more in
    let one_less = support-cons p [] less in
    elim m [
      | inl e ↦ elim (cases_Bool (contains p.basket more)) [
        | inl k ↦ ap (λ (q : Weighted). contains q.basket more) (sym e) ∙ k
        | inr k ↦
            (let none = cond-false (contains p.basket more) p.weight 0 k in
            let whole : weight_at less p ≡ p.weight = ap (λ b. cond b p.weight 0) (ap (λ (q : Weighted). contains q.basket less) e ∙ h) in
            let weighs = heavy p (inl refl) in
            absurd (omega arith))
      ]
      | inr n ↦
          (let rest : support_of baskets more ≡ support_of baskets less = omega arith in
          has_more_too baskets more less sub (λ q k. heavy q (inr k)) rest receipt n h)
    ]

pub same_support : (baskets : List Weighted) (one other : List ℕ) → ((receipt : Weighted) → Member receipt baskets → contains receipt.basket one ≡ contains receipt.basket other)
    → support_of baskets one ≡ support_of baskets other
same_support [] one other same = refl
same_support (p ∷ baskets) one other same =
    support-cons p baskets one
    ∙ (λ i. cond (same p (inl refl) i) p.weight 0 + same_support baskets one other (λ q m. same q (inr m)) i)
    ∙ sym (support-cons p baskets other)

-- ---- single branches by supports

-- what the baskets are: they rise, and weigh something
abbrev pub ArePlain : List Weighted → Type 0
ArePlain baskets = (receipt : Weighted) → Member receipt baskets → IsRising receipt.basket × (1 ≤ receipt.weight)

-- of two ranks that join a set, the lower one is in each basket that has the set and the higher one
abbrev pub IsFlat : List Weighted → (ℕ → Bool) → List ℕ → Type 0
IsFlat baskets joined set = (a b : ℕ) → a < b → joined a ≡ true → joined b ≡ true → support_of baskets (a ∷ b ∷ set) ≡ support_of baskets (b ∷ set)

module _ (baskets : List Weighted) (minimum : Minimum) (first : ℕ) (others : List ℕ) (plain : ArePlain baskets) where
  abbrev set : List ℕ
  set = first ∷ others

  abbrev joined : ℕ → Bool
  joined rank = ltb rank first && is_frequent baskets minimum (rank ∷ set)

  abbrev path_of : Weighted → List ℕ
  path_of receipt = filter joined receipt.basket

  abbrev has_set : Weighted → Bool
  has_set receipt = contains receipt.basket set

  abbrev paths : List (List ℕ)
  paths = paths_below baskets minimum set

  path_rises : (receipt : Weighted) → Member receipt baskets → IsRising (path_of receipt)
  path_rises receipt m = IsStrictlySortedBy-filter nat_cmp joined receipt.basket (plain receipt m).0

  path_in : (receipt : Weighted) → Member receipt baskets → contains receipt.basket set ≡ true → Member (path_of receipt) paths
  path_in receipt m h = into_picked has_set path_of baskets receipt m h

  pub has_lower : is_straight baskets minimum set ≡ true → (a b : ℕ) → a < b → joined a ≡ true → joined b ≡ true
      → (receipt : Weighted) → Member receipt baskets → contains receipt.basket (b ∷ set) ≡ true → has receipt.basket a ≡ true
  has_lower h a b less ja jb receipt m k =
      let met = (and_parts (ltb a first) (is_frequent baskets minimum (a ∷ set)) ja).1 in
      let other = some_basket baskets (a ∷ set) (at_least_one minimum (support_of baskets (a ∷ set)) (total_of baskets) met) in
      let both = and_parts (has receipt.basket b) (contains receipt.basket set) k in
      let its = and_parts (has other.0.basket a) (contains other.0.basket set) other.2 in
      let higher = Member-from_filter joined b receipt.basket (Member-from_has receipt.basket b both.0) jb in
      let lower = Member-from_filter joined a other.0.basket (Member-from_has other.0.basket a its.0) ja in
      let test = each_of (λ o. begins (path_of receipt) o || begins o (path_of receipt)) paths
      (each_of (λ p. list_all (λ o. begins p o || begins o p) paths) paths h (path_of receipt) (path_in receipt m both.1)) (path_of other.0) (path_in other.0 other.1 its.1) in
      let found = elim (or_cases (begins (path_of receipt) (path_of other.0)) (begins (path_of other.0) (path_of receipt)) test) as (λ _. Member a (path_of receipt)) [
        | inl e ↦ lower_in (path_of receipt) (path_of other.0) a b (path_rises other.0 other.1) e higher lower less
        | inr e ↦ begins_in (path_of other.0) (path_of receipt) a e lower
      ] in
      has-from_Member receipt.basket a (Member-filter joined a receipt.basket found).0

  pub flat_from_straight : is_straight baskets minimum set ≡ true → IsFlat baskets joined set
  flat_from_straight h a b less ja jb = same_support baskets (a ∷ b ∷ set) (b ∷ set) (λ receipt m. same_test _ _
      (λ k. (and_parts (has receipt.basket a) (contains receipt.basket (b ∷ set)) k).1)
      (λ k. and_from (has receipt.basket a) (contains receipt.basket (b ∷ set)) (has_lower h a b less ja jb receipt m k) k))

  path_has_lower : IsFlat baskets joined set → (one other : Weighted) → Member one baskets → contains one.basket set ≡ true → HasLower (path_of one) (path_of other)
  path_has_lower flat one other m h a b less higher lower =
      let jb = Member-filter joined b one.basket higher in
      let ja = Member-filter joined a other.basket lower in
      let more = has_more_too baskets (a ∷ b ∷ set) (b ∷ set) (contains_each (a ∷ b ∷ set) (b ∷ set) (λ item n. inr n)) (λ q n. (plain q n).1) (flat a b less ja.1 jb.1) one m
      (and_from (has one.basket b) (contains one.basket set) (has-from_Member one.basket b jb.0) h) in
      Member-from_filter joined a one.basket (has_each one.basket (a ∷ b ∷ set) more a (inl refl)) ja.1

  pub straight_from_flat : IsFlat baskets joined set → is_straight baskets minimum set ≡ true
  straight_from_flat flat = all_of (λ p. list_all (λ o. begins p o || begins o p) paths) paths (λ p m. all_of (λ o. begins p o || begins o p) paths (λ o n.
      let one = from_picked has_set path_of baskets p m in
      let other = from_picked has_set path_of baskets o n in
      (λ i. begins (sym one.3 i) (sym other.3 i) || begins (sym other.3 i) (sym one.3 i))
      ∙ one_begins (path_of one.0) (path_of other.0) (path_rises one.0 one.1) (path_rises other.0 other.1)
      (path_has_lower flat one.0 other.0 one.1 one.2) (path_has_lower flat other.0 one.0 other.1 other.2)))
