-- Covers: what they share, what they lack, and what they weigh.
use Rattle.std.proofs.Common.{◌≡◌, ℕ, ◌+◌, ◌<◌, ◌≤◌, Bool, true, false, not, List, [], ◌∷◌, ◌++◌, length, get_or, sum, refl, sym, ap, ◌∙◌, inl, inr, arith}
use Rattle.std.proofs.lemmas.Grind.{common_steps}
use Rattle.std.specs.List.{filter, range_with_len, sum_by}
use Rattle.std.proofs.lemmas.List.{get_or_default}
use Rattle.std.proofs.lemmas.List.Filters.{sum_by-filter_both}
use Rattle.std.proofs.lemmas.List.FromFn.{fill_by_all}
use Rattle.std.proofs.lemmas.Bool.{cases_Bool, cases_eq, cases_lt, false_from_ne_true, true≢false}
use Rattle.std.proofs.lemmas.List.Sums.{sum-map}
use Rattle.basket_sets.specs.Itemset.{AllBelow, IsRising, contains, has}
use Rattle.basket_sets.proofs.theory.Members.{Contains-from_Member, Member, Member-filter, Member-from_filter}
use Rattle.basket_sets.proofs.theory.Rising.{Member-from_has, has-from_Member, same_rising, contains_each, has_each, has_at}
use Rattle.basket_sets.proofs.theory.Tests.{rising_at}
use Rattle.basket_sets.proofs.theory.Ranges.{Member-into_range, Member-range, filter_rises, range_drops, range_keeps, range_rises}
use Rattle.mine_rows.specs.Cover.{IsCover, all_tids, common, cover_weight, lacking}

-- ---- weights

-- what a test keeps of a cover and what it drops weigh what the cover does
pub parts_weigh : (f : ℕ → ℕ) (p : ℕ → Bool) (cover : List ℕ) → sum_by f (filter p cover) + sum_by f (filter (λ tid. not (p tid)) cover) ≡ sum_by f cover
parts_weigh f p cover = sum_by-filter_both p (λ tid. not (p tid)) (λ tid. refl) f cover

-- the tids of a cover among all tids
pub cover_in_range : (cover : List ℕ) (n : ℕ) → IsRising cover → ((tid : ℕ) → Member tid cover → tid < n) → filter (has cover) (range_with_len 0 n) ≡ cover
cover_in_range cover n up below = same_rising (filter (has cover) (range_with_len 0 n)) cover
    (filter_rises (has cover) (range_with_len 0 n) (range_rises 0 n)) up
    (λ tid m. Member-from_has cover tid (Member-filter (has cover) tid (range_with_len 0 n) m).1)
    (λ tid m. let low = below tid m in
    Member-from_filter (has cover) tid (range_with_len 0 n) (Member-into_range 0 n tid (omega arith) (omega arith)) (has-from_Member cover tid m))

-- a cover weighs at most what all tids do
pub cover_light : (weights cover : List ℕ) → IsRising cover → AllBelow (length weights) cover → cover_weight weights cover ≤ sum weights
cover_light weights cover up below =
    let weight : ℕ → ℕ = λ tid. get_or weights tid 0 in
    let kept = ap (sum_by weight) (cover_in_range cover (length weights) up (λ tid m. below tid (has-from_Member cover tid m))) in
    let all = ap sum (fill_by_all weight weights (length weights) 0 refl (λ k here. refl)) ∙ sum-map weight (all_tids weights) in
    omega (arith, kept, all, parts_weigh weight (has cover) (all_tids weights))

-- ---- parts of covers

pub part_covers : (weights cover : List ℕ) (p : ℕ → Bool) → IsCover weights cover → IsCover weights (filter p cover)
part_covers weights cover p is = grind (arith, common_steps, filter_rises, has-from_Member, Member-filter, Member-from_has)

absent : (xs : List ℕ) (x : ℕ) → (Member x xs → ⊥) → has xs x ≡ false
absent xs x never = false_from_ne_true (has xs x) (λ e. never (Member-from_has xs x e))

-- the tids of a parent's cover that a cover lacks are, for a cover in it, those that the others lack
pub lacking_joined : (parent first second : List ℕ) → IsRising parent → IsRising first → contains parent first ≡ true
    → lacking (lacking parent second) (lacking parent first) ≡ lacking first (common first second)
lacking_joined parent first second up rises inside = same_rising (lacking (lacking parent second) (lacking parent first)) (lacking first (common first second))
    (filter_rises (λ tid. not (has (lacking parent first) tid)) (lacking parent second) (filter_rises (λ tid. not (has second tid)) parent up))
    (filter_rises (λ tid. not (has (common first second) tid)) first rises)
    (λ tid m.
    let f = Member-filter (λ t. not (has (lacking parent first) t)) tid (lacking parent second) m in
    let g = Member-filter (λ t. not (has second t)) tid parent f.0 in
    let here : Member tid first = elim (cases_Bool (has first tid)) [
      | inl e ↦ Member-from_has first tid e
      | inr e ↦ absurd (true≢false (sym (has-from_Member (lacking parent first) tid (Member-from_filter (λ t. not (has first t)) tid parent g.0 (ap not e))) ∙ not_true (has (lacking parent first) tid) f.1))
    ] in
    Member-from_filter (λ t. not (has (common first second) t)) tid first here
    (ap not (absent (common first second) tid (λ n. true≢false (sym (Member-filter (has second) tid first n).1 ∙ not_true (has second tid) g.1)))))
    (λ tid m.
    let f = Member-filter (λ t. not (has (common first second) t)) tid first m in
    let lost : has second tid ≡ false = absent second tid (λ n.
    true≢false (sym (has-from_Member (common first second) tid (Member-from_filter (has second) tid first f.0 (has-from_Member second tid n))) ∙ not_true (has (common first second) tid) f.1)) in
    Member-from_filter (λ t. not (has (lacking parent first) t)) tid (lacking parent second)
    (Member-from_filter (λ t. not (has second t)) tid parent (has_each parent first inside tid f.0) (ap not lost))
    (ap not (absent (lacking parent first) tid (λ n.
    true≢false (sym (has-from_Member first tid f.0) ∙ not_true (has first tid) (Member-filter (λ t. not (has first t)) tid parent n).1)))))
  where
    not_true : (b : Bool) → not b ≡ true → b ≡ false
    not_true true h = sym h
    not_true false h = refl

-- each tid of a cover is one of all tids
pub within_all : (weights cover : List ℕ) → IsCover weights cover → contains (all_tids weights) cover ≡ true
within_all weights cover is = grind (arith, common_steps, contains_each, has-from_Member, Member-into_range)

pub all_cover : (weights : List ℕ) → IsCover weights (all_tids weights)
all_cover weights = record {
  rises = range_rises 0 (length weights);
  below = λ tid h. (let r = Member-range 0 (length weights) tid (Member-from_has (all_tids weights) tid h) in let high = r.1 in omega arith);
}

pub cover_at : (weights cover : List ℕ) (i : ℕ) → AllBelow (length weights) cover → i < length cover → get_or cover i 0 < length weights
cover_at weights cover i below here = below (get_or cover i 0) (has_at cover i here)

-- ---- a rising cover beside the tids below a number

-- the tids of a cover before a number are below a tid, and the others are not
pub record IsReached (cover : List ℕ) (tid at : ℕ) : Type 0 where
  pub within : at ≤ length cover
  pub before : (i : ℕ) → i < at → get_or cover i 0 < tid
  pub after : (i : ℕ) → at ≤ i → i < length cover → tid ≤ get_or cover i 0

pub has_reached : (cover : List ℕ) (tid at : ℕ) → at < length cover → get_or cover at 0 ≡ tid → has cover tid ≡ true
has_reached cover tid at here e = ap (has cover) (sym e) ∙ has_at cover at here

module _ (cover : List ℕ) (up : IsRising cover) (tid at : ℕ) (is : IsReached cover tid at) where
  -- the tid stands in the cover
  pub reached_found : at < length cover → get_or cover at 0 ≡ tid → IsReached cover (tid + 1) (at + 1)
  reached_found here e = grind (arith, common_steps, cases_eq, rising_at)

  -- it does not
  beyond : (at < length cover → get_or cover at 0 ≡ tid → ⊥) → (i : ℕ) → at ≤ i → i < length cover → tid + 1 ≤ get_or cover i 0
  beyond never i most here = grind (arith, common_steps, cases_eq, rising_at)

  pub reached_missed : (at < length cover → get_or cover at 0 ≡ tid → ⊥) → IsReached cover (tid + 1) at
  reached_missed never = grind (arith, common_steps, beyond)

  pub lacks_reached : (at < length cover → get_or cover at 0 ≡ tid → ⊥) → has cover tid ≡ false
  lacks_reached never = absent cover tid (λ m.
      let (i, here, stands) = Contains-from_Member tid cover m in
      let e = get_or_default cover i 0 tid here ∙ stands in
      elim (cases_lt i at) [
        | inl less ↦ (let low = is.before i less in omega arith)
        | inr most ↦ (let low = beyond never i most here in omega arith)
      ])

-- one more tid below a number
pub lacking_more : (cover : List ℕ) (tid : ℕ) → has cover tid ≡ false → lacking (range_with_len 0 (tid + 1)) cover ≡ lacking (range_with_len 0 tid) cover ++ tid ∷ []
lacking_more cover tid h = range_keeps (λ p. not (has cover p)) tid (ap not h)

pub lacking_same : (cover : List ℕ) (tid : ℕ) → has cover tid ≡ true → lacking (range_with_len 0 (tid + 1)) cover ≡ lacking (range_with_len 0 tid) cover
lacking_same cover tid h = range_drops (λ p. not (has cover p)) tid (ap not h)
