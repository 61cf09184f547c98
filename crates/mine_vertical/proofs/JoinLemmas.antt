-- The joins of a class, and of all classes.
use Rattle.std.proofs.Common.{◌≡◌, ℕ, zero, suc, ◌+◌, ◌<◌, Bool, true, false, ◌&&◌, List, [], ◌∷◌, ◌++◌, length, cond, refl, sym, ap, ◌∙◌, subst, inl, inr, arith, length-append, zero-add}
use Rattle.std.proofs.lemmas.Grind.{common_steps}
use Rattle.std.specs.List.{filter, range_with_len, sum_by}
use Rattle.std.proofs.lemmas.Bool.{cases_Bool, true≢false}
use Rattle.std.proofs.lemmas.List.{append-nil}
use Rattle.std.proofs.lemmas.List.Elements.{All-from_recursion}
use Rattle.std.proofs.lemmas.List.Sums.{sum_by-append, sum_by-cons}
use Rattle.basket_ranks.specs.Codes.{Coding}
use Rattle.basket_sets.specs.declared.weighted.Weighted.{Weighted}
use Rattle.basket_sets.specs.declared.minimum.Minimum.{Minimum}
use Rattle.basket_sets.specs.Frequent.{IsNonemptySet, is_frequent}
use Rattle.basket_sets.specs.Itemset.{AllBelow}
use Rattle.basket_sets.proofs.theory.Members.{Member, All-from_Member, Contains-from_Member}
use Rattle.basket_sets.proofs.theory.Rising.{Member-from_has, has-from_Member, contains_each}
use Rattle.basket_sets.proofs.theory.Support.{subsets_are_frequent}
use Rattle.basket_sets.proofs.theory.Ranges.{range_more}
use Rattle.mine_classes.specs.Mined.{RanksAreFrequent}
use Rattle.mine_search.specs.Walk.{kept_below, sets_below, work_below}
use Rattle.mine_search.proofs.theory.Walk.{kept_step}
use Rattle.mine_search.proofs.theory.Found.{from_sets, into_sets, sets_distinct}
use Rattle.mine_vertical.specs.Joins.{ClassJoinsAddUp, SetsOfRanksAreAll, class_joins, is_join, sets_of_ranks}

-- how many sets of a list pass a test
abbrev many : (List ℕ → Bool) → List (List ℕ) → ℕ
many p sets = length (filter p sets)

abbrev one_if : Bool → ℕ
one_if b = cond b 1 0

-- the joins of a set's least rank with the lower ranks with which the others are frequent
abbrev pub set_joins : (List ℕ → Bool) → List ℕ → ℕ
set_joins test [] = 0
set_joins test (rank ∷ set) = length (kept_below test rank set)

module _ (baskets : List Weighted) (minimum : Minimum) where
  abbrev frequent : List ℕ → Bool
  frequent set = is_frequent baskets minimum set

  abbrev every : List ℕ → Bool
  every set = true

  -- how many joins make sets that extend a set
  abbrev joins : ℕ → List ℕ → ℕ
  joins below set = many (is_join baskets minimum) (sets_below every below set)

  joins_more : (rank : ℕ) (set : List ℕ) → joins (suc rank) set ≡ joins rank set + (one_if (is_join baskets minimum (rank ∷ set)) + joins rank (rank ∷ set))
  joins_more rank set = grind (arith, common_steps)

  falls : (rank : ℕ) (set : List ℕ) → frequent set ≡ false → frequent (rank ∷ set) ≡ false
  falls rank set rare = elim (cases_Bool (frequent (rank ∷ set))) [
    | inl e ↦ absurd (true≢false (sym (subsets_are_frequent baskets minimum (rank ∷ set) set (contains_each (rank ∷ set) set (λ z m. inr m)) e) ∙ rare))
    | inr e ↦ e
  ]

  -- none extends a set that is not frequent
  none : (below first : ℕ) (others : List ℕ) → frequent (first ∷ others) ≡ false → joins below (first ∷ others) ≡ 0
  none zero first others rare = refl
  none (suc rank) first others rare = grind (arith, common_steps, none rank first others rare, none rank rank (first ∷ others) (falls rank (first ∷ others) rare))

  kept_more : (rank : ℕ) (set : List ℕ) → length (kept_below frequent (suc rank) set) ≡ length (kept_below frequent rank set) + one_if (frequent (rank ∷ set))
  kept_more rank set = ap length (kept_step frequent rank set) ∙ length-append (kept_below frequent rank set) (cond (frequent (rank ∷ set)) (rank ∷ []) []) ∙ ap (λ n. length (kept_below frequent rank set) + n) (at (frequent (rank ∷ set)))
    where
      at : (b : Bool) → length (cond b (rank ∷ []) []) ≡ one_if b
      at true = refl
      at false = refl

  -- those that extend a frequent set: with each rank that extends the set without its least rank, and those that extend its extensions
  joins_are : (below first : ℕ) (others : List ℕ) → frequent (first ∷ others) ≡ true
      → joins below (first ∷ others) ≡ length (kept_below frequent below others) + work_below (set_joins frequent) frequent below (first ∷ others)
  joins_are zero first others h = refl
  joins_are (suc rank) first others h =
      let set : List ℕ = first ∷ others in
      let one = joins_are rank first others h in
      let made : one_if (is_join baskets minimum (rank ∷ first ∷ others)) ≡ one_if (frequent (rank ∷ others)) = ap (λ b. one_if (b && frequent (rank ∷ others))) h in
      let two = at (frequent (rank ∷ set)) refl (λ e. joins_are rank rank set e) in
      let all = joins_more rank set in
      let kept = kept_more rank others in omega arith
    where
      at : (b : Bool) → frequent (rank ∷ first ∷ others) ≡ b
          → (frequent (rank ∷ first ∷ others) ≡ true → joins rank (rank ∷ first ∷ others) ≡ length (kept_below frequent rank (first ∷ others)) + work_below (set_joins frequent) frequent rank (rank ∷ first ∷ others))
          → joins rank (rank ∷ first ∷ others) ≡ cond b (length (kept_below frequent rank (first ∷ others)) + work_below (set_joins frequent) frequent rank (rank ∷ first ∷ others)) 0
      at true e deeper = deeper e
      at false e deeper = none rank rank (first ∷ others) e

  all_kept : (below : ℕ) → ((rank : ℕ) → rank < below → frequent (rank ∷ []) ≡ true) → length (kept_below frequent below []) ≡ below
  all_kept zero each = refl
  all_kept (suc rank) each =
      let one = all_kept rank (λ r less. each r (omega arith)) in
      let more = kept_more rank [] in
      let last = ap one_if (each rank (omega arith)) in omega arith

-- the joins of a class: with each rank below, and those that the search makes
pub class_joins_are : (coding : Coding) (rank : ℕ) → RanksAreFrequent coding → rank < length coding.items
    → class_joins coding rank ≡ rank + work_below (set_joins (is_frequent coding.baskets coding.minimum)) (is_frequent coding.baskets coding.minimum) rank (rank ∷ [])
class_joins_are coding rank each here =
    let one = joins_are coding.baskets coding.minimum rank rank [] (each rank here) in
    let pairs = all_kept coding.baskets coding.minimum rank (λ r less. each r (omega arith)) in omega arith

-- ---- all classes

pub class_joins_add_up : ClassJoinsAddUp
class_joins_add_up coding = up_to (length coding.items)
  where
    up_to : (count : ℕ) → sum_by (class_joins coding) (range_with_len 0 count) ≡ length (filter (is_join coding.baskets coding.minimum) (sets_of_ranks count))
    up_to zero = refl
    up_to (suc rank) =
        let one = up_to rank in
        let more = joins_more coding.baskets coding.minimum rank [] in
        let last = ap (sum_by (class_joins coding)) (range_more 0 rank) ∙ sum_by-append (class_joins coding) (range_with_len 0 rank) ((0 + rank) ∷ []) in
        let single = sum_by-cons (class_joins coding) (0 + rank) [] in
        let named = ap (class_joins coding) (zero-add rank) in omega arith

pub sets_of_ranks_are_all : SetsOfRanksAreAll
sets_of_ranks_are_all count = record {
  distinct = sets_distinct (λ set. true) count [];
  sound = All-from_recursion (λ set. IsNonemptySet set × AllBelow count set) (sets_of_ranks count) (All-from_Member (λ set. IsNonemptySet set × AllBelow count set) (sets_of_ranks count) (λ set m.
      let f = from_sets (λ s. true) count [] set m in
      subst (λ s. IsNonemptySet s × AllBelow count s) (sym (f.is ∙ append-nil (f.first ∷ f.others))) ((f.rises, λ e. absurd cc), λ item h. f.lower item (Member-from_has (f.first ∷ f.others) item h))));
  complete = λ set n below. Contains-from_Member set (sets_of_ranks count) (is_there set n below);
}
  where
    is_there : (set : List ℕ) → IsNonemptySet set → AllBelow count set → Member set (sets_of_ranks count)
    is_there [] n below = absurd (n.1 refl)
    is_there (x ∷ xs) n below = subst (λ s. Member s (sets_of_ranks count)) (append-nil (x ∷ xs))
        (into_sets (λ s. true) (λ a b h. refl) count x xs [] n.0 (λ item m. below item (has-from_Member (x ∷ xs) item m)) refl)
