-- Tids that are marked.
use Rattle.std.proofs.Common.{◌≡◌, ℕ, ◌+◌, ◌<◌, ◌≤◌, Bool, true, false, not, ◌||◌, ◌&&◌, List, [], ◌∷◌, take, length, get_or, cond, eqb, ltb, refl, ap, ◌∙◌, arith}
use Rattle.std.proofs.lemmas.Grind.{common_steps}
use Rattle.std.specs.Prelude.{All}
use Rattle.std.specs.List.{filter, sum_by}
use mir.Val.{bool_byte}
use Rattle.std.proofs.Math.ListN.{set}
use Rattle.std.proofs.lemmas.Bool.{lt-ltb}
use Rattle.basket_sets.specs.Itemset.{AllBelow, IsRising, has}
use Rattle.basket_sets.proofs.theory.Members.{Member-filter, Member-from_filter}
use Rattle.basket_sets.proofs.theory.Rising.{Member-from_has, has-from_Member, same_rising}
use Rattle.basket_sets.proofs.theory.Ranges.{filter_members, filter_rises}
use Rattle.mine_rows.specs.declared.marks.Marks.{Marks}
use Rattle.mine_rows.specs.Cover.{common, cover_weight}
use Rattle.mine_rows.specs.Marks.{IsMarked}

-- a list with another element
pub set_at : {X : Type 0} (d : X) (xs : List X) (i : ℕ) (v : X) (k : ℕ) → i < length xs → get_or (set xs i v) k d ≡ cond (eqb i k) v (get_or xs k d)
set_at d xs i v k here = grind (arith, common_steps)

module _ (weights tids items : List ℕ) (test : ℕ → Bool) (i tid : ℕ) (here : i < length tids) (below : get_or tids i 0 < length items) where
  pub one_marked : get_or items tid 0 ≡ cond (has (take i tids) tid || test tid) (get_or weights tid 0) 0
      → get_or (set items (get_or tids i 0) (get_or weights (get_or tids i 0) 0)) tid 0 ≡ cond (has (take (i + 1) tids) tid || test tid) (get_or weights tid 0) 0
  one_marked before = grind (arith, common_steps)

  pub one_cleared : get_or items tid 0 ≡ cond (not (has (take i tids) tid) && test tid) (get_or weights tid 0) 0
      → get_or (set items (get_or tids i 0) 0) tid 0 ≡ cond (not (has (take (i + 1) tids) tid) && test tid) (get_or weights tid 0) 0
  one_cleared before = grind (arith, common_steps)

-- one test is as good as another that agrees with it
pub same_marks : (weights : List ℕ) (p q : ℕ → Bool) (marks : Marks) → ((tid : ℕ) → p tid ≡ q tid) → IsMarked weights p marks → IsMarked weights q marks
same_marks weights p q marks same is = record { long = is.long; at = λ tid. is.at tid ∙ ap (λ b. cond b (get_or weights tid 0) 0) (same tid) }

-- ---- tids that are put down one after another, of which some are kept

pub put_down : (test : ℕ → Bool) (tids kept : List ℕ) (i count : ℕ) → i < length tids → count ≤ i → length kept ≡ length tids → take count kept ≡ filter test (take i tids)
    → take (count + bool_byte (test (get_or tids i 0))) (set kept count (get_or tids i 0)) ≡ filter test (take (i + 1) tids)
put_down test tids kept i count here few long is = grind (arith, common_steps)

pub most_one : (b : Bool) → bool_byte b ≤ 1
most_one h1 = grind (arith, common_steps)

-- ---- marked tids among others

-- the tids of one cover that stand in another, from either side
pub common_other : (first second : List ℕ) → IsRising first → IsRising second → filter (has first) second ≡ common first second
common_other first second up other_up = grind (arith, common_steps, same_rising, filter_rises, Member-filter, Member-from_filter, Member-from_has, has-from_Member)

module _ (weights : List ℕ) (test : ℕ → Bool) (marks : Marks) (is : IsMarked weights test marks) where
  pub keeps_test : All (λ weight. 1 ≤ weight) weights → (others : List ℕ) → AllBelow (length weights) others → filter (λ tid. ltb 0 (get_or marks.weights.items tid 0)) others ≡ filter test others
  keeps_test some others below = filter_members (λ tid. ltb 0 (get_or marks.weights.items tid 0)) test others
      (λ tid m. ap (ltb 0) (is.at tid) ∙ at tid (below tid (has-from_Member others tid m)) (test tid))
    where
      at : (tid : ℕ) → tid < length weights → (b : Bool) → ltb 0 (cond b (get_or weights tid 0) 0) ≡ b
      at tid here true = lt-ltb 0 (get_or weights tid 0) (let w = some tid 0 here in omega arith)
      at tid here false = refl

  pub sums_test : (others : List ℕ) → sum_by (λ tid. get_or marks.weights.items tid 0) others ≡ cover_weight weights (filter test others)
  sums_test [] = refl
  sums_test (x ∷ others) = grind (arith, common_steps, sums_test others)
