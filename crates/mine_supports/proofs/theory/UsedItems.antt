-- Whether an item is among rising ones, and its number.
use Rattle.std.proofs.Common.{◌≡◌, ◌≢◌, ℕ, ◌<◌, ◌≤◌, ◌+◌, ◌-◌, Bool, false, List, [], ◌∷◌, ◌++◌, length, get_or, take, inl, inr, subst, sym, ap, ◌∙◌, arith}
use Rattle.std.proofs.lemmas.Grind.{common_steps}
use Rattle.std.specs.Prelude.{replicate}
use Rattle.std.proofs.Math.ListN.{get_or-eq_default}
use Rattle.std.proofs.lemmas.Bool.{cases_Bool, cases_eq, cases_lt, true≢false}
use Rattle.std.proofs.lemmas.List.{get_or-replicate, get_or_default, length-replicate}
use Rattle.std.proofs.lemmas.List.Elements.{recursion_from_All}
use Rattle.std.proofs.lemmas.Map.Keys.{non_decreasing_from_sorted}
use Rattle.basket_sets.specs.Itemset.{IsRising, has, rising}
use Rattle.basket_sets.proofs.theory.Members.{Member, Contains-from_Member, Member-filter, Member-from_filter, Member-from_map, Member-map, at_Member}
use Rattle.basket_sets.proofs.theory.Rising.{Member-from_has, has-from_Member, has-rising, has_at, same_test}
use Rattle.basket_sets.proofs.theory.Tests.{rising_at}
use Rattle.mine_supports.specs.UsedItems.{AreMarked, AreNumbers}

-- by a name without a dash, which a list of the source's can have
pub has_rising : (numbers : List ℕ) (item : ℕ) → has (rising numbers) item ≡ has numbers item
has_rising = has-rising

pub nowhere : (items : List ℕ) (item : ℕ) → ((k : ℕ) → k < length items → get_or items k 0 ≢ item) → has items item ≡ false
nowhere items item none = elim (cases_Bool (has items item)) [
  | inl e ↦ absurd (let p = Contains-from_Member item items (Member-from_has items item e) in none p.0 p.1 (get_or_default items p.0 0 item p.1 ∙ p.2))
  | inr e ↦ e
]

-- an item is missing from rising ones that is above all before an index and below what stands at it
pub missing : (items : List ℕ) (item index : ℕ) → IsRising items → ((k : ℕ) → k < index → k < length items → get_or items k 0 < item)
    → (index < length items → item < get_or items index 0) → has items item ≡ false
missing items item index up below after = nowhere items item (λ k within e. elim (cases_lt k index) [
  | inl less ↦ let l = below k less within in absurd (omega arith)
  | inr le ↦ let l = after (omega arith) in let more = non_decreasing_from_sorted items up index k 0 le within in absurd (omega arith)
])

-- only what stands before the index and at it needs to be looked at
pub missing_at : (items : List ℕ) (item index : ℕ) → IsRising items → index ≤ length items → (0 < index → get_or items (index - 1) 0 < item)
    → (index < length items → item < get_or items index 0) → has items item ≡ false
missing_at items item index up short before after = missing items item index up
    (λ k low here. let less = before (omega arith) in let le = non_decreasing_from_sorted items up k (index - 1) 0 (omega arith) (omega arith) in omega arith) after

-- an item stands at one index of rising ones
one_index : (items : List ℕ) (j k : ℕ) → IsRising items → j < length items → k < length items → get_or items j 0 ≡ get_or items k 0 → j ≡ k
one_index items j k up here there e = grind (arith, common_steps, cases_lt, rising_at, cases_eq)

-- the numbers of some items have the number of a used item exactly if these have the item
pub has_number : (used items numbers : List ℕ) (k : ℕ) → IsRising used → AreNumbers used items numbers → k < length used → has numbers k ≡ has items (get_or used k 0)
has_number used items numbers k up are within =
    let item : ℕ = get_or used k 0 in
    same_test (has numbers k) (has items item)
    (λ h. has-from_Member items item (Member-filter (has used) item items
    (subst (Member item) are.named (Member-map (λ n. get_or used n 0) k numbers (Member-from_has numbers k h)))).0)
    (λ h.
    let m = Member-from_filter (has used) item items (Member-from_has items item h) (has_at used k within) in
    let p = Member-from_map (λ n. get_or used n 0) item numbers (subst (Member item) (sym are.named) m) in
    let below = at_Member (λ n. n < length used) p.0 numbers (recursion_from_All (λ n. n < length used) numbers are.below) p.1 in
    has-from_Member numbers k (subst (λ n. Member n numbers) (one_index used p.0 k up below within p.2) p.1))

-- one item more
pub number_more : (used items numbers : List ℕ) (i number : ℕ) → i < length items → number < length used → get_or used number 0 ≡ get_or items i 0
    → AreNumbers used (take i items) numbers → AreNumbers used (take (i + 1) items) (numbers ++ number ∷ [])
number_more used items numbers i number here within is are = grind (arith, common_steps)

pub no_number_more : (used items numbers : List ℕ) (i : ℕ) → i < length items → has used (get_or items i 0) ≡ false → AreNumbers used (take i items) numbers → AreNumbers used (take (i + 1) items) numbers
no_number_more used items numbers i here none are = grind (arith, common_steps)

-- marks that aren't set
pub unmarked : (count : ℕ) (marks : List Bool) → marks ≡ replicate count false → (items : List ℕ) → AreMarked marks items
unmarked count marks none items item marked = absurd (true≢false (sym marked ∙ ap (λ l. get_or l item false) none ∙ elim (cases_lt item count) [
  | inl low ↦ get_or-replicate count item false false low
  | inr high ↦ get_or-eq_default (replicate count false) false (omega (arith, high, length-replicate count false))
]))
