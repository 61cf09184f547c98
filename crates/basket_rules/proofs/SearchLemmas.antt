-- What one comparison in a list in report order says of the sets beside it, and when a search is over.
use Rattle.std.proofs.Common.{◌≡◌, ℕ, ◌<◌, ◌≤◌, ◌+◌, List, [], ◌∷◌, length, get_or, sym, ap, ◌∙◌, subst, inl, inr, arith}
use Rattle.std.proofs.lemmas.Grind.{common_steps}
use Rattle.std.specs.declared.cmp.Ordering.{Ordering}
use Rattle.std.specs.declared.cmp.Ordering.TheVariants.{Less, Equal, Greater}
use Rattle.std.specs.Ordering.{is_eq, ordering_reverse}
use Rattle.std.specs.Cmp.Lexicographic.{bytes_decides}
use Rattle.std.specs.List.{AllWithin, HoldsAt}
use Rattle.std.proofs.lemmas.Bool.{cases_eq, cases_lt}
use Rattle.std.proofs.lemmas.Cmp.{tied_itself}
use Rattle.std.proofs.lemmas.Map.Keys.{Less-from_sorted}
use Rattle.std.proofs.lemmas.List.{get_or_default, get_or-map, length-map}
use Rattle.basket_sets.specs.declared.counted.Counted.{Counted}
use Rattle.basket_sets.specs.Order.{report_order, report_order_total, report_order_ties}
use Rattle.basket_sets.proofs.theory.Members.{Member, Member-from_Contains}
use Rattle.basket_rules.specs.Listed.{IsSorted, sets_in, set_at, count_at}
use Rattle.basket_rules.specs.Search.{IsBetween}

-- ---- the sets of a list

-- a set of the list is the set of the entry there
pub set_is : (list : List Counted) (k : ℕ) (d : Counted) → k < length list → set_at list k ≡ (get_or list k d).set
set_is list k d below = get_or-map (λ (c : Counted). c.set) list k d [] below

pub count_is : (list : List Counted) (k : ℕ) (d : Counted) → k < length list → count_at list k ≡ (get_or list k d).count
count_is list k d below = get_or-map (λ (c : Counted). c.count) list k d 0 below

-- what is read where there is no set
abbrev pub none : Counted
none = record { set = []; count = 0 }

-- the entry there is a member
pub entry_listed : (list : List Counted) (k : ℕ) → k < length list → Member (get_or list k none) list
entry_listed list k below = let c = get_or list k none in Member-from_Contains c list (k, below, sym (get_or_default list k none c below))

equal_sets : (a b : List ℕ) → report_order a b ≡ Equal → a ≡ b
equal_sets a b e = (bytes_decides a b).0 (report_order_ties a b ∙ ap is_eq e)

-- an earlier set is smaller
before_less : (list : List Counted) (i j : ℕ) (d : Counted) → IsSorted list → i < j → j < length list → report_order (get_or list i d).set (get_or list j d).set ≡ Less
before_less list i j d up less below =
    let long = length-map list (λ (c : Counted). c.set) in
    (λ k. report_order (sym (set_is list i d (omega arith)) k) (sym (set_is list j d below) k)) ∙ Less-from_sorted report_order (sets_in list) i j [] up less (omega arith)

-- the sets up to a smaller one are smaller
pub smaller_up_to : (list : List Counted) (set : List ℕ) (i : ℕ) → IsSorted list → i < length list
    → HoldsAt (λ c. report_order c.set set ≡ Less) list i → AllWithin (λ c. report_order c.set set ≡ Less) list 0 (i + 1)
smaller_up_to list set i up below less k d low high = elim (cases_eq k i) [
  | inl same ↦ subst (λ n. report_order (get_or list n d).set set ≡ Less) (sym same) (less d)
  | inr differ ↦ report_order_total.trans (get_or list k d).set (get_or list i d).set set (before_less list k i d up (omega arith) below) (less d)
]

-- the sets from a greater one on are greater
pub greater_from : (list : List Counted) (set : List ℕ) (i : ℕ) → IsSorted list
    → HoldsAt (λ c. report_order c.set set ≡ Greater) list i → AllWithin (λ c. report_order c.set set ≡ Greater) list i (length list)
greater_from list set i up more k d low high = elim (cases_eq k i) [
  | inl same ↦ subst (λ n. report_order (get_or list n d).set set ≡ Greater) (sym same) (more d)
  | inr differ ↦ report_order_total.antisymm (get_or list k d).set set ∙ ap ordering_reverse (report_order_total.trans set (get_or list i d).set (get_or list k d).set
      (report_order_total.antisymm set (get_or list i d).set ∙ ap ordering_reverse (more d)) (before_less list i k d up (omega arith) high))
]

-- a set that was compared
pub compared_at : (list : List Counted) (set : List ℕ) (i : ℕ) (items : List ℕ) (result o : Ordering) → i < length list → items ≡ set_at list i
    → result ≡ report_order items set → result ≡ o → HoldsAt (λ x. report_order x.set set ≡ o) list i
compared_at list set i items result o below is compared same d = ap (λ s. report_order s set) (sym (is ∙ set_is list i d below)) ∙ sym compared ∙ same

-- ---- one set at one index

before_is_other : (list : List Counted) (i j : ℕ) → IsSorted list → i < j → j < length list → set_at list i ≡ set_at list j → ⊥
before_is_other list i j up less below e =
    let long = length-map list (λ (c : Counted). c.set) in
    let before : report_order (set_at list i) (set_at list j) ≡ Less = Less-from_sorted report_order (sets_in list) i j [] up less (omega arith) in
    let tie : report_order (set_at list i) (set_at list j) ≡ Equal = ap (report_order (set_at list i)) (sym e) ∙ tied_itself report_order_total (set_at list i) in
    cc

-- in a sorted list a set stands once
pub stands_once : (list : List Counted) (i j : ℕ) → IsSorted list → i < length list → j < length list → set_at list i ≡ set_at list j → i ≡ j
stands_once list i j up low high e = grind (arith, common_steps, cases_lt, before_is_other)

-- ---- the search is over

pub stands : (list : List Counted) (set : List ℕ) (i : ℕ) → i < length list → HoldsAt (λ c. report_order c.set set ≡ Equal) list i → set_at list i ≡ set
stands [] set i below same = absurd (omega (arith, below))
stands (c ∷ list) set i below same = set_is (c ∷ list) i c below ∙ equal_sets (get_or (c ∷ list) i c).set set (same c)

pub is_missing : (list : List Counted) (set : List ℕ) (start end : ℕ) → end ≤ start → IsBetween start end list set → (k : ℕ) → k < length list → set_at list k ≡ set → ⊥
is_missing [] set start end over b k below e = absurd (omega (arith, below))
is_missing (c ∷ list) set start end over b k below e = grind (arith, common_steps, set_is (c ∷ list) k c below, tied_itself report_order_total set, cases_lt k start)
