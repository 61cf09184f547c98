-- Lists of lines that say the same of each set.
use Rattle.std.proofs.lemmas.Grind.{common_steps}
use Rattle.std.proofs.Common.{◌≡◌, ℕ, ◌+◌, false, List, [], ◌∷◌, map, cond, refl, sym, ◌∙◌, inl, inr, arith}
use Rattle.std.specs.declared.cmp.Ordering.TheVariants.{Less}
use Rattle.std.specs.Prelude.{nat_eq}
use Rattle.std.specs.Cmp.Lexicographic.{pointwise}
use Rattle.std.specs.Option.{unwrap_or}
use Rattle.std.proofs.lemmas.Bool.{false_from_ne_true, true≢false, or_parts}
use Rattle.std.proofs.lemmas.Cmp.{tied_itself}
use Rattle.std.proofs.lemmas.List.Sums.{sum_by-cons}
use Rattle.std.proofs.lemmas.Simd.{map-map}
use Rattle.basket_read.specs.declared.counted_line.CountedLine.{CountedLine}
use Rattle.basket_sets.specs.Order.{IsInReportOrder, report_order, report_order_total}
use Rattle.basket_sets.proofs.theory.Members.{Member, Member-map, first_is_less, rest_is_sorted}
use Rattle.basket_parts.specs.CombinedCounts.{is_of, has_set, count_in, line_in, line_for, combined, count_if, total_in}
use Rattle.basket_parts.proofs.theory.Sets.{set_of, same_items, itself, listed_from_has, same_sets, sets_listed}

-- both lists have a set or neither has, with one count, first in one line
pub record SaysSame (a b : List CountedLine) (set : List ℕ) : Type 0 where
  pub has : has_set a set ≡ has_set b set
  pub count : count_in a set ≡ count_in b set
  pub line : line_in a set ≡ line_in b set

pub says_itself : (a : List CountedLine) (set : List ℕ) → SaysSame a a set
says_itself a set = record { has = refl; count = refl; line = refl }

pub says_on : (a b c : List CountedLine) (set : List ℕ) → SaysSame a b set → SaysSame b c set → SaysSame a c set
says_on a b c set s t = record { has = s.has ∙ t.has; count = s.count ∙ t.count; line = s.line ∙ t.line }

-- what a line adds to the count of a set
abbrev pub adds : List ℕ → CountedLine → ℕ
adds set line = cond (is_of set line) line.count 0

pub count_more : (line : CountedLine) (lines : List CountedLine) (set : List ℕ) → count_in (line ∷ lines) set ≡ adds set line + count_in lines set
count_more line lines set = sum_by-cons (adds set) line lines

-- one line more in front of both
pub says_more : (line : CountedLine) (a b : List CountedLine) (set : List ℕ) → SaysSame a b set → SaysSame (line ∷ a) (line ∷ b) set
says_more line a b set s = grind (arith, common_steps)

-- lists that say the same of each set are the same put together
pub same_together : (a b : List CountedLine) → ((set : List ℕ) → SaysSame a b set) → combined a ≡ combined b
same_together a b same = grind (arith, same_sets)

-- ---- a set that no line has

pub no_count : (lines : List CountedLine) (set : List ℕ) → has_set lines set ≡ false → count_in lines set ≡ 0
no_count [] set h = refl
no_count (line ∷ lines) set h = let parts = or_parts (is_of set line) (has_set lines set) h in let rest = no_count lines set parts.1 in grind (arith, count_more)

pub no_line : (lines : List CountedLine) (set : List ℕ) → has_set lines set ≡ false → line_in lines set ≡ 0
no_line [] set h = refl
no_line (line ∷ lines) set h = let parts = or_parts (is_of set line) (has_set lines set) h in let rest = no_line lines set parts.1 in grind arith

-- the count of the empty set, or 0 where no line has it
pub total_or_none : (lines : List CountedLine) → unwrap_or (count_if lines []) 0 ≡ total_in lines
total_or_none lines = grind (arith, no_count lines [])

-- ---- lines whose sets are in report order

differs : (a b : List ℕ) → report_order a b ≡ Less → pointwise nat_eq a b ≡ false
differs a b less = grind (arith, tied_itself report_order_total a, false_from_ne_true, same_items)

first_alone : (line : CountedLine) (lines : List CountedLine) → IsInReportOrder (map set_of (line ∷ lines)) → has_set lines line.set ≡ false
first_alone line lines up = false_from_ne_true (has_set lines line.set) (λ e.
    true≢false (sym (itself line.set) ∙ differs line.set line.set (first_is_less report_order_total line.set line.set (map set_of lines) up (listed_from_has lines line.set e))))

-- each line stands alone for its set
pub stands_alone : (lines : List CountedLine) → IsInReportOrder (map set_of lines) → (line : CountedLine) → Member line lines → line_for lines line.set ≡ line
stands_alone [] up line m = absurd m
stands_alone (first ∷ lines) up line (inl e) = grind (arith, itself first.set, first_alone, no_count, count_more)
stands_alone (first ∷ lines) up line (inr m) = (λ k. record { set = line.set; count = count k; line = number k }) ∙ stands_alone lines (rest_is_sorted report_order_total first.set (map set_of lines) up) line m
  where
    other : is_of line.set first ≡ false
    other = differs first.set line.set (first_is_less report_order_total first.set line.set (map set_of lines) up (Member-map set_of line lines m))

    count : count_in (first ∷ lines) line.set ≡ count_in lines line.set
    count = let apart = other in grind (arith, count_more)

    number : line_in (first ∷ lines) line.set ≡ line_in lines line.set
    number = let apart = other in grind arith

same_map : {X : Type 0} (f : X → X) (xs : List X) → ((x : X) → Member x xs → f x ≡ x) → map f xs ≡ xs
same_map f [] same = refl
same_map f (x ∷ xs) same = let head = same x (inl refl) in let rest = same_map f xs (λ y m. same y (inr m)) in cc

-- they are what comes of putting them together
pub together_already : (lines : List CountedLine) → IsInReportOrder (map set_of lines) → combined lines ≡ lines
together_already lines up = grind (arith, sets_listed lines up, map-map (line_for lines) set_of lines, stands_alone lines up, same_map)
