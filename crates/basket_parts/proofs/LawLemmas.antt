-- What putting together keeps.
use Rattle.std.proofs.Common.{◌≡◌, ℕ, ◌&&◌, not, List, [], ◌∷◌, ◌++◌, map, filter, length, eqb, cond, refl, sym, ap, ◌∙◌, subst, inl, inr, arith}
use Rattle.std.proofs.lemmas.List.{map-id}
use Rattle.std.proofs.lemmas.List.Folds.{list_any-append}
use Rattle.std.proofs.lemmas.Simd.{map-map}
use Rattle.std.proofs.lemmas.Bool.{cases_Bool}
use Rattle.std.proofs.lemmas.List.Sums.{sum_by-append}
use Rattle.basket_read.specs.declared.counted_line.CountedLine.{CountedLine}
use Rattle.basket_sets.specs.declared.counted.Counted.{Counted}
use Rattle.basket_sets.specs.declared.minimum.Minimum.{Minimum}
use Rattle.basket_sets.specs.Minimum.{meets}
use Rattle.basket_sets.specs.Order.{IsInReportOrder}
use Rattle.basket_sets.proofs.theory.Members.{Member-map}
use Rattle.basket_sets.proofs.theory.Rising.{same_test}
use Rattle.basket_parts.specs.CombinedCounts.{is_of, has_set, count_in, line_in, sets_of, line_for, combined}
use Rattle.basket_parts.specs.Laws.{CountsAddUp, CombiningByParts, CombiningKeepsCounts, CombiningKeepsFrequent, CombiningKeepsSets}
use Rattle.basket_parts.proofs.theory.Sets.{set_of, sets-in_order, has_from_sets, sets_from_has, has_from_listed, listed_from_has, same_sets}
use Rattle.basket_parts.proofs.SameLemmas.{SaysSame, adds, no_count, no_line, stands_alone, same_together}

-- ---- the lines put together say the same of each set

sets_of_together : (lines : List CountedLine) (sets : List (List ℕ)) → map set_of (map (line_for lines) sets) ≡ sets
sets_of_together lines sets = map-map set_of (line_for lines) sets ∙ map-id sets

combined-in_order : (lines : List CountedLine) → IsInReportOrder (map set_of (combined lines))
combined-in_order lines = subst IsInReportOrder (sym (sets_of_together lines (sets_of lines))) (sets-in_order lines)

has_together : (lines : List CountedLine) (set : List ℕ) → has_set (combined lines) set ≡ has_set lines set
has_together lines set = grind (arith, sets_of_together lines (sets_of lines), same_test, has_from_sets, listed_from_has, has_from_listed, sets_from_has)

pub says_together : (lines : List CountedLine) (set : List ℕ) → SaysSame (combined lines) lines set
says_together lines set = elim (cases_Bool (has_set lines set)) [
  | inl e ↦ (let alone = stands_alone (combined lines) (combined-in_order lines) (line_for lines set) (Member-map (line_for lines) set (sets_of lines) (sets_from_has lines set e)) in
      record { has = has_together lines set; count = ap (λ (l : CountedLine). l.count) alone; line = ap (λ (l : CountedLine). l.line) alone })
  | inr e ↦ (let none = has_together lines set ∙ e in
      record {
        has = has_together lines set;
        count = no_count (combined lines) set none ∙ sym (no_count lines set e);
        line = no_line (combined lines) set none ∙ sym (no_line lines set e);
      })
]

-- ---- two lists of lines

line-append : (a b : List CountedLine) (set : List ℕ) → line_in (a ++ b) set ≡ cond (has_set a set) (line_in a set) (line_in b set)
line-append [] b set = refl
line-append (line ∷ a) b set = let rest = line-append a b set in grind arith

says_append : (a b c d : List CountedLine) (set : List ℕ) → SaysSame a c set → SaysSame b d set → SaysSame (a ++ b) (c ++ d) set
says_append a b c d set s t = grind (arith, list_any-append (is_of set) a b, list_any-append (is_of set) c d, sum_by-append (adds set) a b, sum_by-append (adds set) c d, adds set, line-append a b set, line-append c d set)

-- ---- the laws

pub combining_keeps_sets : CombiningKeepsSets
combining_keeps_sets lines set = (says_together lines set).has

pub combining_keeps_counts : CombiningKeepsCounts
combining_keeps_counts lines set = (says_together lines set).count

-- what is frequent by counts and sets alone
abbrev frequent_by : (List ℕ → ℕ) → List (List ℕ) → Minimum → List Counted
frequent_by counts sets minimum =
    map (λ set. record { set = set; count = counts set }) (filter (λ set. not (eqb (length set) 0) && meets minimum (counts set) (counts [])) sets)

pub combining_keeps_frequent : CombiningKeepsFrequent
combining_keeps_frequent lines minimum =
    let counts : count_in (combined lines) ≡ count_in lines = λ k set. (says_together lines set).count k in
    ap (λ sets. frequent_by (count_in (combined lines)) sets minimum) (same_sets (combined lines) lines (λ set. (says_together lines set).has))
    ∙ ap (λ counts. frequent_by counts (sets_of lines) minimum) counts

pub counts_add_up : CountsAddUp
counts_add_up a b set = sum_by-append (adds set) a b

pub combining_by_parts : CombiningByParts
combining_by_parts a b =
    same_together (combined a ++ combined b) (a ++ b) (λ set. says_append (combined a) (combined b) a b set (says_together a set) (says_together b set))
