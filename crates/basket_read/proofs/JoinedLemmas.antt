-- A text after whole lines.
use Rattle.std.proofs.Common.{◌≡◌, ℕ, ◌+◌, Bool, List, [], ◌∷◌, ◌++◌, length, refl, ap, ◌∙◌, arith, inl, inr}
use Rattle.std.specs.List.{flat_map}
use Rattle.std.specs.Option.{option_map}
use Rattle.std.proofs.lemmas.Bool.{cases_Bool}
use Rattle.std.proofs.lemmas.Grind.{flat_map-append, common_steps}
use Rattle.std.proofs.lemmas.List.{length-append}
use Rattle.basket_sets.specs.Number.{is_digit}
use Rattle.basket_read.specs.declared.fault.ReadFault.{ReadFault}
use Rattle.basket_read.specs.declared.text.Text.{Text}
use Rattle.basket_read.specs.Cut.{cut_at}
use Rattle.basket_read.specs.Fimi.{is_line_feed, is_line, is_good, basket_of, baskets_of, line_after, fault_at, fault_after, first_fault, or_else}
use Rattle.basket_read.specs.Line.{line_state}
use Rattle.basket_read.specs.GatheredBaskets.{HasGathered}
use Rattle.basket_read.specs.Text.{IsTextSoFar}
use Rattle.basket_read.specs.Grammar.{first_fault_by}
use Rattle.basket_read.specs.Laws.{counted_on, LinesSayTheirs}
use Rattle.basket_read.proofs.theory.Cuts.{cut_after}
use Rattle.basket_read.proofs.theory.Grammar as grammar

module _ (prefix : List ℕ) (whole : (cut_at is_line_feed prefix).last ≡ []) where
  abbrev lines : List (List ℕ)
  lines = (cut_at is_line_feed prefix).ended

  baskets_of_both : (rest : List ℕ) → baskets_of (prefix ++ rest) ≡ baskets_of prefix ++ baskets_of rest
  baskets_of_both rest = let after = cut_after is_line_feed prefix rest whole in grind (arith, common_steps)

  line_on : (before : List ℕ) → line_after (prefix ++ before) ≡ length lines + line_after before
  line_on before = grind (arith, cut_after is_line_feed prefix before whole, length-append)

  fault_at_on : (before : List ℕ) (byte : ℕ) → fault_at (prefix ++ before) byte ≡ counted_on (length lines) (fault_at before byte)
  fault_at_on before byte = elim (cases_Bool (is_digit byte)) [ inl d ↦ rw (d, line_on before) | inr d ↦ rw (d, line_on before) ]

-- faults that are told otherwise
told_by : (f : ReadFault → ReadFault) (before text : List ℕ) → first_fault_by is_good (λ before byte. f (fault_at before byte)) before text ≡ option_map f (fault_after before text)
told_by f before [] = refl
told_by f before (byte ∷ text) = grind (arith, common_steps, told_by f (before ++ byte ∷ []) text)

pub lines_say_theirs : LinesSayTheirs
lines_say_theirs prefix rest whole =
    let lines = length (cut_at is_line_feed prefix).ended in
    record {
      baskets = baskets_of_both prefix whole rest;
      fault = grammar.fault_of_both is_line fault_at refl prefix whole (λ before byte. counted_on lines (fault_at before byte)) (fault_at_on prefix whole) rest
          ∙ ap (or_else (first_fault prefix)) (told_by (counted_on lines) [] rest);
    }

-- ---- two texts that were read

pub texts_joined : (text other new : Text) (counting apart : Bool) (bytes more : List ℕ) → IsTextSoFar text counting bytes → (cut_at is_line_feed bytes).last ≡ [] → IsTextSoFar other apart more
    → new.lines ≡ text.lines + other.lines → line_state new.line ≡ line_state other.line
    → HasGathered new.gathered counting (flat_map basket_of (cut_at is_line_feed bytes).ended ++ flat_map basket_of (cut_at is_line_feed more).ended)
    → IsTextSoFar new counting (bytes ++ more)
texts_joined text other new counting apart bytes more t whole o lines line gathered = grind (arith, cut_after is_line_feed bytes more whole, lines_say_theirs bytes more whole, length-append, flat_map-append)
