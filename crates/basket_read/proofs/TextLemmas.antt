-- How a text goes on with one more byte, and what its first fault is.
use Rattle.std.proofs.Common.{◌≡◌, ℕ, ◌+◌, Bool, true, false, List, [], ◌∷◌, ◌++◌, cond, Some, Result, Ok, Err, refl, sym, ap, ◌∙◌, subst, append_assoc, take, drop, arith}
use Rattle.std.specs.List.{flat_map}
use Rattle.std.specs.Prelude.{IfOk, MatchResult}
use Rattle.std.proofs.lemmas.List.{take-append-drop}
use Rattle.std.proofs.lemmas.Grind.{common_steps}
use Rattle.basket_sets.specs.Number.{is_digit}
use Rattle.basket_read.specs.declared.fault.ReadFault.{ReadFault}
use Rattle.basket_read.specs.declared.fault.ReadFault.TheVariants.{Byte, Number}
use Rattle.basket_read.specs.declared.line.Line.{Line}
use Rattle.basket_read.specs.declared.text.Text.{Text}
use Rattle.basket_read.specs.Cut.{cut_at}
use Rattle.basket_read.specs.Fimi.{is_line_feed, is_line, basket_of, baskets_of, fault_at, first_fault}
use Rattle.basket_read.specs.Line.{line_state, line_at, line_ended, IsLineSoFar}
use Rattle.basket_read.specs.Fault.{ReturnsFault}
use Rattle.basket_read.specs.GatheredBaskets.{HasGathered}
use Rattle.basket_read.specs.Text.{basket_said, IsTextSoFar, ReadsOn}
use Rattle.basket_read.proofs.theory.Cuts.{cut_on}
use Rattle.basket_read.proofs.GrammarLemmas.{line_prefix, no_line_feed, good_is_faultless}
use Rattle.basket_read.proofs.theory.Grammar as grammar

module _ (text : Text) (counting : Bool) (bytes : List ℕ) (t : IsTextSoFar text counting bytes) where
  -- the text with another last line
  abbrev with_line : Line → Text
  with_line line = record text { line = line }

  abbrev last : List ℕ
  last = (cut_at is_line_feed bytes).last

  pub line_so_far : IsLineSoFar text.line last
  line_so_far = record { good = (grammar.lines_good is_line fault_at refl bytes t.faultless).1; state = t.line }

  -- the text goes on as its line does
  pub goes_on : (line : Line) (run : List ℕ) → IsLineSoFar line (last ++ run) → IsTextSoFar (with_line line) counting (bytes ++ run)
  goes_on line run s =
      let joined = cut_on is_line_feed is_line (grammar.line_prefixes_are_good is_line fault_at refl line_prefix) no_line_feed bytes run s.good in
      let good = (good_is_faultless (bytes ++ run)).0 in
      let lines = grammar.lines_good is_line fault_at refl bytes t.faultless in
      grind (arith, common_steps)

  -- a byte that the line refused
  pub refuses : (byte : ℕ) → is_line_feed byte ≡ false → is_line (last ++ byte ∷ []) ≡ false
      → first_fault (bytes ++ byte ∷ []) ≡ Some (cond (is_digit byte) (Number (text.lines + 1)) (Byte (text.lines + 1) byte))
  refuses byte e bad =
      grammar.fault_here is_line fault_at refl bytes t.faultless byte false e bad ∙ ap (λ n. Some (cond (is_digit byte) (Number (n + 1)) (Byte (n + 1) byte))) (sym t.lines)

  -- once the last line has ended, the baskets are those of the whole text
  pub all_ended : flat_map basket_of (cut_at is_line_feed bytes).ended ++ basket_said (line_ended (line_state text.line)) ≡ baskets_of bytes
  all_ended = grind (arith, common_steps)

  pub takes_line_feed : (new : Text) (byte : ℕ) → is_line_feed byte ≡ true → line_state new.line ≡ line_at [] → new.lines ≡ text.lines + 1
      → HasGathered new.gathered counting (flat_map basket_of (cut_at is_line_feed bytes).ended ++ basket_said (line_ended (line_state text.line))) → IsTextSoFar new counting (bytes ++ byte ∷ [])
  takes_line_feed new byte e is lines has = let faultless = grammar.line_feed_here is_line fault_at refl bytes t.faultless byte e in let all = all_ended in grind (arith, common_steps)

-- a piece in two parts, after what was before it
pub take_rest : (bytes piece : List ℕ) (i : ℕ) → (bytes ++ take i piece) ++ drop i piece ≡ bytes ++ piece
take_rest bytes piece i = append_assoc bytes (take i piece) (drop i piece) ∙ ap (λ l. bytes ++ l) (take-append-drop i piece)

-- a piece of which a prefix was read
module _ (text : Text) (prefix rest piece : List ℕ) (read : Result Text ReadFault) (reads : ReadsOn text prefix read (λ read. read)) (whole : prefix ++ rest ≡ piece) where
  -- a fault in the prefix is that of the piece
  pub stops_in_prefix : (fault : ReadFault) → read ≡ Err fault → ReadsOn text piece (Err fault) (λ (read : Text). read)
  stops_in_prefix fault e counting bytes so_far no_memory =
      ap first_fault (ap (λ l. bytes ++ l) (sym whole) ∙ sym (append_assoc bytes prefix rest))
      ∙ grammar.first_fault_stays is_line fault_at refl (bytes ++ prefix) rest fault ((rw e at (reads counting bytes so_far)) no_memory)

  -- and the rest goes on after the prefix
  pub goes_on_with_rest : (next : Text) (result : Result Text ReadFault) → read ≡ Ok next
      → ((counting : Bool) (bytes : List ℕ) → IsTextSoFar next counting (bytes ++ prefix)
      → MatchResult result (λ read. IsTextSoFar read counting ((bytes ++ prefix) ++ rest)) (λ fault. ReturnsFault fault (first_fault ((bytes ++ prefix) ++ rest))))
      → ReadsOn text piece result (λ read. read)
  goes_on_with_rest next result e on counting bytes so_far =
      subst (λ l. MatchResult result (λ read. IsTextSoFar read counting l) (λ fault. ReturnsFault fault (first_fault l))) (append_assoc bytes prefix rest ∙ ap (λ l. bytes ++ l) whole)
      (on counting bytes (rw e at (reads counting bytes so_far)))

pub if_ok : {A : Type 0} (result : Result A ReadFault) (P : A → Type 0) (Q : ReadFault → Type 0) → MatchResult result P Q → IfOk result P
if_ok result P Q h1 = grind (arith, common_steps)
