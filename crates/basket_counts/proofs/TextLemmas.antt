-- How a text goes on with one more byte.
use Rattle.std.proofs.lemmas.Grind.{common_steps}
use Rattle.std.proofs.Common.{◌≡◌, ℕ, ◌+◌, true, false, List, [], ◌∷◌, ◌++◌, length, take, take-add, drop, cond, Some, refl, sym, ap, ◌∙◌, subst, arith}
use Rattle.std.proofs.lemmas.List.{append-nil}
use Rattle.basket_sets.specs.Number.{is_digit}
use Rattle.basket_read.specs.declared.fault.ReadFault.TheVariants.{Byte}
use Rattle.basket_read.specs.Cut.{cut_at}
use Rattle.basket_read.specs.Fimi.{is_line_feed}
use Rattle.basket_counts.specs.declared.listed_sets.ListedSets.{ListedSets}
use Rattle.basket_counts.specs.declared.line.SetLine.{SetLine}
use Rattle.basket_counts.specs.declared.text.SetText.{SetText}
use Rattle.basket_counts.specs.Counts.{ListedSet, is_line, fault_at_from, fault_from, entry_of, entries_from}
use Rattle.basket_counts.specs.Line.{line_state, line_at, said_at, digit_fault_in, IsLineSoFar}
use Rattle.basket_counts.specs.ListedSets.{HasEntries}
use Rattle.basket_counts.specs.Text.{IsTextSoFar}
use Rattle.basket_read.proofs.theory.Cuts.{cut_on}
use Rattle.basket_counts.proofs.LineLemmas.{no_line_feed, line_says, digit_says}
use Rattle.basket_counts.proofs.GrammarLemmas.{line_prefix, line_prefixes_are_good}
use Rattle.basket_read.proofs.theory.Grammar as grammar

-- what more lines say
pub entries_append : (line : ℕ) (texts more : List (List ℕ)) → entries_from line (texts ++ more) ≡ entries_from line texts ++ entries_from (length texts + line) more
entries_append line [] more = grind (arith, common_steps)
entries_append line (first ∷ texts) more = grind (arith, common_steps, entries_append (line + 1) texts more)

module _ (text : SetText) (number : ℕ) (bytes : List ℕ) (t : IsTextSoFar text number bytes) where
  abbrev ended : List (List ℕ)
  ended = (cut_at is_line_feed bytes).ended

  abbrev last : List ℕ
  last = (cut_at is_line_feed bytes).last

  pub line_so_far : IsLineSoFar text.line last
  line_so_far = record { good = (grammar.lines_good is_line (fault_at_from number) refl bytes t.faultless).1; state = t.state }

  -- the text goes on as its line does
  pub goes_on : (line : SetLine) (run : List ℕ) → IsLineSoFar line (last ++ run) → IsTextSoFar (record text { line = line }) number (bytes ++ run)
  goes_on line run s =
      let joined = cut_on is_line_feed is_line line_prefixes_are_good no_line_feed bytes run s.good in
      let good = (grammar.good_is_faultless is_line (fault_at_from number) refl line_prefix (bytes ++ run)).0 in
      let lines = grammar.lines_good is_line (fault_at_from number) refl bytes t.faultless in
      grind (arith, common_steps)

  -- a byte that the line refused
  pub refuses : (byte : ℕ) → is_line_feed byte ≡ false → is_line (last ++ byte ∷ []) ≡ false
      → fault_from number (bytes ++ byte ∷ []) ≡ Some (cond (is_digit byte) (digit_fault_in (line_state text.line).tail (text.ended + 1) byte) (Byte (text.ended + 1) byte))
  refuses byte e bad =
      let here = grammar.fault_here is_line (fault_at_from number) refl bytes t.faultless byte false e bad in
      let told = digit_says last (length ended + number) byte in
      grind (arith, common_steps)

  -- what the text says once its last line has ended
  pub says_all : (listed : ListedSets) → ((entries : List ListedSet) → HasEntries text.listed entries → HasEntries listed (entries ++ said_at (line_state text.line) (text.ended + 1)))
      → HasEntries listed (entries_from number (ended ++ last ∷ []))
  says_all listed more = grind (arith, line_says last (length ended + number), append-nil (entry_of last (length ended + number)), entries_append number ended (last ∷ []))

  pub takes_line_feed : (new : SetText) (byte : ℕ) → is_line_feed byte ≡ true → line_state new.line ≡ line_at [] → new.ended ≡ text.ended + 1
      → ((entries : List ListedSet) → HasEntries text.listed entries → HasEntries new.listed (entries ++ said_at (line_state text.line) (text.ended + 1)))
      → IsTextSoFar new number (bytes ++ byte ∷ [])
  takes_line_feed new byte e is lines more =
      let faultless = grammar.line_feed_here is_line (fault_at_from number) refl bytes t.faultless byte e in
      let all = says_all new.listed more in
      grind (arith, common_steps)

-- ---- bytes up to an index

-- bytes that the line took from an index on
pub run_taken : (text : SetText) (line : SetLine) (number : ℕ) (bytes piece : List ℕ) (i count : ℕ) → IsTextSoFar text number (take i bytes) → piece ≡ drop i bytes
    → ((prefix : List ℕ) → IsLineSoFar text.line prefix → IsLineSoFar line (prefix ++ take count piece)) → IsTextSoFar (record text { line = line }) number (take (i + count) bytes)
run_taken text line number bytes piece i count t e took =
    subst (IsTextSoFar (record text { line = line }) number) (ap (λ l. take i bytes ++ take count l) e ∙ sym (take-add i count bytes))
    (goes_on text number (take i bytes) t line (take count piece) (took (cut_at is_line_feed (take i bytes)).last (line_so_far text number (take i bytes) t)))
