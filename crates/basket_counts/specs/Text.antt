-- What a text that is being read stands for.
use Rattle.std.specs.Prelude.{◌≡◌, ℕ, ◌+◌, List, length, None, Result, MatchResult}
use Rattle.basket_read.specs.declared.fault.ReadFault.{ReadFault}
use Rattle.basket_read.specs.Cut.{cut_at, parts_of}
use Rattle.basket_read.specs.Fimi.{is_line_feed}
use Rattle.basket_read.specs.Fault.{ReturnsFault}
use Rattle.basket_counts.specs.declared.listed_sets.ListedSets.{ListedSets}
use Rattle.basket_counts.specs.declared.text.SetText.{SetText}
use Rattle.basket_counts.specs.Counts.{fault_from, entries_from}
use Rattle.basket_counts.specs.Line.{line_state, line_at}
use Rattle.basket_counts.specs.ListedSets.{HasEntries}

-- the text that was read is of these bytes, of which the first line has this number, and has no fault
pub record IsTextSoFar (text : SetText) (line : ℕ) (bytes : List ℕ) : Type 0 where
  pub faultless : fault_from line bytes ≡ None
  pub ended : text.ended + 1 ≡ length (cut_at is_line_feed bytes).ended + line
  pub listed : HasEntries text.listed (entries_from line (cut_at is_line_feed bytes).ended)
  pub state : line_state text.line ≡ line_at (cut_at is_line_feed bytes).last

-- except if memory is out, a text of which the first line has this number has no fault and says this, or the fault is its first
abbrev pub SaysFrom : ℕ → List ℕ → Result ListedSets ReadFault → Type 0
SaysFrom line text result = MatchResult result
    (λ listed. (fault_from line text ≡ None) × HasEntries listed (entries_from line (parts_of is_line_feed text)))
    (λ fault. ReturnsFault fault (fault_from line text))
