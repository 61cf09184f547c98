-- A text that is cut after a line feed.
use Rattle.std.proofs.lemmas.Grind.{common_steps}
use Rattle.std.proofs.Common.{◌≡◌, ℕ, ◌+◌, List, [], ◌∷◌, ◌++◌, length, take, drop, take-append-drop, Result, Ok, Err, refl, sym, ap, ◌∙◌, subst, arith}
use Rattle.basket_read.specs.declared.fault.ReadFault.{ReadFault}
use Rattle.basket_read.specs.Cut.{cut_at, parts_of}
use Rattle.basket_read.specs.Fimi.{is_line_feed, or_else}
use Rattle.basket_read.specs.Text.{EndsLine}
use Rattle.basket_read.proofs.theory.Cuts.{cut_after}
use Rattle.basket_read.proofs.theory.Grammar as grammar
use Rattle.basket_counts.specs.declared.listed_sets.ListedSets.{ListedSets}
use Rattle.basket_counts.specs.Counts.{ListedSet, is_line, fault_at_from, fault_from, entries_from}
use Rattle.basket_counts.specs.ListedSets.{HasEntries}
use Rattle.basket_counts.specs.Text.{SaysFrom}
use Rattle.basket_counts.proofs.TextLemmas.{entries_append}

module _ (before : ℕ) (bytes prefix rest : List ℕ) (end : ℕ) (is_front : prefix ≡ take end bytes) (is_rest : rest ≡ drop end bytes) (ends : EndsLine (take end bytes)) where
  both : prefix ++ rest ≡ bytes
  both = (λ i. is_front i ++ is_rest i) ∙ take-append-drop end bytes

  whole : (cut_at is_line_feed prefix).last ≡ []
  whole = ap (λ l. (cut_at is_line_feed l).last) is_front ∙ ends []

  abbrev lines : List (List ℕ)
  lines = (cut_at is_line_feed prefix).ended

  -- the number of the first line, and of the first line of the rest
  abbrev first : ℕ
  first = before + 1

  abbrev next_line : ℕ
  next_line = before + length lines + 1

  -- a fault of the rest has the line that it has in the whole
  fault_at_on : (text : List ℕ) (byte : ℕ) → fault_at_from first (prefix ++ text) byte ≡ fault_at_from next_line text byte
  fault_at_on text byte = let after = cut_after is_line_feed prefix text whole in grind (arith, common_steps)

  fault_of_both : fault_from first bytes ≡ or_else (fault_from first prefix) (fault_from next_line rest)
  fault_of_both =
      ap (fault_from first) (sym both) ∙ grammar.fault_of_both is_line (fault_at_from first) refl prefix whole (fault_at_from next_line) fault_at_on rest

  entries_of_both : entries_from first (parts_of is_line_feed prefix) ++ entries_from next_line (parts_of is_line_feed rest) ≡ entries_from first (parts_of is_line_feed bytes)
  entries_of_both =
      let after = cut_after is_line_feed prefix rest whole in
      let none = entries_append first lines ([] ∷ []) in
      let more = entries_append first lines (parts_of is_line_feed rest) in
      grind (arith, common_steps, both)

  module _ (of_front : Result ListedSets ReadFault) (says_front : SaysFrom first prefix of_front) where
    pub front_fault : (fault : ReadFault) → of_front ≡ Err fault → SaysFrom first bytes (Err fault)
    front_fault fault e = λ no_memory. fault_of_both ∙ ap (λ f. or_else f (fault_from next_line rest)) (subst (SaysFrom first prefix) e says_front no_memory)

    module _ (of_rest : Result ListedSets ReadFault) (says_rest : SaysFrom next_line rest of_rest) (listed : ListedSets) (e : of_front ≡ Ok listed) where
      pub rest_fault : (fault : ReadFault) → of_rest ≡ Err fault → SaysFrom first bytes (Err fault)
      rest_fault fault f = λ no_memory. fault_of_both ∙ (λ i. or_else ((subst (SaysFrom first prefix) e says_front).0 i) (subst (SaysFrom next_line rest) f says_rest no_memory i))

      pub joined : (later new : ListedSets) → of_rest ≡ Ok later → ((entries more : List ListedSet) → HasEntries listed entries → HasEntries later more → HasEntries new (entries ++ more)) → SaysFrom first bytes (Ok new)
      joined later new f join = grind (arith, fault_of_both, entries_of_both)
