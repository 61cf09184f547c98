-- Texts of lines: their first fault, and what a byte more does.
use Rattle.std.proofs.lemmas.Grind.{common_steps}
use Rattle.std.proofs.Common.{◌≡◌, ◌≢◌, ℕ, ◌+◌, ◌<◌, Bool, true, false, ◌&&◌, List, [], ◌∷◌, ◌++◌, length, take, drop, get_or, take-append-drop, cond, Option, Some, None, refl, sym, ap, ◌∙◌, subst, append_assoc, inl, inr, arith}
use Rattle.std.specs.List.{list_all}
use Rattle.std.proofs.lemmas.Bool.{cases_Bool, and_parts}
use Rattle.std.proofs.lemmas.List.{append-nil, take_more}
use Rattle.std.proofs.lemmas.List.Folds.{list_all-append}
use Rattle.basket_sets.proofs.theory.Numerals.{all_push}
use Rattle.basket_read.specs.declared.fault.ReadFault.{ReadFault}
use Rattle.basket_read.specs.Fault.{ReturnsFault}
use Rattle.basket_read.specs.Cut.{Cut, cut_at, parts_of}
use Rattle.basket_read.specs.Fimi.{is_line_feed, or_else}
use Rattle.basket_read.specs.Grammar.{first_fault_by, PrefixesAreGood, GoodIsFaultless, HasFault, FirstFaultIsExact}
use Rattle.basket_read.proofs.theory.Cuts.{cut_ended, cut_joined, cut_after}

-- what a choice gave
pub chosen : {S : Type 0} (s x : S) (b : Bool) → ◌≡◌ {A = Option S} (Some s) (cond b (Some x) None) → (b ≡ true) × (s ≡ x)
chosen s x b h1 = grind (arith, common_steps)

-- a byte of a piece, after those before it
pub take_next : (bytes piece : List ℕ) (i : ℕ) → i < length piece → (bytes ++ take i piece) ++ get_or piece i 0 ∷ [] ≡ bytes ++ take (i + 1) piece
take_next bytes piece i below = append_assoc bytes (take i piece) (get_or piece i 0 ∷ []) ∙ ap (λ l. bytes ++ l) (sym (take_more piece i 0 below))

abbrev pub found : Bool → Option ReadFault → ReadFault → Option ReadFault
found good later fault = cond good later (Some fault)

module _ (is_line : List ℕ → Bool) (fault_at : List ℕ → ℕ → ReadFault) (empty : is_line [] ≡ true) where
  -- each line of a text is one
  abbrev good : List ℕ → Bool
  good text = list_all is_line (parts_of is_line_feed text)

  abbrev after : List ℕ → List ℕ → Option ReadFault
  after before text = first_fault_by good fault_at before text

  -- the fault of a text in two parts is that of the first, else that of the second after the first
  pub fault_after-append : (before a b : List ℕ) → after before (a ++ b) ≡ or_else (after before a) (after (before ++ a) b)
  fault_after-append before [] b = ap (λ l. after l b) (sym (append-nil before))
  fault_after-append before (byte ∷ a) b = grind (arith, common_steps, fault_after-append (before ++ byte ∷ []) a b)

  -- a text without a fault is good
  good_after : (before text : List ℕ) → good before ≡ true → after before text ≡ None → good (before ++ text) ≡ true
  good_after before [] h e = ap good (append-nil before) ∙ h
  good_after before (byte ∷ text) h e = elim (cases_Bool (good (before ++ byte ∷ []))) [
    | inl g ↦ ap good (sym (append_assoc before (byte ∷ []) text)) ∙ good_after (before ++ byte ∷ []) text g (rw g at e)
    | inr g ↦ absurd (let no = rw g at e in cc)
  ]

  none_good : good [] ≡ true
  none_good = ap (λ b. b && true) empty

  pub good-from_faultless : (text : List ℕ) → after [] text ≡ None → good text ≡ true
  good-from_faultless text e = good_after [] text none_good e

  -- what follows a text without a fault
  pub first_fault_after : (a b : List ℕ) → after [] a ≡ None → after [] (a ++ b) ≡ after a b
  first_fault_after a b e = fault_after-append [] a b ∙ ap (λ f. or_else f (after a b)) e

  -- what follows a fault changes nothing
  pub first_fault_stays : (a b : List ℕ) (fault : ReadFault) → after [] a ≡ Some fault → after [] (a ++ b) ≡ Some fault
  first_fault_stays a b fault e = fault_after-append [] a b ∙ ap (λ f. or_else f (after a b)) e

  -- a fault at a byte of a piece is that of the piece
  pub fault_in_piece : (bytes piece : List ℕ) (i : ℕ) (fault : ReadFault) → i < length piece
      → ReturnsFault fault (after [] ((bytes ++ take i piece) ++ get_or piece i 0 ∷ [])) → ReturnsFault fault (after [] (bytes ++ piece))
  fault_in_piece bytes piece i fault below told no_memory = grind (arith, take-append-drop (i + 1) piece, append_assoc bytes (take (i + 1) piece) (drop (i + 1) piece), take_next bytes piece i below, first_fault_stays)

  first_fault_push : (text : List ℕ) (byte : ℕ) (well : Bool) → after [] text ≡ None → good (text ++ byte ∷ []) ≡ well
      → after [] (text ++ byte ∷ []) ≡ cond well None (Some (fault_at text byte))
  first_fault_push text byte well e g = first_fault_after text (byte ∷ []) e ∙ ap (λ b. found b None (fault_at text byte)) g

  -- a fault that no byte has is that of no text
  pub other_fault : (fault : ReadFault) → ((before : List ℕ) (byte : ℕ) → fault_at before byte ≢ fault) → (before text : List ℕ) → after before text ≢ Some fault
  other_fault fault other before [] e = absurd cc
  other_fault fault other before (byte ∷ text) e = elim (cases_Bool (good (before ++ byte ∷ []))) [
    | inl g ↦ other_fault fault other (before ++ byte ∷ []) text (rw g at e)
    | inr g ↦ other before byte (let found = rw g at e in cc)
  ]

  -- ---- one more byte

  module _ (text : List ℕ) (faultless : after [] text ≡ None) where
    abbrev so_far : Cut
    so_far = cut_at is_line_feed text

    pub lines_good : (list_all is_line so_far.ended ≡ true) × (is_line so_far.last ≡ true)
    lines_good = and_parts (list_all is_line so_far.ended) (is_line so_far.last) (sym (all_push is_line so_far.ended so_far.last) ∙ good-from_faultless text faultless)

    -- a byte in a line is the first fault if the line is none with it
    pub fault_here : (byte : ℕ) (well : Bool) → is_line_feed byte ≡ false → is_line (so_far.last ++ byte ∷ []) ≡ well → after [] (text ++ byte ∷ []) ≡ cond well None (Some (fault_at text byte))
    fault_here byte well e is =
        first_fault_push text byte well faultless
        (ap (λ (k : Cut). list_all is_line (k.ended ++ k.last ∷ [])) (cut_joined is_line_feed text byte e)
        ∙ all_push is_line so_far.ended (so_far.last ++ byte ∷ []) ∙ ap (λ b. b && is_line (so_far.last ++ byte ∷ [])) lines_good.0 ∙ is)

    -- a line feed is no fault
    pub line_feed_here : (byte : ℕ) → is_line_feed byte ≡ true → after [] (text ++ byte ∷ []) ≡ None
    line_feed_here byte e =
        first_fault_push text byte true faultless
        (ap (λ (k : Cut). list_all is_line (k.ended ++ k.last ∷ [])) (cut_ended is_line_feed text byte e)
        ∙ all_push is_line (so_far.ended ++ so_far.last ∷ []) [] ∙ ap (λ b. b && is_line []) (good-from_faultless text faultless) ∙ empty)

  -- ---- after whole lines

  module _ (prefix : List ℕ) (whole : (cut_at is_line_feed prefix).last ≡ []) where
    good_after_lines : good prefix ≡ true → (rest : List ℕ) → good (prefix ++ rest) ≡ good rest
    good_after_lines well rest = grind (arith, cut_after is_line_feed prefix rest whole, lines_good, and_parts, list_all-append, append_assoc)

    -- the fault of a byte after the lines, as it is told without them
    module _ (told : List ℕ → ℕ → ReadFault) (same : (before : List ℕ) (byte : ℕ) → fault_at (prefix ++ before) byte ≡ told before byte) where
      fault_after_lines : good prefix ≡ true → (before rest : List ℕ) → after (prefix ++ before) rest ≡ first_fault_by good told before rest
      fault_after_lines well before [] = refl
      fault_after_lines well before (byte ∷ rest) = grind (arith, fault_after_lines well (before ++ byte ∷ []) rest, append_assoc prefix before (byte ∷ []), good_after_lines well (before ++ byte ∷ []))

      -- the fault of the lines, else that of the rest
      pub fault_of_both : (rest : List ℕ) → after [] (prefix ++ rest) ≡ or_else (after [] prefix) (first_fault_by good told [] rest)
      fault_of_both rest = fault_after-append [] prefix rest ∙ at (after [] prefix) refl
        where
          at : (fault : Option ReadFault) → after [] prefix ≡ fault → or_else fault (after prefix rest) ≡ or_else fault (first_fault_by good told [] rest)
          at (Some fault) e = refl
          at None e = ap (λ l. after l rest) (sym (append-nil prefix)) ∙ fault_after_lines (good-from_faultless prefix e) [] rest

  -- ---- prefixes

  module _ (line_prefix : (line : List ℕ) (byte : ℕ) → is_line (line ++ byte ∷ []) ≡ true → is_line line ≡ true) where
    pub line_prefixes_are_good : PrefixesAreGood is_line
    line_prefixes_are_good prefix [] h = ap is_line (sym (append-nil prefix)) ∙ h
    line_prefixes_are_good prefix (byte ∷ rest) h = grind (arith, common_steps, line_prefixes_are_good (prefix ++ byte ∷ []) rest (ap is_line (append_assoc prefix (byte ∷ []) rest) ∙ h))

    pub prefixes_are_good : PrefixesAreGood good
    prefixes_are_good prefix [] h = ap good (sym (append-nil prefix)) ∙ h
    prefixes_are_good prefix (byte ∷ rest) h = grind (arith, common_steps, prefixes_are_good (prefix ++ byte ∷ []) rest (ap good (append_assoc prefix (byte ∷ []) rest) ∙ h))

    -- a good text has no fault after any prefix
    faultless_after : (before text : List ℕ) → good (before ++ text) ≡ true → after before text ≡ None
    faultless_after before [] h = refl
    faultless_after before (byte ∷ text) h =
        let whole = ap good (append_assoc before (byte ∷ []) text) ∙ h in
        ap (λ b. found b (after (before ++ byte ∷ []) text) (fault_at before byte)) (prefixes_are_good (before ++ byte ∷ []) text whole)
        ∙ faultless_after (before ++ byte ∷ []) text whole

    pub good_is_faultless : GoodIsFaultless good fault_at
    good_is_faultless text = (faultless_after [] text, good-from_faultless text)

    -- where the first fault stands
    fault_stands : (before text : List ℕ) (fault : ReadFault) → good before ≡ true → after before text ≡ Some fault → HasFault good fault_at (before ++ text) fault
    fault_stands before [] fault h e = absurd cc
    fault_stands before (byte ∷ text) fault h e = elim (cases_Bool (good (before ++ byte ∷ []))) [
      | inl g ↦ subst (λ l. HasFault good fault_at l fault) (append_assoc before (byte ∷ []) text) (fault_stands (before ++ byte ∷ []) text fault g (rw g at e))
      | inr g ↦ record { before = before; byte = byte; rest = text; whole = refl; good = h; bad = g; told = (let found = rw g at e in cc) }
    ]

    pub first_fault_is_exact : FirstFaultIsExact good fault_at
    first_fault_is_exact text fault = (
      fault_stands [] text fault none_good,
      λ f. ap (λ t. after [] t) f.whole ∙ first_fault_after f.before (f.byte ∷ f.rest) (faultless_after [] f.before f.good)
          ∙ ap (λ b. found b (after (f.before ++ f.byte ∷ []) f.rest) (fault_at f.before f.byte)) f.bad ∙ ap Some (sym f.told),
    )
