-- What stands at the beginning of an input, and the faults of an input that goes on.
use Rattle.std.proofs.lemmas.Grind.{common_steps}
use Rattle.std.proofs.Common.{◌≡◌, ◌≢◌, ℕ, ◌+◌, ◌-◌, ◌<◌, ◌≤◌, Bool, true, false, ltb, List, [], ◌∷◌, ◌++◌, length, take, drop, cond, Option, Some, None, refl, sym, ap, ◌∙◌, subst, inl, inr, arith, nat_eq, get_or}
use Rattle.std.specs.Cmp.Lexicographic.{pointwise, bytes_decides}
use Rattle.std.proofs.Math.Seq.{take-append-add}
use Rattle.std.proofs.lemmas.Bool.{cases_Bool, or_cases, cases_lt, lt-ltb, le-ltb, not-true, not-false}
use Rattle.std.proofs.lemmas.List.{append-nil, length-append, take_all, take-append-le}
use Rattle.basket_read.specs.declared.fault.ReadFault.{ReadFault}
use Rattle.basket_read.specs.declared.fault.ReadFault.TheVariants.{Byte, TooLong}
use Rattle.basket_read.specs.declared.input.Input.{Input}
use Rattle.basket_read.specs.declared.text.Text.{Text}
use Rattle.basket_read.specs.Fimi.{fault_at, is_line, MARK, text_of, MOST_BYTES, first_fault, or_else, fault_in, may_be_mark, settled_fault}
use Rattle.basket_read.specs.Laws.{SettledFaultsStay, UnsettledMayBeGood}
use Rattle.basket_read.specs.Fault.{ReturnsFault}
use Rattle.basket_read.specs.Text.{IsTextSoFar}
use Rattle.basket_read.specs.Input.{IsInputSoFar}
use Rattle.basket_read.proofs.TextLemmas.{take_rest}
use Rattle.basket_read.proofs.theory.Grammar as grammar

-- ---- what is decided at the beginning

-- once the bytes can't become the mark, what follows is text
decided-append : (bytes more : List ℕ) → may_be_mark bytes ≡ false → (text_of (bytes ++ more) ≡ text_of bytes ++ more) × (may_be_mark (bytes ++ more) ≡ false)
decided-append [] more h = grind (arith, common_steps)
decided-append (a ∷ []) more h = grind (arith, common_steps)
decided-append (a ∷ b ∷ []) more h = grind (arith, common_steps)
decided-append (a ∷ b ∷ c ∷ bytes) more h = grind (arith, common_steps)

-- what holds of the beginnings of the mark holds of all bytes that may become it
beginnings : (P : List ℕ → Type 0) → P [] → P (239 ∷ []) → P (239 ∷ 187 ∷ []) → (bytes : List ℕ) → may_be_mark bytes ≡ true → P bytes
beginnings P none one two [] h = none
beginnings P none one two (a ∷ bytes) h = elim (or_cases (pointwise nat_eq (a ∷ bytes) (239 ∷ [])) (pointwise nat_eq (a ∷ bytes) (239 ∷ 187 ∷ [])) h) [
  | inl e ↦ subst P (sym ((bytes_decides (a ∷ bytes) (239 ∷ [])).0 e)) one
  | inr e ↦ subst P (sym ((bytes_decides (a ∷ bytes) (239 ∷ 187 ∷ [])).0 e)) two
]

-- ---- the fault of an input

or_none : (found : Option ReadFault) → or_else found None ≡ found
or_none found = grind (arith, common_steps)

-- in an input of so few bytes it is that of the text
pub fault_few : (bytes : List ℕ) → length bytes ≤ MOST_BYTES → fault_in bytes ≡ first_fault (text_of bytes)
fault_few bytes few = grind (arith, take_all MOST_BYTES bytes few, le-ltb MOST_BYTES (length bytes) few, or_none (first_fault (text_of bytes)))

pub take_after : (a b : List ℕ) (n k : ℕ) → length a + k ≡ n → take n (a ++ b) ≡ a ++ take k b
take_after a b n k e = ap (λ m. take m (a ++ b)) (sym e) ∙ take-append-add a b k

-- in a longer one it is that of the text in so many bytes, or that there are more
fault_long : (bytes piece : List ℕ) (room : ℕ) → may_be_mark bytes ≡ false → length bytes + room ≡ MOST_BYTES → room < length piece
    → fault_in (bytes ++ piece) ≡ or_else (first_fault (text_of bytes ++ take room piece)) (Some TooLong)
fault_long bytes piece room h e long = grind (arith, take_after bytes piece MOST_BYTES room e, length-append bytes piece, decided-append bytes (take room piece) h, lt-ltb)

-- what is decided at the beginning is settled
settled-decided : (bytes : List ℕ) → may_be_mark bytes ≡ false → settled_fault bytes ≡ fault_in bytes
settled-decided bytes h = rw h

decided-settled : (bytes : List ℕ) (fault : ReadFault) → settled_fault bytes ≡ Some fault → (may_be_mark bytes ≡ false) × (fault_in bytes ≡ Some fault)
decided-settled bytes fault e = elim (cases_Bool (may_be_mark bytes)) [ inl m ↦ absurd (let no = rw m at e in cc) | inr m ↦ (m, rw m at e) ]

pub fault-settled : (bytes : List ℕ) (fault : ReadFault) → settled_fault bytes ≡ Some fault → fault_in bytes ≡ Some fault
fault-settled bytes fault e = (decided-settled bytes fault e).1

-- what follows a settled fault changes nothing
pub settled_stays : (bytes more : List ℕ) (fault : ReadFault) → settled_fault bytes ≡ Some fault → settled_fault (bytes ++ more) ≡ Some fault
settled_stays bytes more fault e =
    let d = decided-settled bytes fault e in
    settled-decided (bytes ++ more) (decided-append bytes more d.0).1 ∙ elim (cases_lt MOST_BYTES (length bytes)) [
      | inl long ↦ longer long ∙ d.1
      | inr few ↦ shorter d.0 few (sym (fault_few bytes few) ∙ d.1)
    ]
  where
    longer : MOST_BYTES < length bytes → fault_in (bytes ++ more) ≡ fault_in bytes
    longer long = grind (arith, take-append-le MOST_BYTES bytes more, length-append bytes more, lt-ltb)

    shorter : may_be_mark bytes ≡ false → length bytes ≤ MOST_BYTES → first_fault (text_of bytes) ≡ Some fault → fault_in (bytes ++ more) ≡ Some fault
    shorter h few found =
        let room = MOST_BYTES - length bytes in
        ap (λ l. or_else (first_fault (text_of l)) (cond (ltb MOST_BYTES (length (bytes ++ more))) (Some TooLong) None))
        (take_after bytes more MOST_BYTES room (omega arith))
        ∙ ap (λ l. or_else (first_fault l) (cond (ltb MOST_BYTES (length (bytes ++ more))) (Some TooLong) None)) (decided-append bytes (take room more) h).0
        ∙ ap (λ f. or_else f (cond (ltb MOST_BYTES (length (bytes ++ more))) (Some TooLong) None)) (grammar.first_fault_stays is_line fault_at refl (text_of bytes) (take room more) fault found)

-- half a mark that does not go on
half_of_one : (byte : ℕ) → byte ≢ 187 → settled_fault (239 ∷ byte ∷ []) ≡ Some (Byte 1 239)
half_of_one byte other = grind (arith, common_steps)

half_of_two : (byte : ℕ) → byte ≢ 191 → settled_fault (239 ∷ 187 ∷ byte ∷ []) ≡ Some (Byte 1 239)
half_of_two byte other = grind (arith, common_steps)

-- ---- the input so far

module _ (input : Input) (counting : Bool) (bytes : List ℕ) (r : IsInputSoFar input counting bytes) where
  pub mark_so_far : input.decided ≡ false → (may_be_mark bytes ≡ true) × IsTextSoFar input.text counting []
  mark_so_far e = (not-false (may_be_mark bytes) (sym r.decided ∙ e), rw e at r.text)

  pub text_so_far : input.decided ≡ true → (may_be_mark bytes ≡ false) × IsTextSoFar input.text counting (text_of bytes)
  text_so_far e = (not-true (may_be_mark bytes) (sym r.decided ∙ e), rw e at r.text)

  -- a byte that is not the next one of the mark, after some of it or as the first
  pub half_mark : (byte : ℕ) → input.decided ≡ false → (input.taken < 3 → byte ≢ get_or MARK input.taken 0) → 0 < input.taken → settled_fault (bytes ++ byte ∷ []) ≡ Some (Byte 1 239)
  half_mark byte e other some =
      beginnings (λ l. 0 < length l → (length l < 3 → byte ≢ get_or MARK (length l) 0) → settled_fault (l ++ byte ∷ []) ≡ Some (Byte 1 239))
      (λ none. absurd (omega arith)) (λ _ other. half_of_one byte (other (omega arith))) (λ _ other. half_of_two byte (other (omega arith)))
      bytes (mark_so_far e).0 (omega (arith, r.taken)) (λ few is. other (omega (arith, r.taken)) (is ∙ ap (λ n. get_or MARK n 0) (sym r.taken)))

  -- what may become the mark is a fault if it ends
  pub half_a_mark : input.decided ≡ false → input.taken ≢ 0 → fault_in bytes ≡ Some (Byte 1 239)
  half_a_mark e some = beginnings (λ l. length l ≢ 0 → fault_in l ≡ Some (Byte 1 239)) (λ none. absurd (none refl)) (λ _. refl) (λ _. refl) bytes (mark_so_far e).0 (λ none. some (r.taken ∙ none))

  pub no_bytes : input.decided ≡ false → input.taken ≡ 0 → bytes ≡ []
  no_bytes e none = grind (arith, common_steps)

  module _ (byte : ℕ) (e : input.decided ≡ false) (none : input.taken ≡ 0) (differs : input.taken < 3 → byte ≢ get_or MARK input.taken 0) where
    pub first_fault_is : (fault : ReadFault) → ReturnsFault fault (first_fault (byte ∷ [])) → ReturnsFault fault (settled_fault (bytes ++ byte ∷ []))
    first_fault_is fault told no_memory = grind (arith, common_steps)

    pub takes_first : (text : Text) → IsTextSoFar text counting (byte ∷ []) → IsInputSoFar (record { decided = true; taken = 1; text = text }) counting (bytes ++ byte ∷ [])
    takes_first text t = grind (arith, common_steps)

  -- after the beginning the text goes on
  pub with_text : (text : Text) (piece : List ℕ) → input.decided ≡ true → length bytes + length piece ≤ MOST_BYTES → IsTextSoFar text counting (text_of bytes ++ piece)
      → IsInputSoFar (record { decided = input.decided; taken = input.taken + length piece; text = text }) counting (bytes ++ piece)
  with_text text piece e few t = grind (arith, common_steps)

  -- the fault of a text after the beginning is that of the input
  pub text_fault : (piece : List ℕ) (fault : ReadFault) → input.decided ≡ true → length bytes + length piece ≤ MOST_BYTES → first_fault (text_of bytes ++ piece) ≡ Some fault
      → settled_fault (bytes ++ piece) ≡ Some fault
  text_fault piece fault e few found = grind (arith, decided-append bytes piece (text_so_far e).0, text_so_far e, length-append bytes piece, settled-decided, fault_few)

  pub long_fault : (piece : List ℕ) (room : ℕ) → input.decided ≡ true → length bytes + room ≡ MOST_BYTES → room < length piece
      → settled_fault (bytes ++ piece) ≡ or_else (first_fault (text_of bytes ++ take room piece)) (Some TooLong)
  long_fault piece room e f long =
      let h = (text_so_far e).0 in settled-decided (bytes ++ piece) (decided-append bytes piece h).1 ∙ fault_long bytes piece room h f long

  -- an input without a settled fault
  pub faultless_input : settled_fault bytes ≡ None
  faultless_input = grind (arith, cases_Bool input.decided, fault_few bytes r.few, text_so_far, settled-decided, mark_so_far)

  -- the text of an input without a fault
  pub text_is : fault_in bytes ≡ None → IsTextSoFar input.text counting (text_of bytes)
  text_is none = elim (cases_Bool input.decided) [
    | inl e ↦ (text_so_far e).1
    | inr e ↦ (let m = mark_so_far e in beginnings (λ l. fault_in l ≡ None → IsTextSoFar input.text counting (text_of l)) (λ _. m.1) (λ no. absurd cc) (λ no. absurd cc) bytes m.0 none)
  ]

-- a settled fault at a byte of a piece is that of the piece
pub settled_in_piece : (bytes piece : List ℕ) (i : ℕ) (fault : ReadFault) → i < length piece
    → ReturnsFault fault (settled_fault ((bytes ++ take i piece) ++ get_or piece i 0 ∷ [])) → ReturnsFault fault (settled_fault (bytes ++ piece))
settled_in_piece bytes piece i fault below told no_memory =
    ap settled_fault (sym (take_rest bytes piece (i + 1)))
    ∙ settled_stays (bytes ++ take (i + 1) piece) (drop (i + 1) piece) fault (ap settled_fault (sym (grammar.take_next bytes piece i below)) ∙ told no_memory)

-- ---- whatever follows

pub settled_faults_stay : SettledFaultsStay
settled_faults_stay bytes more fault e = fault-settled (bytes ++ more) fault (settled_stays bytes more fault e)

pub unsettled_may_be_good : UnsettledMayBeGood
unsettled_may_be_good bytes e = elim (cases_Bool (may_be_mark bytes)) [
  | inl m ↦ beginnings (λ l. (more : List ℕ) × (fault_in (l ++ more) ≡ None)) ([], refl) (187 ∷ 191 ∷ [], refl) (191 ∷ [], refl) bytes m
  | inr m ↦ ([], ap fault_in (append-nil bytes) ∙ rw m at e)
]
