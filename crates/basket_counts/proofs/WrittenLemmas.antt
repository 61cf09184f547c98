-- Counted sets that are written are read back.
use Rattle.std.proofs.lemmas.Grind.{common_steps}
use Rattle.std.proofs.Common.{◌≡◌, ℕ, ◌+◌, ◌^◌, ◌<◌, ◌≤◌, Bool, true, false, not, leb, eqb, List, [], ◌∷◌, ◌++◌, length, map, filter, decimal, Some, Ok, refl, sym, ap, ◌∙◌, append_assoc, arith}
use Rattle.std.specs.Prelude.{All}
use Rattle.std.specs.List.{list_all, flat_map}
use Rattle.std.proofs.lemmas.Bool.{and_parts, and_from, le-ltb, leb-true, ne_eqb, not-true}
use Rattle.std.proofs.lemmas.List.{append-nil, take_all}
use Rattle.std.proofs.lemmas.List.Elements.{All-head, All-tail}
use Rattle.std.proofs.lemmas.List.Folds.{list_all-map}
use Rattle.basket_sets.specs.declared.counted.Counted.{Counted}
use Rattle.basket_sets.specs.Database.{MOST_WEIGHT}
use Rattle.basket_sets.specs.Number.{is_digit, value_of}
use Rattle.basket_sets.proofs.theory.Numerals.{all_push, IsNumeral, numeral}
use Rattle.basket_sets.proofs.theory.Rising.{rising-rising}
use Rattle.basket_read.specs.Cut.{Cut, cut_at}
use Rattle.basket_read.specs.Fimi.{is_blank, is_line_feed, is_nil, is_number, are_numbers, numbers_of, text_of, MOST_NUMBER, MOST_BYTES}
use Rattle.basket_counts.specs.Counts.{is_open, is_close, is_line, is_good, entry_of, entries_from, counts_among}
use Rattle.basket_counts.specs.Laws.{items_text, set_line, IsWritten, lines_from, ListsAreReadBack}
use Rattle.basket_read.proofs.theory.Cuts.{cut, cut_ended, cut_on_by}
use Rattle.basket_read.proofs.theory.Numbers.{within, digit_is_no_blank}
use Rattle.basket_counts.proofs.GrammarLemmas.{good_is_faultless}

-- ---- the digits of a number

not_nil : (word : List ℕ) → 0 < length word → is_nil word ≡ false
not_nil word h1 = grind (arith, common_steps)

number_is : (n bound : ℕ) → n ≤ bound → n < 2 ^ 64 → within bound (decimal n) ≡ true
number_is n bound below small = let d = numeral n small in let digits = d.digits in let value = d.value in grind (arith, common_steps)

-- ---- cuts of texts without a separator

abbrev free : (ℕ → Bool) → List ℕ → Bool
free p xs = list_all (λ x. not (p x)) xs

cut_free : (p : ℕ → Bool) (xs ys : List ℕ) → free p ys ≡ true → cut_at p (xs ++ ys) ≡ cut (cut_at p xs).ended ((cut_at p xs).last ++ ys)
cut_free p xs ys h = cut_on_by p (λ y. not (p y)) xs ys (λ y other. not-true (p y) other) h

free-append : (p : ℕ → Bool) (xs ys : List ℕ) → free p xs ≡ true → free p ys ≡ true → free p (xs ++ ys) ≡ true
free-append p xs ys h k = grind (arith, common_steps)

-- a class of bytes that digits and spaces are not in
record Spares (p : ℕ → Bool) : Type 0 where
  digit : (byte : ℕ) → is_digit byte ≡ true → p byte ≡ false

digits_free : (p : ℕ → Bool) → Spares p → (word : List ℕ) → list_all is_digit word ≡ true → free p word ≡ true
digits_free p s [] h = refl
digits_free p s (byte ∷ word) h =
    let q = and_parts (is_digit byte) (list_all is_digit word) h in let other = s.digit byte q.0 in let rest = digits_free p s word q.1 in grind (arith, common_steps)

spares : (k : ℕ) → k < 48 → Spares (λ byte. eqb byte k)
spares k low = record { digit = λ byte d. let least = leb-true 48 byte (and_parts (leb 48 byte) (leb byte 57) d).0 in ne_eqb byte k (λ e. absurd (omega arith)) }

-- texts that each end with a separator
cut_texts : {X : Type 0} (p : ℕ → Bool) (text : X → List ℕ) (sep : ℕ) → p sep ≡ true → (items : List X) (xs : List ℕ) → list_all (λ x. free p (text x)) items ≡ true → (cut_at p xs).last ≡ []
    → cut_at p (xs ++ flat_map (λ x. text x ++ sep ∷ []) items) ≡ cut ((cut_at p xs).ended ++ map text items) []
cut_texts p text sep s [] xs h e = ap (cut_at p) (append-nil xs) ∙ (λ i. cut (sym (append-nil (cut_at p xs).ended) i) (e i))
cut_texts p text sep s (x ∷ items) xs h e =
    let q = and_parts (free p (text x)) (list_all (λ x. free p (text x)) items) h in
    let word = cut_free p xs (text x) q.0 in
    let one = cut_ended p (xs ++ text x) sep s in
    let rest = cut_texts p text sep s items ((xs ++ text x) ++ sep ∷ []) q.1 (ap (λ (k : Cut). k.last) one) in
    grind (arith, common_steps)

all_pass : {X : Type 0} (P : X → Type 0) (test : X → Bool) → ((x : X) → P x → test x ≡ true) → (xs : List X) → All P xs → list_all test xs ≡ true
all_pass P test step [] h = refl
all_pass P test step (x ∷ xs) h = and_from (test x) (list_all test xs) (step x (All-head P x xs h)) (all_pass P test step xs (All-tail P x xs h))

-- ---- the items of a set

abbrev IsItem : ℕ → Type 0
IsItem item = item ≤ MOST_NUMBER

item_numeral : (item : ℕ) → IsItem item → IsNumeral item (decimal item)
item_numeral item h = numeral item (omega (arith, h))

items_free : (p : ℕ → Bool) → Spares p → p 32 ≡ false → (items : List ℕ) → All IsItem items → free p (items_text items) ≡ true
items_free p s e [] h = refl
items_free p s e (item ∷ items) h =
    let word = digits_free p s (decimal item) (item_numeral item (All-head IsItem item items h)).digits in
    let rest = items_free p s e items (All-tail IsItem item items h) in
    grind (arith, common_steps)

-- a text of these numbers, which may stand before a count
record Says (items text : List ℕ) : Type 0 where
  numbers : are_numbers text ≡ true
  values : numbers_of text ≡ items
  no_open : free is_open text ≡ true
  no_feed : free is_line_feed text ≡ true

words_are : (items : List ℕ) → All IsItem items → map value_of (filter (λ word. not (is_nil word)) (map decimal items ++ [] ∷ [])) ≡ items
words_are [] h = refl
words_are (item ∷ items) h =
    let n = item_numeral item (All-head IsItem item items h) in
    let some = not_nil (decimal item) n.some in let value = n.value in let rest = words_are items (All-tail IsItem item items h) in grind (arith, common_steps)

blank_spares : Spares is_blank
blank_spares = record { digit = digit_is_no_blank }

items_say : (items : List ℕ) → All IsItem items → Says items (items_text items)
items_say items h =
    let words : cut_at is_blank (items_text items) ≡ cut (map decimal items) [] =
    cut_texts is_blank decimal 32 refl items [] (all_pass IsItem (λ item. free is_blank (decimal item)) (λ item small. digits_free is_blank blank_spares (decimal item) (item_numeral item small).digits) items h) refl in
    record {
      numbers = ap (λ (k : Cut). list_all is_number (k.ended ++ k.last ∷ [])) words ∙ all_push is_number (map decimal items) []
          ∙ and_from (list_all is_number (map decimal items)) true
          (list_all-map is_number decimal items ∙ all_pass IsItem (λ item. is_number (decimal item)) (λ item small. number_is item MOST_NUMBER small (omega (arith, small))) items h) refl;
      values = ap (λ (k : Cut). map value_of (filter (λ word. not (is_nil word)) (k.ended ++ k.last ∷ []))) words ∙ words_are items h;
      no_open = items_free is_open (spares 40 (omega arith)) refl items h;
      no_feed = items_free is_line_feed (spares 10 (omega arith)) refl items h;
    }

-- ---- a line

abbrev tail_of : ℕ → List ℕ
tail_of count = decimal count ++ 41 ∷ []

abbrev body : Counted → List ℕ
body counted = items_text counted.set ++ 40 ∷ tail_of counted.count

line_is : (counted : Counted) → set_line counted ≡ body counted ++ 10 ∷ []
line_is counted = grind (arith, common_steps)

module _ (counted : Counted) (written : IsWritten counted) where
  abbrev prefix : List ℕ
  prefix = items_text counted.set

  says : Says counted.set prefix
  says = items_say counted.set written.items

  count_numeral : IsNumeral counted.count (decimal counted.count)
  count_numeral = numeral counted.count (let e = written.count in omega arith)

  tail_free : (p : ℕ → Bool) → Spares p → p 41 ≡ false → free p (tail_of counted.count) ≡ true
  tail_free p s e = let digits = digits_free p s (decimal counted.count) count_numeral.digits in grind (arith, common_steps)

  tail_cut : cut_at is_close (tail_of counted.count) ≡ cut (decimal counted.count ∷ []) []
  tail_cut =
      let word = cut_free is_close [] (decimal counted.count) (digits_free is_close (spares 41 (omega arith)) (decimal counted.count) count_numeral.digits) in
      let end = cut_ended is_close (decimal counted.count) 41 refl in
      grind (arith, common_steps)

  body_cut : cut_at is_open (body counted) ≡ cut (prefix ∷ []) (tail_of counted.count)
  body_cut =
      let items = cut_free is_open [] prefix says.no_open in
      let opened = cut_ended is_open prefix 40 refl in
      let tail = cut_free is_open (prefix ++ 40 ∷ []) (tail_of counted.count) (tail_free is_open (spares 40 (omega arith)) refl) in
      grind (arith, common_steps)

  body_good : is_line (body counted) ≡ true
  body_good =
      let some = not_nil (decimal counted.count) count_numeral.some in
      let small = number_is counted.count MOST_WEIGHT written.count (let e = written.count in omega arith) in
      let numbers = says.numbers in let opened = body_cut in let close = tail_cut in grind (arith, common_steps)

  body_says : (line : ℕ) → entry_of (body counted) line ≡ record { set = counted.set; count = Some counted.count; line = line } ∷ []
  body_says line =
      let values = says.values in let count = count_numeral.value in let rises = rising-rising counted.set written.rising in
      let opened = body_cut in let close = tail_cut in grind (arith, common_steps)

  body_free : free is_line_feed (body counted) ≡ true
  body_free = free-append is_line_feed prefix (40 ∷ tail_of counted.count) says.no_feed (tail_free is_line_feed (spares 10 (omega arith)) refl)

-- ---- a text

abbrev text : List Counted → List ℕ
text sets = flat_map set_line sets

text_cut : (sets : List Counted) → All IsWritten sets → cut_at is_line_feed (text sets) ≡ cut (map body sets) []
text_cut sets written =
    (λ i. cut_at is_line_feed (flat_map (λ counted. line_is counted i) sets))
    ∙ cut_texts is_line_feed body 10 refl sets [] (all_pass IsWritten (λ counted. free is_line_feed (body counted)) body_free sets written) refl

text_good : (sets : List Counted) → All IsWritten sets → is_good (text sets) ≡ true
text_good sets written =
    let all = all_pass IsWritten (λ counted. is_line (body counted)) body_good sets written in let parts = text_cut sets written in grind (arith, common_steps, list_all-map is_line body sets)

lines_say : (line : ℕ) (sets : List Counted) → All IsWritten sets → counts_among (entries_from line (map body sets ++ [] ∷ [])) ≡ Ok (lines_from line sets)
lines_say line [] written = refl
lines_say line (counted ∷ sets) written =
    let here = body_says counted (All-head IsWritten counted sets written) line in let rest = lines_say (line + 1) sets (All-tail IsWritten counted sets written) in grind (arith, common_steps)

-- a text that begins with a digit or a parenthesis has no mark
plain : (word rest : List ℕ) → list_all is_digit word ≡ true → is_nil word ≡ false → text_of (word ++ rest) ≡ word ++ rest
plain word rest h1 h2 = grind (arith, common_steps)

items_plain : (items rest : List ℕ) → All IsItem items → text_of (items_text items ++ 40 ∷ rest) ≡ items_text items ++ 40 ∷ rest
items_plain items rest h1 = grind (arith, common_steps, item_numeral, All-head, plain, not_nil, append_assoc)

text_plain : (sets : List Counted) → All IsWritten sets → text_of (text sets) ≡ text sets
text_plain [] written = refl
text_plain (counted ∷ sets) written =
    let this = items_plain counted.set (decimal counted.count ++ 41 ∷ 10 ∷ text sets) (All-head IsWritten counted sets written).items in grind (arith, common_steps)

pub lists_are_read_back : ListsAreReadBack
lists_are_read_back sets written few =
    let all = take_all MOST_BYTES (text sets) few in
    let same = text_plain sets written in
    let none = (good_is_faultless (text sets)).0 (text_good sets written) in
    let parts = text_cut sets written in
    let say = lines_say 1 sets written in
    let short = le-ltb MOST_BYTES (length (text sets)) few in
    grind (arith, common_steps)
