-- The counted sets of records, one after another.
use Rattle.std.proofs.Common.{◌≡◌, ℕ, zero, suc, ◌+◌, ◌<◌, true, List, [], ◌∷◌, ◌++◌, length, map, drop, take, fold, get_or, set, Some, None, unwrap_or, refl, sym, ap, ◌∙◌, arith}
use Rattle.std.proofs.lemmas.Grind.{common_steps}
use Rattle.std.proofs.lemmas.Bool.{and_parts}
use Rattle.std.proofs.lemmas.List.{map-append}
use Rattle.std.proofs.lemmas.List.Elements.{All-cons, All-nil}
use Rattle.std.proofs.lemmas.List.Folds.{list_all-append}
use Rattle.basket_sets.specs.Itemset.{AllBelow, rising}
use Rattle.basket_read.specs.declared.counted_line.CountedLine.{CountedLine}
use Rattle.basket_csv.specs.declared.counts.Counts.{Counts}
use Rattle.basket_csv.specs.declared.reading.Reading.{Reading}
use Rattle.basket_csv.specs.Counts.{AreBelow, HasCounts, count_of, line_of, lines_from, numbered_from, renamed_line, set_fault}
use Rattle.basket_csv.specs.Csv.{names_of, names_in, all_names}
use Rattle.basket_csv.specs.Rows.{Rows}
use Rattle.basket_names.specs.Names.{with_name, number_in, is_among, are_among}
use Rattle.basket_names.proofs.theory.Names.{numbers_stay}
use Rattle.basket_csv.proofs.RenamingLemmas.{set_again, set_below}

both_among : (own : List (List ℕ)) (row : List (List ℕ)) (rows : Rows) → are_among own (all_names true (row ∷ rows)) ≡ true → (are_among own (names_in true row) ≡ true) × (are_among own (all_names true rows) ≡ true)
both_among own row rows e = and_parts (are_among own (names_in true row)) (are_among own (all_names true rows)) (sym (list_all-append (is_among own) (names_in true row) (all_names true rows)) ∙ e)

abbrev line_with : List (List ℕ) → List ℕ → CountedLine
line_with row set = record { set = set; count = unwrap_or (count_of row) 0; line = 0 }

-- ---- one record more

lines_stay : (names others : List (List ℕ)) (rows : Rows) → are_among names (all_names true rows) ≡ true → map (line_of (fold with_name names others) 0) rows ≡ map (line_of names 0) rows
lines_stay names others [] e = refl
lines_stay names others (row ∷ rows) e =
    let both = both_among names row rows e in
    λ i. line_with row (rising (numbers_stay names others (names_in true row) both.0 i)) ∷ lines_stay names others rows both.1 i

-- whether a record has a fault does not depend on its number
pub any_number : (n m : ℕ) (row : List (List ℕ)) → set_fault n row ≡ None → set_fault m row ≡ None
any_number n m row e = grind (arith, common_steps)

-- a record was added: its set comes after those before
pub counted : (old new : Counts) (reading : Reading) (names more : List (List ℕ)) (rows : Rows) (row : List (List ℕ)) (line : CountedLine)
    → line.line ≡ 0 → Some line.count ≡ count_of row → more ≡ fold with_name names (names_of (drop 1 row)) → line.set ≡ rising (map (number_in more) (names_of (drop 1 row)))
    → new.header ≡ old.header → new.lines.items ≡ old.lines.items ++ line ∷ [] → are_among names (all_names true rows) ≡ true → HasCounts old reading names rows → HasCounts new reading more (rows ++ row ∷ [])
counted old new reading names more rows row line none count grown set same lines among h =
    let stay : map (line_of more 0) rows ≡ map (line_of names 0) rows = ap (λ n. map (line_of n 0) rows) grown ∙ lines_stay names (names_of (drop 1 row)) rows among in
    let is : line ≡ line_of more 0 row = grind (arith, common_steps) in
    record {
      header = same ∙ h.header;
      lines = lines ∙ (λ i. (h.lines ∙ sym stay) i ++ is i ∷ []) ∙ sym (map-append (line_of more 0) rows (row ∷ []));
    }

-- ---- other names

module _ (own all : List (List ℕ)) (numbers : List ℕ) (are : numbers ≡ map (number_in all) own) where
  pub lines_again : (rows : Rows) → are_among own (all_names true rows) ≡ true → map (renamed_line numbers) (map (line_of own 0) rows) ≡ map (line_of all 0) rows
  lines_again [] among = refl
  lines_again (row ∷ rows) among =
      let both = both_among own row rows among in
      λ i. line_with row (set_again own all numbers are (names_in true row) both.0 i) ∷ lines_again rows both.1 i

  pub lines_below : (rows : Rows) → are_among own (all_names true rows) ≡ true → AreBelow (length numbers) (map (line_of own 0) rows)
  lines_below [] among = All-nil (λ line. AllBelow (length numbers) line.set)
  lines_below (row ∷ rows) among =
      let both = both_among own row rows among in
      All-cons (λ line. AllBelow (length numbers) line.set) (line_of own 0 row) (map (line_of own 0) rows) (set_below own all numbers are (names_in true row) both.0) (lines_below rows both.1)

-- ---- lines one by one

line_there : (f : CountedLine → CountedLine) (xs : List CountedLine) (k : ℕ) (d : CountedLine) → k < length xs → get_or (map f (take k xs) ++ drop k xs) k d ≡ get_or xs k d
line_there f [] k d below = absurd (omega arith)
line_there f (x ∷ xs) zero d below = refl
line_there f (x ∷ xs) (suc k) d below = line_there f xs k d (omega arith)

-- the line at the index that the renaming has come to is as it was
pub line_at : (names : List ℕ) (xs now : List CountedLine) (k : ℕ) (d : CountedLine) → k < length xs → now ≡ map (renamed_line names) (take k xs) ++ drop k xs → get_or now k d ≡ get_or xs k d
line_at names xs now k d below so_far = ap (λ l. get_or l k d) so_far ∙ line_there (renamed_line names) xs k d below

line_put : (f : CountedLine → CountedLine) (xs : List CountedLine) (k : ℕ) (d : CountedLine) → k < length xs → set (map f (take k xs) ++ drop k xs) k (f (get_or xs k d)) ≡ map f (take (suc k) xs) ++ drop (suc k) xs
line_put f [] k d below = absurd (omega arith)
line_put f (x ∷ xs) zero d below = refl
line_put f (x ∷ xs) (suc k) d below = ap (λ l. f x ∷ l) (line_put f xs k d (omega arith))

-- one line more is renamed where it lies
pub renamed_more : (names : List ℕ) (xs now : List CountedLine) (k : ℕ) (d line : CountedLine) → k < length xs → now ≡ map (renamed_line names) (take k xs) ++ drop k xs
    → line ≡ renamed_line names (get_or xs k d) → set now k line ≡ map (renamed_line names) (take (k + 1) xs) ++ drop (k + 1) xs
renamed_more names xs now k d line below so_far is =
    let one : k + 1 ≡ suc k = omega arith in
    (λ i. set (so_far i) k (is i)) ∙ line_put (renamed_line names) xs k d below ∙ ap (λ n. map (renamed_line names) (take n xs) ++ drop n xs) (sym one)

number_there : (first : ℕ) (xs : List CountedLine) (k : ℕ) (d : CountedLine) → k < length xs → get_or (numbered_from first (take k xs) ++ drop k xs) k d ≡ get_or xs k d
number_there first [] k d below = absurd (omega arith)
number_there first (x ∷ xs) zero d below = refl
number_there first (x ∷ xs) (suc k) d below = number_there (first + 1) xs k d (omega arith)

-- and one line more is numbered
number_put : (first : ℕ) (xs : List CountedLine) (k nth : ℕ) (d line : CountedLine) → k < length xs → nth ≡ first + k → line ≡ record { set = (get_or xs k d).set; count = (get_or xs k d).count; line = nth }
    → set (numbered_from first (take k xs) ++ drop k xs) k line ≡ numbered_from first (take (suc k) xs) ++ drop (suc k) xs
number_put first [] k nth d line below at is = absurd (omega arith)
number_put first (x ∷ xs) zero nth d line below at is =
    let same : nth ≡ first = omega (arith, at) in
    ap (λ l. l ∷ xs) (is ∙ ap (λ n. numbered x n) same)
  where
    numbered : CountedLine → ℕ → CountedLine
    numbered x n = record { set = x.set; count = x.count; line = n }
number_put first (x ∷ xs) (suc k) nth d line below at is = ap (λ l. record { set = x.set; count = x.count; line = first } ∷ l) (number_put (first + 1) xs k nth d line (omega arith) (omega (arith, at)) is)

pub numbered_more : (first : ℕ) (xs now : List CountedLine) (k nth : ℕ) (d line : CountedLine) → k < length xs → now ≡ numbered_from first (take k xs) ++ drop k xs → nth ≡ first + k
    → line ≡ record { set = (get_or now k d).set; count = (get_or now k d).count; line = nth } → set now k line ≡ numbered_from first (take (k + 1) xs) ++ drop (k + 1) xs
numbered_more first xs now k nth d line below so_far at is =
    let there : get_or now k d ≡ get_or xs k d = ap (λ l. get_or l k d) so_far ∙ number_there first xs k d below in
    let one : k + 1 ≡ suc k = omega arith in
    ap (λ l. set l k line) so_far ∙ number_put first xs k nth d line below at (is ∙ ap (λ (x : CountedLine). numbered x) there)
    ∙ ap (λ n. numbered_from first (take n xs) ++ drop n xs) (sym one)
  where
    numbered : CountedLine → CountedLine
    numbered x = record { set = x.set; count = x.count; line = nth }

-- ---- numbers of lines

pub numbered_lines : (names : List (List ℕ)) (nth : ℕ) (rows : Rows) → numbered_from nth (map (line_of names 0) rows) ≡ lines_from names nth rows
numbered_lines names nth [] = refl
numbered_lines names nth (row ∷ rows) = ap (λ ls. line_of names nth row ∷ ls) (numbered_lines names (nth + 1) rows)
