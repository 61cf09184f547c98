-- Names of parts that are numbered together.
use Rattle.std.proofs.Common.{◌≡◌, ℕ, Bool, true, List, [], ◌∷◌, ◌++◌, length, fold, get_or, map, refl, sym, ap, ◌∙◌, subst, append_assoc, append-nil, arith}
use Rattle.std.proofs.lemmas.Grind.{common_steps}
use Rattle.std.specs.List.{flat_map, range_with_len}
use Rattle.std.proofs.lemmas.List.Concat.{flat_map-append}
use Rattle.std.proofs.lemmas.List.Sums.{fold-append}
use Rattle.basket_sets.specs.Itemset.{AllBelow}
use Rattle.basket_sets.proofs.theory.Tests.{below_from_all}
use Rattle.basket_csv.specs.declared.gathering.Named.{Named}
use Rattle.basket_csv.specs.declared.reading.Reading.{Reading}
use Rattle.basket_csv.specs.declared.together.Renumbered.{Renumbered}
use Rattle.basket_csv.specs.Gathering.{HasRead}
use Rattle.basket_csv.specs.Rows.{InParts, Rows}
use Rattle.basket_csv.specs.Together.{HaveParts, IsNumbered}
use Rattle.basket_names.specs.Names.{are_among, in_order, number_in, with_name}
use Rattle.basket_names.proofs.theory.Names.{numbers_stay}
use Rattle.basket_names.proofs.theory.Together.{add_in_order, among_added_all, among_more_names, numbers_at, numbers_below, numbers_in_order, self_among}
use Rattle.basket_csv.proofs.RowsLemmas.{in_each, in_halves, in_last}

module _ {G : Type 0} (has : G → Reading → List (List ℕ) → Rows → Type 0) (names_of : Bool → List (List ℕ) → List (List ℕ)) (reading : Reading) where
  abbrev names_in : Rows → List (List ℕ)
  names_in rows = flat_map (names_of reading.weighted) rows

  abbrev Numbered : List (List ℕ) → Renumbered G → Rows → Type 0
  Numbered names part rows = IsNumbered has names_of reading names part rows

  -- ---- two halves of parts

  pub front_parts : (front back : List (Named G)) → HaveParts has names_of reading (front ++ back) → HaveParts has names_of reading front
  front_parts front back (rows, parts) = let (first, others, same, before, after) = in_halves (HasRead has names_of reading []) front back rows parts in (first, before)

  pub back_parts : (front back : List (Named G)) → HaveParts has names_of reading (front ++ back) → HaveParts has names_of reading back
  back_parts front back (rows, parts) = let (first, others, same, before, after) = in_halves (HasRead has names_of reading []) front back rows parts in (others, after)

  -- ---- one part

  -- each of its numbers is that of one of all names
  pub numbers_within : (names : List (List ℕ)) (part : Renumbered G) (rows : Rows) (among : List ℕ) → length among ≡ length names → Numbered names part rows → AllBelow (length among) part.numbers.items
  numbers_within names part rows among long h = subst (λ n. AllBelow n part.numbers.items) (sym long) (subst (AllBelow (length names)) (sym h.numbered) (named_below names (in_order (names_in rows)) h.among))
    where
      named_below : (names some : List (List ℕ)) → are_among names some ≡ true → AllBelow (length names) (map (number_in names) some)
      named_below names some e = below_from_all (length names) (map (number_in names) some) (numbers_below names some e)

  -- its names are all
  pub numbered_alone : (part : Named G) (one : Renumbered G) (rows : Rows) → one.gathered ≡ part.gathered → one.numbers.items ≡ range_with_len 0 (length part.names) → HasRead has names_of reading [] part rows
      → Numbered part.names one rows
  numbered_alone part one rows gathered numbers h = record {
    gathered_alone = subst (λ g. has g reading (in_order (names_in rows)) rows) (sym gathered) (subst (λ names. has part.gathered reading names rows) h.names h.gathered);
    among = ap (λ names. are_among part.names names) (sym h.names) ∙ self_among part.names;
    numbered = numbers ∙ ap (λ n. range_with_len 0 (length n)) h.names ∙ sym (ap (λ n. map (number_in n) (in_order (names_in rows))) h.names ∙ numbers_in_order (names_in rows));
  }

  -- all names come after others, and the numbers change with them
  pub numbered_again : (names new before : List (List ℕ)) (among : List ℕ) (part one : Renumbered G) (rows : Rows) → new ≡ fold with_name before names → among ≡ map (number_in new) names
      → one.gathered ≡ part.gathered → one.numbers.items ≡ map (λ number. get_or among number 0) part.numbers.items → Numbered names part rows → Numbered new one rows
  numbered_again names new before among part one rows is are gathered numbers h =
      let own = in_order (names_in rows) in
      record {
        gathered_alone = subst (λ g. has g reading own rows) (sym gathered) h.gathered_alone;
        among = ap (λ n. are_among n own) is ∙ among_added_all before names own h.among;
        numbered = numbers ∙ ap (λ n. map (λ number. get_or n number 0) part.numbers.items) are ∙ ap (map (λ number. get_or (map (number_in new) names) number 0)) h.numbered ∙ numbers_at new names own h.among;
      }

  -- others come after all names, and the numbers stay
  pub numbered_still : (known others new : List (List ℕ)) → new ≡ fold with_name known others → (part : Renumbered G) (rows : Rows) → Numbered known part rows → Numbered new part rows
  numbered_still known others new is part rows h =
      let own = in_order (names_in rows) in
      record {
        gathered_alone = h.gathered_alone;
        among = ap (λ n. are_among n own) is ∙ among_more_names known others own h.among;
        numbered = h.numbered ∙ sym (ap (λ n. map (number_in n) own) is ∙ numbers_stay known others own h.among);
      }

  -- ---- the parts after others, one after another

  module _ (first later new : List (List ℕ)) (among : List ℕ) (is : new ≡ fold with_name first later) (are : among ≡ map (number_in new) later) where
    -- some parts were added, and these are left
    abbrev pub AddsTogether : Rows → Rows → List (Renumbered G) → List (Renumbered G) → Type 0
    AddsTogether rows more left all = (done : Rows) × (rest : Rows) × (more ≡ done ++ rest) × InParts (Numbered new) all (rows ++ done) × InParts (Numbered later) left rest

    pub adds_none : (rows more : Rows) (left all : List (Renumbered G)) → InParts (Numbered first) all rows → InParts (Numbered later) left more → AddsTogether rows more left all
    adds_none rows more left all before after = (
      [],
      more,
      refl,
      subst (InParts (Numbered new) all) (sym (append-nil rows)) (in_each (Numbered first) (Numbered new) (numbered_still first later new is) all rows before),
      after,
    )

    pub adds_part : (rows more : Rows) (left others all grown : List (Renumbered G)) (part one : Renumbered G) → left ≡ part ∷ others → one.gathered ≡ part.gathered
        → one.numbers.items ≡ map (λ number. get_or among number 0) part.numbers.items → grown ≡ all ++ one ∷ [] → AddsTogether rows more left all → AddsTogether rows more others grown
    adds_part rows more left others all grown part one at gathered numbers last (done, rest, same, all_in, left_in) =
        let (own, next, cut, mine, in_rest) = subst (λ l. InParts (Numbered later) l rest) at left_in in (
          done ++ own,
          next,
          same ∙ ap (λ r. done ++ r) cut ∙ sym (append_assoc done own next),
          subst (λ l. InParts (Numbered new) l (rows ++ (done ++ own))) (sym last)
              (subst (InParts (Numbered new) (all ++ one ∷ [])) (append_assoc rows done own)
              (in_last (Numbered new) all one (rows ++ done) own all_in (numbered_again later new first among part one own is are gathered numbers mine))),
          in_rest,
        )

    pub adds_all : (rows more : Rows) (all : List (Renumbered G)) → AddsTogether rows more [] all → InParts (Numbered new) all (rows ++ more)
    adds_all rows more all (done, rest, same, all_in, left_in) = grind (arith, common_steps)

  -- the names of some records and of those after them
  pub names_both : (known : List (List ℕ)) (rows more : Rows) → fold with_name (fold with_name known (names_in rows)) (fold with_name [] (names_in more)) ≡ fold with_name known (names_in (rows ++ more))
  names_both known rows more =
      add_in_order (fold with_name known (names_in rows)) (names_in more) ∙ sym (fold-append with_name known (names_in rows) (names_in more))
      ∙ ap (fold with_name known) (sym (flat_map-append (names_of reading.weighted) rows more))

-- names in their order after those that are known
pub names_together : (known names some : List (List ℕ)) → names ≡ fold with_name (in_order known) some → names ≡ in_order (known ++ some)
names_together known names some all = all ∙ sym (fold-append with_name [] known some)
