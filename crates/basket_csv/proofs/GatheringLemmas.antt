-- Records of one kind that are gathered, and the names in them.
use Rattle.std.proofs.Common.{◌≡◌, ℕ, Bool, true, List, [], ◌∷◌, ◌++◌, fold, Result, Ok, Err, sym, ap, ◌∙◌, arith}
use Rattle.std.proofs.lemmas.Grind.{common_steps}
use Rattle.std.specs.List.{flat_map, list_all}
use Rattle.std.specs.Result.{OnOk}
use Rattle.std.proofs.lemmas.Bool.{and_parts}
use Rattle.std.proofs.lemmas.List.Folds.{list_all-append}
use Rattle.basket_read.specs.declared.fault.ReadFault.{ReadFault}
use Rattle.basket_names.specs.Names.{with_name, in_order, is_among, are_among}
use Rattle.basket_names.proofs.theory.Names.{all_among}
use Rattle.basket_csv.specs.declared.gathering.Named.{Named}
use Rattle.basket_csv.specs.declared.reading.Reading.{Reading}
use Rattle.basket_csv.specs.Gathering.{HasRead}
use Rattle.basket_csv.specs.Rows.{Rows}

-- each of the names is among those in order with the known ones
pub read_among : (known names : List (List ℕ)) → list_all (is_among (in_order (known ++ names))) names ≡ true
read_among known names = grind (arith, common_steps, and_parts, list_all-append, all_among)

-- the names with those of one record more
pub names_more : (names_in : List (List ℕ) → List (List ℕ)) (known : List (List ℕ)) (rows : Rows) (row : List (List ℕ))
    → in_order (known ++ flat_map names_in (rows ++ row ∷ [])) ≡ fold with_name (in_order (known ++ flat_map names_in rows)) (names_in row)
names_more names_in known rows row = grind (arith, common_steps)

-- what holds whatever comes holds of what comes
pub whatever : {X E : Type 0} (result : Result X E) (P : Type 0) → P → OnOk result P
whatever (Ok x) P h = h
whatever (Err e) P h = tt

module _ {G : Type 0} (has : G → Reading → List (List ℕ) → Rows → Type 0) (names_of : Bool → List (List ℕ) → List (List ℕ)) (reading : Reading) (known : List (List ℕ)) where
  -- the names of the records are among those that are numbered
  pub known_among : (named : Named G) (rows : Rows) → HasRead has names_of reading known named rows → are_among named.names (flat_map (names_of reading.weighted) rows) ≡ true
  known_among named rows h = ap (λ names. are_among names (flat_map (names_of reading.weighted) rows)) h.names ∙ read_among known (flat_map (names_of reading.weighted) rows)

  -- a record was added
  pub record_added : {X : Type 0} (old new : Named G) (rows : Rows) (row : List (List ℕ)) (result : Result X ReadFault) → HasRead has names_of reading known old rows
      → OnOk result (new.names ≡ fold with_name old.names (names_of reading.weighted row)) → OnOk result (has new.gathered reading new.names (rows ++ row ∷ []))
      → OnOk result (HasRead has names_of reading known new (rows ++ row ∷ []))
  record_added old new rows row (Ok x) h names gathered = record {
    names = names ∙ ap (λ ns. fold with_name ns (names_of reading.weighted row)) h.names ∙ sym (names_more (names_of reading.weighted) known rows row);
    gathered = gathered;
  }
  record_added old new rows row (Err fault) h names gathered = tt
