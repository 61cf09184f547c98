-- Records of parts in a row.
use Rattle.std.proofs.Common.{◌≡◌, ℕ, zero, suc, ◌<◌, List, [], ◌∷◌, ◌++◌, get_or, length, refl, ap, sym, ◌∙◌, subst, append_assoc, arith}
use Rattle.std.proofs.lemmas.Grind.{common_steps}
use Rattle.basket_csv.specs.Rows.{InParts, Rows}

module _ {A : Type 0} (has : A → Rows → Type 0) where
  -- one part more
  pub in_last : (parts : List A) (part : A) (rows own : Rows) → InParts has parts rows → has part own → InParts has (parts ++ part ∷ []) (rows ++ own)
  in_last [] part rows own none h = grind (arith, common_steps)
  in_last (first ∷ parts) part rows own (mine, later, is, has_mine, rest) h = grind (arith, common_steps, in_last parts part later own rest h)

  -- the parts that come before an index and those after it
  pub in_halves : (front back : List A) (rows : Rows) → InParts has (front ++ back) rows → (first : Rows) × (others : Rows) × (rows ≡ first ++ others) × InParts has front first × InParts has back others
  in_halves [] back rows all = ([], rows, refl, refl, all)
  in_halves (part ∷ front) back rows (mine, later, is, has_mine, rest) =
      let (first, others, same, before, after) = in_halves front back later rest in
      (mine ++ first, others, is ∙ ap (λ r. mine ++ r) same ∙ sym (append_assoc mine first others), (mine, first, refl, has_mine, before), after)

  -- the part at an index has some records
  pub in_at : (parts : List A) (rows : Rows) (i : ℕ) (part : A) → InParts has parts rows → i < length parts → part ≡ get_or parts i part → (own : Rows) × has part own
  in_at [] rows i part none below is = absurd (omega arith)
  in_at (first ∷ parts) rows zero part (mine, later, cut, has_mine, rest) below is = (mine, subst (λ p. has p mine) (sym is) has_mine)
  in_at (first ∷ parts) rows (suc i) part (mine, later, cut, has_mine, rest) below is = in_at parts later i part rest (omega arith) is

-- what holds of parts holds of them in a row
pub in_each : {A : Type 0} (has other : A → Rows → Type 0) → ((part : A) (own : Rows) → has part own → other part own) → (parts : List A) (rows : Rows) → InParts has parts rows → InParts other parts rows
in_each has other step [] rows none = none
in_each has other step (part ∷ parts) rows (mine, later, is, h, rest) = (mine, later, is, step part mine h, in_each has other step parts later rest)

-- what is made of each part is in a row as the parts are
pub in_made : {A B : Type 0} (has : A → Rows → Type 0) (made : B → Rows → Type 0) (parts : List A) (all : List B) (rows : Rows) → InParts has parts rows → length all ≡ length parts
    → ((i : ℕ) (d : B) (part : A) (own : Rows) → i < length parts → part ≡ get_or parts i part → has part own → made (get_or all i d) own) → InParts made all rows
in_made has made [] [] rows none long step = none
in_made has made [] (one ∷ all) rows none long step = absurd (omega (arith, long))
in_made has made (part ∷ parts) [] rows h long step = absurd (omega (arith, long))
in_made has made (part ∷ parts) (one ∷ all) rows (mine, later, is, h, rest) long step =
    (mine, later, is, step 0 one part mine (omega arith) refl h, in_made has made parts all later rest (omega (arith, long)) (λ i d other own below at has_own. step (suc i) d other own (omega arith) at has_own))
