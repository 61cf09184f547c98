-- Names put in the places of items: of one set, of the sets of baskets, and in a table that has counted these.
use Rattle.std.proofs.Common.{◌≡◌, ◌≢◌, ℕ, zero, suc, ◌+◌, ◌<◌, ◌≤◌, Bool, true, false, ◌||◌, List, [], ◌∷◌, ◌++◌, length, map, take, drop, get_or, set, cond, eqb, min, Option, Some, None, unwrap_or, replicate, refl, sym, ap, ◌∙◌, subst, inl, inr, arith}
use Rattle.std.proofs.lemmas.Grind.{common_steps, get_or-set_at}
use Rattle.std.specs.List.{IsDistinct}
use Rattle.std.specs.Prelude.{nat_eq}
use Rattle.std.proofs.lemmas.Bool.{cases_Bool, cases_eq, cases_lt, eq-eqb, or_cases, true≢false}
use Rattle.std.proofs.lemmas.List.{get_or_default, get_or-set_other, get_or-take, length-map, length-take}
use Rattle.std.proofs.lemmas.List.Elements.{All-map}
use Rattle.basket_sets.specs.declared.weighted.Weighted.{Weighted}
use Rattle.basket_sets.specs.Counts.{AllBelow, IsTable, tally}
use Rattle.basket_sets.specs.Database.{IsBasket, IsDatabase, renamed_basket}
use Rattle.basket_sets.specs.Itemset.{has, renamed_set, with_item}
use Rattle.basket_sets.specs.ItemTable.{Tabled, HasCounted}
use Rattle.basket_sets.specs.Support.{weight_at, support_of, all_items}
use Rattle.basket_sets.proofs.CountLemmas.{table_knows, weight_of_item}
use Rattle.basket_sets.proofs.theory.Members.{Member, Contains-from_Member, Member-from_Contains, Member-from_map, Member-map}
use Rattle.basket_sets.proofs.theory.Rising.{Member-from_has, Member-into_with_item, rising-rises, has-from_Member, has-append, has-rising, has_at, has_more, not_before, same_test}
use Rattle.basket_sets.proofs.theory.Renaming.{renamed_total}
use Rattle.basket_sets.proofs.theory.Support.{support-cons}

-- ---- one set

pub named_more : (f : ℕ → ℕ) (now before : List ℕ) (k : ℕ) → k < length now → k < length before → take k now ≡ map f (take k before)
    → take (k + 1) (set now k (f (get_or before k 0))) ≡ map f (take (k + 1) before)
named_more f now before k here there same = grind (arith, common_steps)

-- ---- a list is mapped one by one

mapped_at : {A : Type 0} (f : A → A) (xs : List A) (k : ℕ) (d : A) → k < length xs → get_or (map f (take k xs) ++ drop k xs) k d ≡ get_or xs k d
mapped_at f [] k d below = absurd (omega arith)
mapped_at f (x ∷ xs) zero d below = refl
mapped_at f (x ∷ xs) (suc k) d below = mapped_at f xs k d (omega arith)

mapped_more : {A : Type 0} (f : A → A) (xs : List A) (k : ℕ) (d : A) → k < length xs → set (map f (take k xs) ++ drop k xs) k (f (get_or xs k d)) ≡ map f (take (suc k) xs) ++ drop (suc k) xs
mapped_more f [] k d below = absurd (omega arith)
mapped_more f (x ∷ xs) zero d below = refl
mapped_more f (x ∷ xs) (suc k) d below = ap (λ l. f x ∷ l) (mapped_more f xs k d (omega arith))

-- the basket at an index that the renaming has come to is as it was
pub basket_at : (names : List ℕ) (baskets now : List Weighted) (k : ℕ) (d : Weighted) → k < length baskets
    → now ≡ map (renamed_basket names) (take k baskets) ++ drop k baskets → get_or now k d ≡ get_or baskets k d
basket_at names baskets now k d below so_far = ap (λ l. get_or l k d) so_far ∙ mapped_at (renamed_basket names) baskets k d below

-- one basket more is renamed where it lies
pub renamed_more : (names : List ℕ) (baskets now : List Weighted) (k : ℕ) (d receipt : Weighted) → k < length baskets
    → now ≡ map (renamed_basket names) (take k baskets) ++ drop k baskets → receipt ≡ renamed_basket names (get_or baskets k d)
    → set now k receipt ≡ map (renamed_basket names) (take (k + 1) baskets) ++ drop (k + 1) baskets
renamed_more names baskets now k d receipt below so_far is =
    let one : k + 1 ≡ suc k = omega arith in
    (λ i. set (so_far i) k (is i)) ∙ mapped_more (renamed_basket names) baskets k d below
    ∙ ap (λ n. map (renamed_basket names) (take n baskets) ++ drop n baskets) (sym one)

-- ---- slots

or_false_parts : (a b : Bool) → (a || b) ≡ false → (a ≡ false) × (b ≡ false)
or_false_parts false b h = (refl, h)
or_false_parts true b h = absurd cc

or_true : (b : Bool) → (b || true) ≡ true
or_true false = refl
or_true true = refl

-- a slot without a name stays
pub slot_stays : (names : List ℕ) (table : List (Option ℕ)) (i : ℕ) (slot : Option ℕ) (other : ℕ) → i < length names → has (take (i + 1) names) other ≡ false
    → (has (take i names) other ≡ false) × (get_or (set table (get_or names i 0) slot) other None ≡ get_or table other None)
slot_stays names table i slot other below h =
    let p = or_false_parts (has (take i names) other) (eqb (get_or names i 0) other) (sym (has_more names i other below) ∙ h) in
    (p.0, get_or-set_other table (get_or names i 0) other slot None (λ same. true≢false (sym (eq-eqb (get_or names i 0) other (sym same)) ∙ p.1)))

-- no support is above a bound
pub slot_bounded : (table : List (Option ℕ)) (i most : ℕ) (slot : Option ℕ) → unwrap_or slot 0 ≤ most → ((other : ℕ) → unwrap_or (get_or table other None) 0 ≤ most) → i < length table
    → (other : ℕ) → unwrap_or (get_or (set table i slot) other None) 0 ≤ most
slot_bounded table i most slot one each short other = elim (cases_eq other i) [
  | inl same ↦ rw (get_or-set_at table i other slot None same short) one
  | inr apart ↦ rw (get_or-set_other table i other slot None apart) (each other)
]

-- ---- supports under distinct names

module _ (names : List ℕ) (distinct : IsDistinct nat_eq names) where
  abbrev name : ℕ → ℕ
  name item = get_or names item 0

  earlier : (x y : ℕ) → x < y → y < length names → name x ≡ name y → ⊥
  earlier x y less below same =
      let here : x < length (take y names) = omega (arith, length-take y names) in
      true≢false (sym (has_at (take y names) x here) ∙ ap (has (take y names)) (get_or-take y names x 0 less ∙ same) ∙ not_before names y distinct below)

  -- items with one name are one
  pub same_item : (x y : ℕ) → x < length names → y < length names → name x ≡ name y → x ≡ y
  same_item x y first second same = elim (cases_lt x y) [
    | inl less ↦ absurd (earlier x y less second same)
    | inr more ↦ elim (cases_lt y x) [ inl less ↦ absurd (earlier y x less first (sym same)) | inr other ↦ omega arith ]
  ]

  -- one slot more is put in its place
  pub slot_more : (slots table : List (Option ℕ)) (i : ℕ) (slot : Option ℕ) → i < length names → AllBelow (length table) names → slot ≡ get_or slots i None
      → ((k : ℕ) → k < i → get_or table (name k) None ≡ get_or slots k None) → (k : ℕ) → k < i + 1 → get_or (set table (name i) slot) (name k) None ≡ get_or slots k None
  slot_more slots table i slot short fits is before k less = elim (cases_lt k i) [
    | inl earlier ↦ get_or-set_other table (name i) (name k) slot None (λ same. let e = same_item k i (omega arith) short same in omega arith) ∙ before k earlier
    | inr later ↦
        (let here : k ≡ i = omega arith in
        get_or-set_at table (name i) (name k) slot None (ap name here) (fits (name i) (has_at names i short)) ∙ is ∙ ap (λ n. get_or slots n None) (sym here))
  ]

  has_renamed : (items : List ℕ) (x : ℕ) → AllBelow (length names) items → x < length names → has (renamed_set names items) (name x) ≡ has items x
  has_renamed items x below within = has-rising (map name items) (name x) ∙ same_test (has (map name items) (name x)) (has items x)
      (λ h. let p = Member-from_map name (name x) items (Member-from_has (map name items) (name x) h) in
      subst (λ z. has items z ≡ true) (same_item p.0 x (below p.0 (has-from_Member items p.0 p.1)) within p.2) (has-from_Member items p.0 p.1))
      (λ h. has-from_Member (map name items) (name x) (Member-map name x items (Member-from_has items x h)))

  both_below : (receipt : Weighted) (baskets : List Weighted) → AllBelow (length names) (all_items (receipt ∷ baskets)) → AllBelow (length names) receipt.basket × AllBelow (length names) (all_items baskets)
  both_below receipt baskets below = (
    λ item h. below item (has-append receipt.basket (all_items baskets) item ∙ ap (λ b. b || has (all_items baskets) item) h),
    λ item h. below item (has-append receipt.basket (all_items baskets) item ∙ ap (λ b. has receipt.basket item || b) h ∙ or_true (has receipt.basket item)),
  )

  support_renamed : (baskets : List Weighted) (x : ℕ) → AllBelow (length names) (all_items baskets) → x < length names
      → support_of (map (renamed_basket names) baskets) (name x ∷ []) ≡ support_of baskets (x ∷ [])
  support_renamed [] x below within = refl
  support_renamed (receipt ∷ baskets) x below within =
      let both = both_below receipt baskets below in
      support-cons (renamed_basket names receipt) (map (renamed_basket names) baskets) (name x ∷ [])
      ∙ (λ i. one i + support_renamed baskets x both.1 within i)
      ∙ sym (support-cons receipt baskets (x ∷ []))
    where
      one : weight_at (name x ∷ []) (renamed_basket names receipt) ≡ weight_at (x ∷ []) receipt
      one = weight_of_item (renamed_basket names receipt) (name x) ∙ ap (λ b. cond b receipt.weight 0) (has_renamed receipt.basket x (both_below receipt baskets below).0 within) ∙ sym (weight_of_item receipt x)

  items_renamed : (baskets : List Weighted) (x : ℕ) → AllBelow (length names) (all_items baskets) → x < length names
      → has (all_items (map (renamed_basket names) baskets)) (name x) ≡ has (all_items baskets) x
  items_renamed [] x below within = refl
  items_renamed (receipt ∷ baskets) x below within =
      let both = both_below receipt baskets below in
      has-append (renamed_set names receipt.basket) (all_items (map (renamed_basket names) baskets)) (name x)
      ∙ (λ i. has_renamed receipt.basket x both.0 within i || items_renamed baskets x both.1 within i)
      ∙ sym (has-append receipt.basket (all_items baskets) x)

  -- each item of the baskets is the name of one that they had
  from_renamed : (baskets : List Weighted) (y : ℕ) → has (all_items (map (renamed_basket names) baskets)) y ≡ true → (x : ℕ) × (has (all_items baskets) x ≡ true) × (name x ≡ y)
  from_renamed [] y h = absurd cc
  from_renamed (receipt ∷ baskets) y h =
      elim (or_cases (has (renamed_set names receipt.basket) y) (has (all_items (map (renamed_basket names) baskets)) y)
      (sym (has-append (renamed_set names receipt.basket) (all_items (map (renamed_basket names) baskets)) y) ∙ h)) [
        | inl here ↦
            (let p = Member-from_map name y receipt.basket (Member-from_has (map name receipt.basket) y (sym (has-rising (map name receipt.basket) y) ∙ here)) in
            (p.0, has-append receipt.basket (all_items baskets) p.0 ∙ ap (λ b. b || has (all_items baskets) p.0) (has-from_Member receipt.basket p.0 p.1), p.2))
        | inr later ↦
            (let p = from_renamed baskets y later in
            (p.0, has-append receipt.basket (all_items baskets) p.0 ∙ ap (λ b. has receipt.basket p.0 || b) p.1 ∙ or_true (has receipt.basket p.0), p.2))
      ]

  tally_renamed : (baskets : List Weighted) (x : ℕ) → AllBelow (length names) (all_items baskets) → x < length names
      → tally (map (renamed_basket names) baskets) (name x) ≡ tally baskets x
  tally_renamed baskets x below within = λ i. cond (items_renamed baskets x below within i) (Some (support_renamed baskets x below within i)) None

  -- the table of the renamed baskets has the slot of each item at its name, and no other
  pub renamed_counted : (old : Tabled) (slots : List (Option ℕ)) (many : ℕ) (baskets : List Weighted) → many ≡ min (length old.slots) (length names) → HasCounted old baskets
      → AllBelow (length names) (all_items baskets) → AllBelow (length slots) names
      → ((item : ℕ) → item < many → get_or slots (name item) None ≡ get_or old.slots item None)
      → ((other : ℕ) → has (take many names) other ≡ false → get_or slots other None ≡ None)
      → HasCounted (record { slots = slots; total = old.total }) (map (renamed_basket names) baskets)
  renamed_counted old slots many baskets least counted below fits named others = record {
    slots = λ item short. elim (cases_Bool (has (take many names) item)) [
      | inl e ↦
          (let c = Contains-from_Member item (take many names) (Member-from_has (take many names) item e) in
          let less : c.0 < many = omega (arith, c.1, length-take many names) in
          let long : c.0 < length names = omega (arith, less) in
          let is : name c.0 ≡ item = sym (get_or-take many names c.0 0 less) ∙ get_or_default (take many names) c.0 0 item c.1 ∙ c.2 in
          ap (λ n. get_or slots n None) (sym is) ∙ named c.0 less ∙ table_knows baskets old.slots counted.slots counted.within c.0
          ∙ sym (tally_renamed baskets c.0 below long) ∙ ap (tally (map (renamed_basket names) baskets)) is)
      | inr e ↦ others item e ∙ sym (absent item e)
    ];
    within = λ item h. let p = from_renamed baskets item h in
        let at = below p.0 p.1 in
        subst (λ n. n < length slots) p.2 (fits (name p.0) (has_at names p.0 at));
    total = counted.total ∙ sym (renamed_total names baskets);
  }
    where
      absent : (item : ℕ) → has (take many names) item ≡ false → tally (map (renamed_basket names) baskets) item ≡ None
      absent item e = elim (cases_Bool (has (all_items (map (renamed_basket names) baskets)) item)) [
        | inl h ↦
            (let p = from_renamed baskets item h in
            let first = counted.within p.0 p.1 in
            let second = below p.0 p.1 in
            let less : p.0 < many = omega arith in
            let here : p.0 < length (take many names) = omega (arith, length-take many names) in
            absurd (true≢false (sym (has_at (take many names) p.0 here) ∙ ap (has (take many names)) (get_or-take many names p.0 0 less ∙ p.2) ∙ e)))
        | inr h ↦ ap (λ b. cond b (Some (support_of (map (renamed_basket names) baskets) (item ∷ []))) None) h
      ]

-- ---- what a database keeps

-- a list with a number has one
some_item : (a : ℕ) (xs : List ℕ) → with_item a xs ≢ []
some_item a xs e = subst (Member a) e (Member-into_with_item a xs a (inl refl))

renamed_some : (names items : List ℕ) → items ≢ [] → renamed_set names items ≢ []
renamed_some names [] some e = some refl
renamed_some names (x ∷ items) some e = some_item (get_or names x 0) (renamed_set names items) e

pub renamed_is_database : (names : List ℕ) (baskets : List Weighted) → IsDatabase baskets → IsDatabase (map (renamed_basket names) baskets)
renamed_is_database names baskets is = record {
  each = All-map IsBasket (renamed_basket names) baskets (λ k d below.
      let own = is.each k d below in
      (rising-rises (map (λ item. get_or names item 0) (get_or baskets k d).basket), renamed_some names (get_or baskets k d).basket own.1, own.2));
  few = omega (arith, is.few, length-map baskets (renamed_basket names));
  light = omega (arith, is.light, renamed_total names baskets);
}

-- a table that nothing was put in has nothing
pub nothing : (count item : ℕ) → get_or (replicate {A = Option ℕ} count None) item None ≡ None
nothing count item = grind (arith, common_steps)
