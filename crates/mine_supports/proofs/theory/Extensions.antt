-- Sets as prefixes and the items that extend them.
use Rattle.std.proofs.Common.{◌≡◌, ℕ, suc, ◌+◌, ◌<◌, ◌≤◌, Bool, List, [], ◌∷◌, ◌++◌, length, filter, map, get_or, cond, take, drop, append-nil, refl, Some, None, ◌-◌, sym, ap, ◌∙◌, inl, inr, arith}
use Rattle.std.proofs.lemmas.Grind.{common_steps}
use Rattle.std.proofs.lemmas.Grind.{flat_map-append}
use Rattle.std.specs.List.{slice_get}
use Rattle.std.specs.Prelude.{slice_range}
use Rattle.std.proofs.lemmas.List.{get_or-drop, get_or-map, length-append, length-drop, length-map, length-take-le, take-append-drop, take_all}
use Rattle.std.proofs.lemmas.List.Elements.{filter-append}
use Rattle.basket_sets.specs.Itemset.{IsRising, rising}
use Rattle.basket_sets.proofs.theory.Items.{filter-map}
use Rattle.basket_sets.proofs.theory.Rising.{cons_rises, first_below, nil_rises, rest_rises, rising-rising}
use Rattle.mine_supports.specs.Extensions.{Group, groups_of, prefixes_of, lists_of, extend, sets_of, has_items, is_some}

-- ---- prefixes and lists

pub prefixes_back : (prefixes lists : List (List ℕ)) → length lists ≡ length prefixes → prefixes_of (groups_of prefixes lists) ≡ prefixes
prefixes_back [] lists e = refl
prefixes_back (p ∷ prefixes) [] e = absurd (omega (arith, e))
prefixes_back (p ∷ prefixes) (l ∷ lists) e = ap (λ r. p ∷ r) (prefixes_back prefixes lists (omega (arith, e)))

pub lists_back : (prefixes lists : List (List ℕ)) → length lists ≡ length prefixes → lists_of (groups_of prefixes lists) ≡ lists
lists_back [] [] e = refl
lists_back [] (l ∷ lists) e = absurd (omega (arith, e))
lists_back (p ∷ prefixes) [] e = absurd (omega (arith, e))
lists_back (p ∷ prefixes) (l ∷ lists) e = ap (λ r. l ∷ r) (lists_back prefixes lists (omega (arith, e)))

pub lists_are : (prefixes lists : List (List ℕ)) (groups : List Group) → length lists ≡ length prefixes → groups_of prefixes lists ≡ groups → lists ≡ lists_of groups
lists_are prefixes lists groups same is = sym (lists_back prefixes lists same) ∙ ap lists_of is

pub rising_again : (items : List ℕ) → IsRising items → rising items ≡ items
rising_again = rising-rising

pub groups_back : (groups : List Group) → groups_of (prefixes_of groups) (lists_of groups) ≡ groups
groups_back [] = refl
groups_back (group ∷ groups) = ap (λ r. group ∷ r) (groups_back groups)

pub groups_append : (prefixes lists more others : List (List ℕ)) → length lists ≡ length prefixes → groups_of (prefixes ++ more) (lists ++ others) ≡ groups_of prefixes lists ++ groups_of more others
groups_append [] [] more others e = refl
groups_append [] (l ∷ lists) more others e = absurd (omega (arith, e))
groups_append (p ∷ prefixes) [] more others e = absurd (omega (arith, e))
groups_append (p ∷ prefixes) (l ∷ lists) more others e = ap (λ r. record { prefix = p; items = l } ∷ r) (groups_append prefixes lists more others (omega (arith, e)))

pub sets_append : (groups others : List Group) → sets_of (groups ++ others) ≡ sets_of groups ++ sets_of others
sets_append groups others = flat_map-append (λ (group : Group). extend group.prefix group.items) groups others

pub sets_push : (groups : List Group) (prefix items : List ℕ) → sets_of (groups ++ record { prefix = prefix; items = items } ∷ []) ≡ sets_of groups ++ extend prefix items
sets_push groups prefix items = sets_append groups (record { prefix = prefix; items = items } ∷ []) ∙ ap (λ l. sets_of groups ++ l) (append-nil (extend prefix items))

pub long_append : (prefixes lists more others : List (List ℕ)) (len size : ℕ) → length lists ≡ length prefixes → len ≡ length (sets_of (groups_of prefixes lists)) → size ≡ length (sets_of (groups_of more others))
    → len + size ≡ length (sets_of (groups_of (prefixes ++ more) (lists ++ others)))
long_append prefixes lists more others len size e is has = grind (arith, common_steps, groups_append, sets_append, length-append)

pub long_push : (prefixes lists : List (List ℕ)) (prefix items : List ℕ) (len : ℕ) → length lists ≡ length prefixes → len ≡ length (sets_of (groups_of prefixes lists))
    → len + length items ≡ length (sets_of (groups_of (prefixes ++ prefix ∷ []) (lists ++ items ∷ [])))
long_push prefixes lists prefix items len e is = grind (arith, common_steps, long_append, length-map)

-- ---- what is kept

filled_step : (prefix items : List ℕ) (rest all : List Group) → sets_of rest ≡ sets_of all → sets_of (cond (is_some items) (record { prefix = prefix; items = items } ∷ rest) rest) ≡ extend prefix items ++ sets_of all
filled_step h1 h2 h3 h4 h5 = grind (arith, common_steps)

-- prefixes that nothing extends have no sets
pub sets_filled : (groups : List Group) → sets_of (filter has_items groups) ≡ sets_of groups
sets_filled [] = refl
sets_filled (group ∷ groups) = filled_step group.prefix group.items (filter has_items groups) groups (sets_filled groups)

-- the sets of one more prefix
pub sets_with : (groups : List Group) (prefix items : List ℕ) → sets_of (groups ++ filter has_items (record { prefix = prefix; items = items } ∷ [])) ≡ sets_of groups ++ extend prefix items
sets_with groups prefix items = grind (arith, common_steps)

abbrev pub passing : (List ℕ → Bool) → Group → Group
passing passes group = record { prefix = group.prefix; items = filter (λ item. passes (group.prefix ++ item ∷ [])) group.items }

passing_sets : (passes : List ℕ → Bool) (groups : List Group) → sets_of (map (passing passes) groups) ≡ filter passes (sets_of groups)
passing_sets passes [] = refl
passing_sets passes (group ∷ groups) = grind (arith, common_steps, passing_sets passes groups, filter-map, filter-append)

pub kept_sets : (passes : List ℕ → Bool) (groups : List Group) → sets_of (filter has_items (map (passing passes) groups)) ≡ filter passes (sets_of groups)
kept_sets passes groups = sets_filled (map (passing passes) groups) ∙ passing_sets passes groups

-- ---- sets, one after another

-- one set more
pub some_more : (sets : List (List ℕ)) (i : ℕ) (set first : List ℕ) (last : ℕ) (before : List (List ℕ)) → i < length sets → set ≡ get_or sets i set → set ≡ first ++ last ∷ [] → before ≡ filter is_some (take i sets)
    → before ++ (first ++ last ∷ []) ∷ [] ≡ filter is_some (take (i + 1) sets)
some_more sets i set first last before below is parts same = grind (arith, common_steps)

pub none_more : (sets : List (List ℕ)) (i : ℕ) (set : List ℕ) (before : List (List ℕ)) → i < length sets → set ≡ get_or sets i set → set ≡ [] → before ≡ filter is_some (take i sets) → before ≡ filter is_some (take (i + 1) sets)
none_more sets i set before below is none same = grind (arith, common_steps)

-- an item more
pub item_more : (found : List (List ℕ)) (prefix items : List ℕ) (item : ℕ) → found ++ extend prefix (items ++ item ∷ []) ≡ (found ++ extend prefix items) ++ (prefix ++ item ∷ []) ∷ []
item_more found prefix items item = grind (arith, common_steps)

-- an item above the last of rising ones
rises_above : (items : List ℕ) (item : ℕ) → IsRising items → ((last : ℕ) → slice_get items (length items - 1) ≡ Some last → last < item) → IsRising (items ++ item ∷ [])
rises_above [] item up above = cons_rises item [] (λ y m. absurd m) nil_rises
rises_above (x ∷ []) item up above = cons_rises x (item ∷ []) (λ y m. elim m [ inl e ↦ (let h = above x refl in omega arith) | inr n ↦ absurd n ]) (cons_rises item [] (λ y m. absurd m) nil_rises)
rises_above (x ∷ y ∷ items) item up above =
    let rest = rises_above (y ∷ items) item (rest_rises x (y ∷ items) up) (λ last h. above last (ap (slice_get (x ∷ y ∷ items)) (let e : length (x ∷ y ∷ items) - 1 ≡ suc (length (y ∷ items) - 1) = omega arith in e) ∙ h)) in
    let less = first_below x (y ∷ items) up y (inl refl) in
    cons_rises x ((y ∷ items) ++ item ∷ []) (λ z m. elim m [
      | inl e ↦ (let h = first_below x (y ∷ items) up z (inl e) in h)
      | inr n ↦ (let h = first_below y (items ++ item ∷ []) rest z n in omega arith)
    ]) rest

-- and the other way round
pub last_below : (items : List ℕ) (item last : ℕ) → IsRising (items ++ item ∷ []) → slice_get items (length items - 1) ≡ Some last → last < item
last_below [] item last up is = absurd (let no : None ≡ Some last = is in cc)
last_below (x ∷ []) item last up is = let same : Some x ≡ Some last = is in let one : x ≡ last = cc in let less = first_below x (item ∷ []) up item (inl refl) in omega (arith, one, less)
last_below (x ∷ y ∷ items) item last up is =
    last_below (y ∷ items) item last (rest_rises x (y ∷ items ++ item ∷ []) up)
    (ap (slice_get (x ∷ y ∷ items)) (let e : suc (length (y ∷ items) - 1) ≡ length (x ∷ y ∷ items) - 1 = omega arith in e) ∙ is)

above_last : (items : List ℕ) (item last : ℕ) → slice_get items (length items - 1) ≡ Some last → last < item → (other : ℕ) → slice_get items (length items - 1) ≡ Some other → other < item
above_last items item last is less other e = let same : Some last ≡ Some other = sym is ∙ e in let one : last ≡ other = cc in omega arith

above_none : (items : List ℕ) (item : ℕ) → slice_get items (length items - 1) ≡ None → (other : ℕ) → slice_get items (length items - 1) ≡ Some other → other < item
above_none items item none other e = absurd (let same : None ≡ Some other = sym none ∙ e in cc)

pub rises_after : (items : List ℕ) (item last : ℕ) → IsRising items → slice_get items (length items - 1) ≡ Some last → last < item → IsRising (items ++ item ∷ [])
rises_after items item last up is less = rises_above items item up (above_last items item last is less)

pub rises_alone : (items : List ℕ) (item : ℕ) → IsRising items → slice_get items (length items - 1) ≡ None → IsRising (items ++ item ∷ [])
rises_alone items item up none = rises_above items item up (above_none items item none)

-- ---- a prefix and its items, as they are read

abbrev pub no_group : Group
no_group = record { prefix = []; items = [] }

pub prefix_read : (groups : List Group) (list : List (List ℕ)) (index : ℕ) (read : List ℕ) → list ≡ prefixes_of groups → index < length groups → read ≡ get_or list index read → read ≡ (get_or groups index no_group).prefix
prefix_read groups list index read same below is = is ∙ ap (λ l. get_or l index read) same ∙ get_or-map (λ (group : Group). group.prefix) groups index no_group read below

pub items_read : (groups : List Group) (list : List (List ℕ)) (index : ℕ) (read : List ℕ) → list ≡ lists_of groups → index < length groups → read ≡ get_or list index read → read ≡ (get_or groups index no_group).items
items_read groups list index read same below is = is ∙ ap (λ l. get_or l index read) same ∙ get_or-map (λ (group : Group). group.items) groups index no_group read below

pub groups_long : (groups : List Group) → length (prefixes_of groups) ≡ length groups
groups_long groups = length-map groups (λ group. group.prefix)

pub lists_long : (groups : List Group) → length (lists_of groups) ≡ length groups
lists_long groups = length-map groups (λ group. group.items)

-- ---- some of the prefixes

pub range_all : (groups : List Group) → slice_range groups 0 (length groups) ≡ groups
range_all groups = ap (λ n. take n groups) (let e : length groups - 0 ≡ length groups = omega arith in e) ∙ take_all (length groups) groups (omega arith)

pub range_long : (groups : List Group) (start end : ℕ) → end ≤ length groups → length (slice_range groups start end) ≡ end - start
range_long groups start end within = length-take-le (end - start) (drop start groups) (let d = length-drop start groups in omega (arith, within, d))

pub range_at : (groups : List Group) (start end index : ℕ) (d : Group) → start ≤ index → index < end → get_or (slice_range groups start end) (index - start) d ≡ get_or groups index d
range_at groups start end index d from below = grind (arith, common_steps)

-- one prefix more
pub range_more : (groups : List Group) (start index : ℕ) (d : Group) → start ≤ index → index < length groups → slice_range groups start (index + 1) ≡ slice_range groups start index ++ get_or groups index d ∷ []
range_more groups start index d from below = grind (arith, common_steps, length-drop start groups, get_or-drop start groups (index - start) d)

pub count_more : (groups : List Group) (start index : ℕ) (d : Group) → start ≤ index → index < length groups
    → length (sets_of (slice_range groups start (index + 1))) ≡ length (sets_of (slice_range groups start index)) + length (get_or groups index d).items
count_more groups start index d from below = grind (arith, common_steps, range_more groups start index d from below)

pub count_split : (groups : List Group) (start : ℕ) → length (sets_of groups) ≡ length (sets_of (take start groups)) + length (sets_of (drop start groups))
count_split groups start =
    ap (λ g. length (sets_of g)) (sym (take-append-drop start groups)) ∙ ap length (sets_append (take start groups) (drop start groups))
    ∙ length-append (sets_of (take start groups)) (sets_of (drop start groups))

pub count_within : (groups : List Group) (start end : ℕ) → length (sets_of (take start groups)) + length (sets_of (slice_range groups start end)) ≤ length (sets_of groups)
count_within groups start end = omega (arith, count_split groups start, count_split (drop start groups) (end - start))
