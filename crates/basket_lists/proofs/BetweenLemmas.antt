-- Rising lists with an item between others.
use Rattle.std.proofs.Common.{◌≡◌, ℕ, ◌+◌, ◌<◌, List, [], ◌∷◌, ◌++◌, length, get_or, take, drop, refl, sym, ap, ◌∙◌, subst, inl, inr, arith}
use Rattle.std.proofs.lemmas.Grind.{common_steps}
use Rattle.std.proofs.lemmas.List.{append-nil, map-append, take-append-drop, take_more}
use Rattle.basket_lists.specs.Packed.{items_at}
use Rattle.basket_sets.specs.Itemset.{IsRising, with_item}
use Rattle.basket_sets.proofs.theory.Members.{Member, Member-append_left, Member-append_right, Member-from_map}
use Rattle.basket_sets.proofs.theory.Rising.{cons_rises, first_below, nil_rises, rest_rises, with_item_by}
use Rattle.basket_sets.proofs.theory.Tests.{rising_at}

pub with_first : (first : ℕ) (items : List ℕ) → ((item : ℕ) → Member item items → first < item) → with_item first items ≡ first ∷ items
with_first first [] below = refl
with_first first (item ∷ items) below = let less = below item (inl refl) in
    with_item_by (λ l. l ≡ first ∷ item ∷ items) first item items (λ h. refl) (λ same. absurd (omega arith)) (λ more. absurd (omega arith))

pub with_later : (item first : ℕ) (items : List ℕ) → first < item → with_item item (first ∷ items) ≡ first ∷ with_item item items
with_later item first items more = grind (arith, common_steps)

-- an item between those below it and those above
pub with_between : (item : ℕ) (before after : List ℕ) → ((other : ℕ) → Member other before → other < item) → ((other : ℕ) → Member other after → item < other)
    → with_item item (before ++ after) ≡ before ++ item ∷ after
with_between item [] after less more = with_first item after more
with_between item (first ∷ before) after less more =
    with_later item first (before ++ after) (less first (inl refl)) ∙ ap (λ l. first ∷ l) (with_between item before after (λ other m. less other (inr m)) more)

-- the items of a rising list before one are below it, and those after it above
pub before_below : (before : List ℕ) (item : ℕ) (after : List ℕ) → IsRising (before ++ item ∷ after) → (other : ℕ) → Member other before → other < item
before_below [] item after up other m = absurd m
before_below (first ∷ before) item after up other (inl same) =
    subst (λ x. x < item) same (first_below first (before ++ item ∷ after) up item (Member-append_right item before (item ∷ after) (inl refl)))
before_below (first ∷ before) item after up other (inr m) = before_below before item after (rest_rises first (before ++ item ∷ after) up) other m

pub after_above : (before : List ℕ) (item : ℕ) (after : List ℕ) → IsRising (before ++ item ∷ after) → (other : ℕ) → Member other after → item < other
after_above [] item after up other m = first_below item after up other m
after_above (first ∷ before) item after up other m = after_above before item after (rest_rises first (before ++ item ∷ after) up) other m

-- parts of a rising list rise
pub first_part_rises : (before after : List ℕ) → IsRising (before ++ after) → IsRising before
first_part_rises [] after up = nil_rises
first_part_rises (first ∷ before) after up =
    cons_rises first before (λ other m. first_below first (before ++ after) up other (Member-append_left other before after m))
    (first_part_rises before after (rest_rises first (before ++ after) up))

-- a part of a rising list with the next item is the longer part
pub with_next : (items : List ℕ) (i : ℕ) → IsRising items → i < length items → with_item (get_or items i 0) (take i items) ≡ take (i + 1) items
with_next items i up less =
    let more = take_more items i 0 less in
    let all : IsRising (take i items ++ get_or items i 0 ∷ []) = subst IsRising more (first_part_rises (take (i + 1) items) (drop (i + 1) items) (subst IsRising (sym (take-append-drop (i + 1) items)) up)) in
    ap (with_item (get_or items i 0)) (sym (append-nil (take i items)))
    ∙ with_between (get_or items i 0) (take i items) [] (before_below (take i items) (get_or items i 0) [] all) (λ other m. absurd m) ∙ sym more

-- ---- the items at indexes of a rising list

-- they rise as the indexes do
item_less : (items : List ℕ) (index other : ℕ) → IsRising items → index < other → other < length items → get_or items index 0 < get_or items other 0
item_less items index other up less below = rising_at items index other up less below

pub items_below : (items indexes : List ℕ) (index : ℕ) → IsRising items → index < length items → ((other : ℕ) → Member other indexes → other < index)
    → (item : ℕ) → Member item (items_at items indexes) → item < get_or items index 0
items_below items indexes index up below less item m = let at = Member-from_map (λ p. get_or items p 0) item indexes m in grind (arith, common_steps, item_less)

pub items_above : (items indexes : List ℕ) (index : ℕ) → IsRising items → ((other : ℕ) → Member other indexes → other < length items) → ((other : ℕ) → Member other indexes → index < other)
    → (item : ℕ) → Member item (items_at items indexes) → get_or items index 0 < item
items_above items indexes index up below more item m = let at = Member-from_map (λ p. get_or items p 0) item indexes m in grind (arith, common_steps, item_less)

-- with an item at an index between others
pub items_between : (items before after : List ℕ) (index : ℕ) → IsRising items → index < length items → ((other : ℕ) → Member other after → other < length items)
    → ((other : ℕ) → Member other before → other < index) → ((other : ℕ) → Member other after → index < other)
    → items_at items (before ++ index ∷ after) ≡ with_item (get_or items index 0) (items_at items (before ++ after))
items_between items before after index up below within less more =
    map-append (λ p. get_or items p 0) before (index ∷ after)
    ∙ sym (with_between (get_or items index 0) (items_at items before) (items_at items after) (items_below items before index up below less) (items_above items after index up within more))
    ∙ ap (with_item (get_or items index 0)) (sym (map-append (λ p. get_or items p 0) before after))

-- items at rising indexes rise
pub items_rise : (items indexes : List ℕ) → IsRising items → IsRising indexes → ((other : ℕ) → Member other indexes → other < length items) → IsRising (items_at items indexes)
items_rise items [] up rising within = nil_rises
items_rise items (index ∷ indexes) up rising within =
    cons_rises (get_or items index 0) (items_at items indexes)
    (items_above items indexes index up (λ other m. within other (inr m)) (first_below index indexes rising))
    (items_rise items indexes up (rest_rises index indexes rising) (λ other m. within other (inr m)))
