-- A set as its front and its last two items.
use Rattle.std.proofs.Common.{◌≡◌, ℕ, ◌<◌, List, [], ◌∷◌, ◌++◌, length, refl, ap, inl, inr, arith, zero, suc}
use Rattle.std.proofs.lemmas.List.{length_push}
use Rattle.basket_sets.specs.Itemset.{IsRising, with_item, without}
use Rattle.basket_sets.proofs.theory.Members.{Member-append, Member-append_left, Member-append_right}
use Rattle.basket_sets.proofs.theory.Rising.{Member-into_with_item, Member-with_item, cons_rises, first_below, front_rises, rest_rises, same_rising, with_item-rises}
use Rattle.mine_supports.proofs.theory.Grouped.{one_rises}

pub record Ends (last : ℕ) (set : List ℕ) : Type 0 where
  pub front : List ℕ
  pub first : ℕ
  pub second : ℕ
  pub is : set ≡ (front ++ first ∷ []) ++ second ∷ []
  pub without_second : without (suc last) set ≡ front ++ first ∷ []
  pub without_first : without last set ≡ front ++ second ∷ []

pub ends_of : (last : ℕ) (set : List ℕ) → length set ≡ suc (suc last) → Ends last set
ends_of last [] e = absurd (omega (arith, e))
ends_of last (x ∷ []) e = absurd (omega (arith, e))
ends_of zero (x ∷ y ∷ []) e = record { front = []; first = x; second = y; is = refl; without_second = refl; without_first = refl }
ends_of zero (x ∷ y ∷ z ∷ set) e = absurd (omega (arith, e))
ends_of (suc last) (x ∷ set) e =
    let r = ends_of last set (omega (arith, e)) in
    record {
      front = x ∷ r.front;
      first = r.first;
      second = r.second;
      is = ap (λ l. x ∷ l) r.is;
      without_second = ap (λ l. x ∷ l) r.without_second;
      without_first = ap (λ l. x ∷ l) r.without_first;
    }

pub without_second : (front : List ℕ) (x y : ℕ) → without (suc (length front)) ((front ++ x ∷ []) ++ y ∷ []) ≡ front ++ x ∷ []
without_second [] x y = refl
without_second (z ∷ front) x y = ap (λ l. z ∷ l) (without_second front x y)

pub without_first : (front : List ℕ) (x y : ℕ) → without (length front) ((front ++ x ∷ []) ++ y ∷ []) ≡ front ++ y ∷ []
without_first [] x y = refl
without_first (z ∷ front) x y = ap (λ l. z ∷ l) (without_first front x y)

pub length_after : (set : List ℕ) (item size : ℕ) → length set ≡ size → length (set ++ item ∷ []) ≡ suc size
length_after set item size e = omega (arith, e, length_push set item)

-- ---- rising sets

pub rises_after : (front : List ℕ) (x y : ℕ) → IsRising (front ++ x ∷ []) → x < y → IsRising ((front ++ x ∷ []) ++ y ∷ [])
rises_after [] x y up h = cons_rises x (y ∷ []) (λ z m. elim m [ inl e ↦ omega arith | inr n ↦ absurd n ]) (one_rises y)
rises_after (z ∷ front) x y up h =
    cons_rises z ((front ++ x ∷ []) ++ y ∷ [])
    (λ w m. elim (Member-append w (front ++ x ∷ []) (y ∷ []) m) [
      | inl n ↦ first_below z (front ++ x ∷ []) up w n
      | inr n ↦ elim n [ inl e ↦ (let b = first_below z (front ++ x ∷ []) up x (Member-append_right x front (x ∷ []) (inl refl)) in omega arith) | inr k ↦ absurd k ]
    ])
    (rises_after front x y (rest_rises z (front ++ x ∷ []) up) h)

pub rising_ends : (front : List ℕ) (x y : ℕ) → IsRising ((front ++ x ∷ []) ++ y ∷ []) → x < y
rising_ends [] x y up = first_below x (y ∷ []) up y (inl refl)
rising_ends (z ∷ front) x y up = rising_ends front x y (rest_rises z ((front ++ x ∷ []) ++ y ∷ []) up)

-- a set with an item above its own
pub with_last : (set : List ℕ) (item : ℕ) → IsRising (set ++ item ∷ []) → with_item item set ≡ set ++ item ∷ []
with_last set item up =
    same_rising (with_item item set) (set ++ item ∷ []) (with_item-rises item set (front_rises set item up)) up
    (λ z m. elim (Member-with_item item set z m) [ inl e ↦ Member-append_right z set (item ∷ []) (inl e) | inr n ↦ Member-append_left z set (item ∷ []) n ])
    (λ z m. Member-into_with_item item set z (elim (Member-append z set (item ∷ []) m) [ inl n ↦ inr n | inr n ↦ elim n [ inl e ↦ inl e | inr k ↦ absurd k ] ]))
