-- Covers of ranks, made tid by tid.
use Rattle.std.proofs.Common.{◌≡◌, ℕ, ◌+◌, ◌<◌, Bool, true, false, ◌&&◌, List, [], ◌∷◌, ◌++◌, drop, length, get_or, map, cond, refl, sym, ap, ◌∙◌, subst, inl, inr, arith, zero, suc, zero-add, add-one}
use Rattle.std.proofs.lemmas.Grind.{common_steps}
use Rattle.std.specs.declared.vec.Vec.{Vec}
use Rattle.std.specs.declared.alloc.Global.{Global}
use Rattle.std.specs.List.{filter, range_with_len}
use Rattle.std.proofs.Math.ListN.{set}
use Rattle.std.proofs.lemmas.Bool.{cases_Bool, cases_eq, eq-eqb}
use Rattle.std.proofs.lemmas.List.{append-nil, get_or-map, get_or-set_same, length-map, length-set, map-set}
use Rattle.std.proofs.lemmas.List.Elements.{filter-append}
use Rattle.std.proofs.lemmas.Simd.{map-map}
use Rattle.basket_sets.specs.declared.weighted.Weighted.{Weighted}
use Rattle.basket_sets.specs.Database.{weighted}
use Rattle.basket_sets.specs.Itemset.{IsRising, contains, has}
use Rattle.basket_sets.proofs.theory.Rising.{Member-from_has, first_below, nil_rises, rest_rises}
use Rattle.basket_sets.proofs.theory.Ranges.{range_more}
use Rattle.mine_baskets.specs.declared.span.Span.{Span}
use Rattle.mine_baskets.specs.Covers.{AreCovers, HasTid, basket_at, covers_in, weights_of}
use Rattle.mine_baskets.specs.Span.{baskets_at}
use Rattle.mine_baskets.specs.Span.{basket_at as span_at}

covers_at : (covers : List (Vec ℕ Global)) (rank : ℕ) (d : Vec ℕ Global) → rank < length covers → get_or (covers_in covers) rank [] ≡ (get_or covers rank d).items
covers_at covers rank d below = get_or-map (λ (v : Vec ℕ Global). v.items) covers rank d [] below

pub length-covers_in : (covers : List (Vec ℕ Global)) → length (covers_in covers) ≡ length covers
length-covers_in covers = length-map covers (λ (v : Vec ℕ Global). v.items)

pub drop_rises : (xs : List ℕ) (n : ℕ) → IsRising xs → IsRising (drop n xs)
drop_rises xs zero up = up
drop_rises [] (suc n) up = nil_rises
drop_rises (x ∷ xs) (suc n) up = drop_rises xs n (rest_rises x xs up)

-- no tid is added where there are no ranks
pub no_tid : (tid : ℕ) (covers : List (List ℕ)) → HasTid tid [] covers covers
no_tid tid covers = record { same = refl; at = λ rank below. sym (append-nil (get_or covers rank [])) }

-- a tid is added to the cover of the first rank, and then to those of the others
module _ (tid first : ℕ) (ranks : List ℕ) (up : IsRising (first ∷ ranks)) where
  once : (rank : ℕ) → first ≡ rank → has ranks rank ≡ false
  once rank same = elim (cases_Bool (has ranks rank)) [
    | inl e ↦ absurd (let less = first_below first ranks up rank (Member-from_has ranks rank e) in omega (arith, same))
    | inr e ↦ e
  ]

  first_tid : (now end : List (List ℕ)) → first < length now → HasTid tid ranks (set now first (get_or now first [] ++ tid ∷ [])) end → HasTid tid (first ∷ ranks) now end
  first_tid now end here later = grind (arith, common_steps, length-set, cases_eq, set, once, append-nil, get_or-set_same, eq-eqb)

  -- the same in vectors, one of which is changed
  pub pushed_tid : (covers : List (Vec ℕ Global)) (d pushed : Vec ℕ Global) (end : List (List ℕ)) → first < length covers → pushed.items ≡ (get_or covers first d).items ++ tid ∷ []
      → HasTid tid ranks (covers_in (set covers first pushed)) end → HasTid tid (first ∷ ranks) (covers_in covers) end
  pushed_tid covers d pushed end here is later =
      first_tid (covers_in covers) end (subst (λ n. first < n) (sym (length-covers_in covers)) here)
      (subst (λ l. HasTid tid ranks l end) (map-set (λ (w : Vec ℕ Global). w.items) covers first pushed
      ∙ ap (set (covers_in covers) first) (is ∙ ap (λ l. l ++ tid ∷ []) (sym (covers_at covers first d here)))) later)

-- the tids of a rank below a number
abbrev pub tids_below : List Weighted → ℕ → ℕ → List ℕ
tids_below baskets tids rank = filter (λ tid. contains (basket_at baskets tid) (rank ∷ [])) (range_with_len 0 tids)

only_one : (b : Bool) → b ≡ (b && true)
only_one h1 = grind (arith, common_steps)

-- one more tid of each cover
pub next_covers : (baskets : List Weighted) (n count : ℕ) (basket : List ℕ) (old new : List (List ℕ)) → basket ≡ basket_at baskets n → length old ≡ count
    → ((rank : ℕ) → rank < count → get_or old rank [] ≡ tids_below baskets n rank) → HasTid n basket old new → (rank : ℕ) → rank < count → get_or new rank [] ≡ tids_below baskets (n + 1) rank
next_covers baskets n count basket old new is long so_far added rank low =
    added.at rank (omega (arith, low, long)) ∙ ap (λ l. l ++ cond (has basket rank) (n ∷ []) []) (so_far rank low)
    ∙ ap (λ b. filter test (range_with_len 0 n) ++ cond b (n ∷ []) []) (ap (λ b. has b rank) is ∙ only_one (has (basket_at baskets n) rank))
    ∙ sym (ap (λ k. filter test (range_with_len 0 k)) (add-one n) ∙ ap (filter test) (range_more 0 n ∙ ap (λ k. range_with_len 0 n ++ k ∷ []) (zero-add n))
    ∙ filter-append test (range_with_len 0 n) (n ∷ []))
  where
    test : ℕ → Bool
    test tid = contains (basket_at baskets tid) (rank ∷ [])

-- the covers as far as all tids go
pub all_covers : (baskets : List Weighted) (tids count : ℕ) (covers : List (Vec ℕ Global)) → tids ≡ length baskets → length (covers_in covers) ≡ count
    → ((rank : ℕ) → rank < count → get_or (covers_in covers) rank [] ≡ tids_below baskets tids rank) → AreCovers (record { ranks = count; baskets = baskets }) covers
all_covers baskets tids count covers all long at = grind (arith, common_steps, length-covers_in, covers_at)

-- the basket of a tid
pub basket_of : (baskets : List Weighted) (n : ℕ) (basket : Weighted) → n < length baskets → basket ≡ get_or baskets n (weighted [] 0) → basket.basket ≡ basket_at baskets n
basket_of baskets n basket here is = grind (arith, common_steps)

-- ---- weights

pub span_weights : (ranks : List ℕ) (spans : List Span) → map (λ (span : Span). span.weight) spans ≡ weights_of (baskets_at ranks spans)
span_weights ranks spans = sym (map-map (λ (p : Weighted). p.weight) (span_at ranks) spans)
