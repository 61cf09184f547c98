-- The frequent sets among candidates, one after another.
use Rattle.std.proofs.Common.{◌≡◌, ℕ, ◌+◌, ◌<◌, ◌≤◌, Bool, List, [], ◌∷◌, ◌++◌, length, filter, map, take, drop, get_or, cond, append_assoc, sym, ap, ◌∙◌, subst, arith}
use Rattle.std.proofs.lemmas.Grind.{common_steps}
use Rattle.std.specs.List.{All}
use Rattle.std.proofs.lemmas.List.{get_or-map, length-map, map-append, take_more}
use Rattle.std.proofs.lemmas.List.Concat.{get_or-flat_map}
use Rattle.std.proofs.lemmas.List.Elements.{filter-append, filter_more}
use Rattle.std.proofs.lemmas.List.Folds.{length-flat_map-take}
use Rattle.basket_sets.specs.Itemset.{IsRising}
use Rattle.basket_sets.proofs.theory.Rising.{cons_rises, nil_rises}
use Rattle.mine_supports.specs.Extensions.{Group, extend, has_items, kept, sets_of}
use Rattle.mine_supports.proofs.theory.Extensions.{passing, sets_push}

-- ---- an item more

pub kept_more : (p : ℕ → Bool) (items : List ℕ) (i : ℕ) (b : Bool) → i < length items → p (get_or items i 0) ≡ b → filter p (take i items) ++ cond b (get_or items i 0 ∷ []) [] ≡ filter p (take (i + 1) items)
kept_more p items i b below is = ap (λ a. filter p (take i items) ++ cond a (get_or items i 0 ∷ []) []) (sym is) ∙ sym (filter_more p items i 0 below)

-- what is read of the counts of a prefix's sets
pub count_read : (f : List ℕ → ℕ) (prefix items counts : List ℕ) (i : ℕ) → counts ≡ map f (extend prefix items) → i < length items → get_or counts i 0 ≡ f (prefix ++ get_or items i 0 ∷ [])
count_read f prefix items counts i are below =
    ap (λ l. get_or l i 0) are
    ∙ get_or-map f (extend prefix items) i [] 0 (let long = length-map items (λ item. prefix ++ item ∷ []) in omega (arith, long, below))
    ∙ ap f (get_or-map (λ item. prefix ++ item ∷ []) items i 0 [] below)

pub extended_rises : (prefix items : List ℕ) (i : ℕ) → All IsRising (extend prefix items) → i < length items → IsRising (prefix ++ get_or items i 0 ∷ [])
extended_rises prefix items i rise below =
    subst IsRising (get_or-map (λ item. prefix ++ item ∷ []) items i 0 [] below) (rise i [] (let long = length-map items (λ item. prefix ++ item ∷ []) in omega (arith, long, below)))

map_one : {X : Type 0} (f : List ℕ → X) (set : List ℕ) (b : Bool) → map f (cond b (set ∷ []) []) ≡ cond b (f set ∷ []) []
map_one f set b = grind arith

pub found_more : {X : Type 0} (f : List ℕ → X) (passes : List ℕ → Bool) (prefix items : List ℕ) (i : ℕ) (b : Bool) (old found : List X) → i < length items → passes (prefix ++ get_or items i 0 ∷ []) ≡ b
    → found ≡ old ++ map f (filter passes (extend prefix (take i items)))
    → found ++ cond b (f (prefix ++ get_or items i 0 ∷ []) ∷ []) [] ≡ old ++ map f (filter passes (extend prefix (take (i + 1) items)))
found_more f passes prefix items i b old found below is before = simp (before, take_more items i 0 below, map-append, filter-append, append_assoc, is, map_one)

-- ---- a prefix more

abbrev extended : Group → List (List ℕ)
extended group = extend group.prefix group.items

module _ (groups : List Group) (number : ℕ) (d : Group) (below : number < length groups) where
  abbrev group : Group
  group = get_or groups number d

  pub counts_within : (f : List ℕ → ℕ) (rest : List ℕ) → rest ≡ map f (sets_of (drop number groups)) → length group.items ≤ length rest
  counts_within f rest is = grind (arith, common_steps)

  pub counts_first : (f : List ℕ → ℕ) (rest : List ℕ) → rest ≡ map f (sets_of (drop number groups)) → take (length group.items) rest ≡ map f (extended group)
  counts_first f rest is = grind (arith, common_steps)

  pub counts_rest : (f : List ℕ → ℕ) (rest : List ℕ) → rest ≡ map f (sets_of (drop number groups)) → drop (length group.items) rest ≡ map f (sets_of (drop (number + 1) groups))
  counts_rest f rest is = grind (arith, common_steps)

  pub sets_next : sets_of (take (number + 1) groups) ≡ sets_of (take number groups) ++ extended group
  sets_next = ap sets_of (take_more groups number d below) ∙ sets_push (take number groups) group.prefix group.items

  pub found_next : {X : Type 0} (f : List ℕ → X) (passes : List ℕ → Bool) (old found new : List X) → found ≡ old ++ map f (filter passes (sets_of (take number groups))) → new ≡ found ++ map f (filter passes (extended group))
      → new ≡ old ++ map f (filter passes (sets_of (take (number + 1) groups)))
  found_next f passes old found new before is = simp (is, before, sets_next, filter-append, map-append, append_assoc)

  pub kept_next : (passes : List ℕ → Bool) → kept passes (take number groups) ++ filter has_items (passing passes group ∷ []) ≡ kept passes (take (number + 1) groups)
  kept_next passes = simp (take_more groups number d below, map-append, filter-append)

pub group_rises : (groups : List Group) (number : ℕ) (d : Group) → number < length groups → All IsRising (sets_of groups) → All IsRising (extended (get_or groups number d))
group_rises groups number d below rise k e inside =
    subst IsRising (get_or-flat_map extended groups number k d e below inside)
    (rise (length (sets_of (take number groups)) + k) e (let all = length-flat_map-take extended groups number d below in omega (arith, all, inside)))

pub singles_rise : (items : List ℕ) → All IsRising (map (λ item. item ∷ []) items)
singles_rise items k d below =
    let long = length-map items (λ item. item ∷ []) in
    subst IsRising (sym (get_or-map (λ item. item ∷ []) items k 0 d (omega (arith, below, long)))) (cons_rises (get_or items k 0) [] (λ y m. absurd m) nil_rises)
