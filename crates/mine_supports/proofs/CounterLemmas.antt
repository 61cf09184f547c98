-- Counts with the supports of sets in one block after another added.
use Rattle.std.proofs.Common.{◌≡◌, ℕ, ◌+◌, ◌-◌, ◌<◌, ◌≤◌, List, [], ◌∷◌, ◌++◌, length, take, drop, get_or, refl, sym, ap, ◌∙◌, inl, inr, arith, map, zero-add, subst}
use Rattle.std.proofs.lemmas.Grind.{common_steps}
use Rattle.std.specs.Prelude.{replicate}
use Rattle.std.proofs.Math.ListN.{set, set as set_at}
use Rattle.std.proofs.lemmas.Bool.{cases_lt}
use Rattle.std.proofs.lemmas.List.{ext_get_or, get_or-map, get_or-replicate, get_or-set_other, get_or-set_same, get_or_append_left, length-append, length-map, length-replicate, length-take, map-append, take_more}
use Rattle.std.proofs.lemmas.List.Folds.{length-flat_map-take}
use Rattle.std.proofs.lemmas.List.Sums.{sum_by-take-le}
use Rattle.std.proofs.Math.Seq.{get_or-append_right, take-add}
use Rattle.basket_sets.specs.declared.weighted.Weighted.{Weighted}
use Rattle.basket_sets.specs.Database.{MOST_WEIGHT}
use Rattle.basket_sets.specs.Support.{support_of, total_of, weight_at}
use Rattle.basket_sets.proofs.theory.Support.{support-append, support_falls}
use Rattle.mine_supports.specs.Counter.{AreAdded, WithSupports}
use Rattle.mine_supports.specs.Extensions.{Group, extend, sets_of}
use Rattle.mine_supports.proofs.theory.Frequent.{sets_next}

module _ (sets : List (List ℕ)) (baskets part : List Weighted) (start size : ℕ) (is : part ≡ take size (drop start baskets)) (old counts : List ℕ) (long : length counts ≡ length old)
    (before : WithSupports sets (take start baskets) old counts) where
  joined : (set : List ℕ) → support_of (take (start + size) baskets) set ≡ support_of (take start baskets) set + support_of part set
  joined set = grind (arith, common_steps, set, take-add, support-append)

  -- a block more
  pub supports_joined : (new : List ℕ) → WithSupports sets part counts new → WithSupports sets (take (start + size) baskets) old new
  supports_joined new now k inside within = grind (arith, common_steps, joined)

  -- the counts have room for the next block
  pub block_fits : length old ≡ length sets → ((k : ℕ) → k < length old → get_or old k 0 + total_of baskets ≤ MOST_WEIGHT)
      → (k : ℕ) → k < length counts → get_or counts k 0 + total_of part ≤ MOST_WEIGHT
  block_fits all light k within =
      let a = before k (omega arith) (omega arith) in
      let falls = support_falls (take start baskets) (get_or sets k []) [] refl in
      let whole = joined [] in
      let le = sum_by-take-le (weight_at []) baskets (start + size) in
      let most = light k (omega arith) in
      omega arith

-- ---- sets whose supports are added

pub none_yet : (baskets : List Weighted) (start : ℕ) (counts : List ℕ) → AreAdded [] baskets start counts counts
none_yet baskets start counts = record { added = λ k inside. absurd (omega (arith, inside)); before = λ k below. refl; after = λ k from. refl }

pub one_added : (baskets : List Weighted) (items : List ℕ) (at support : ℕ) (counts : List ℕ) → at < length counts → support ≡ support_of baskets items
    → AreAdded (items ∷ []) baskets at counts (set counts at (get_or counts at 0 + support))
one_added baskets items at support counts within is = record {
  added = λ k inside.
      let here : at + k ≡ at = omega (arith, inside) in let first : k ≡ 0 = omega (arith, inside) in
      rw (here, first) (get_or-set_same counts at (get_or counts at 0 + support) 0 within ∙ ap (λ n. get_or counts at 0 + n) is);
  before = λ k below. get_or-set_other counts at k (get_or counts at 0 + support) 0 (λ e. absurd (omega (arith, e, below)));
  after = λ k from. get_or-set_other counts at k (get_or counts at 0 + support) 0 (λ e. absurd (omega (arith, e, from)));
}

pub more_added : (sets more : List (List ℕ)) (baskets : List Weighted) (start : ℕ) (old counts new : List ℕ) → AreAdded sets baskets start old counts → AreAdded more baskets (start + length sets) counts new
    → AreAdded (sets ++ more) baskets start old new
more_added sets more baskets start old counts new first next = record {
  added = λ k inside. elim (cases_lt k (length sets)) [
    | inl low ↦ next.before (start + k) (omega arith) ∙ first.added k low ∙ ap (λ s. get_or old (start + k) 0 + support_of baskets s) (sym (get_or_append_left sets more [] k low))
    | inr high ↦
        (let j : ℕ = k - length sets in
        let at : start + length sets + j ≡ start + k = omega arith in
        let here = next.added j (omega (arith, inside, length-append sets more)) in
        let same = first.after (start + k) (omega arith) in
        (λ i. get_or new (sym at i) 0) ∙ here ∙ (λ i. get_or counts (at i) 0 + support_of baskets (sym (get_or-append_right sets more k [] high) i))
        ∙ ap (λ n. n + support_of baskets (get_or (sets ++ more) k [])) same)
  ];
  before = λ k below. next.before k (omega arith) ∙ first.before k below;
  after = λ k from. next.after k (omega (arith, from, length-append sets more)) ∙ first.after k (omega (arith, from, length-append sets more));
}

-- the support of a prefix with one more of the items
pub next_added : (set items : List ℕ) (baskets : List Weighted) (start number support : ℕ) (old counts : List ℕ) → number < length items → start + length items ≤ length counts
    → support ≡ support_of baskets (set ++ get_or items number 0 ∷ []) → AreAdded (extend set (take number items)) baskets start old counts
    → AreAdded (extend set (take (number + 1) items)) baskets start old (set_at counts (start + number) (get_or counts (start + number) 0 + support))
next_added set items baskets start number support old counts here within is before =
    let longer = set ++ get_or items number 0 ∷ [] in
    let more : extend set (take (number + 1) items) ≡ extend set (take number items) ++ longer ∷ [] =
    ap (extend set) (take_more items number 0 here) ∙ map-append (λ item. set ++ item ∷ []) (take number items) (get_or items number 0 ∷ []) in
    let at : start + number ≡ start + length (extend set (take number items)) = omega (arith, here, length-map (take number items) (λ item. set ++ item ∷ []), length-take number items) in
    let new = set_at counts (start + number) (get_or counts (start + number) 0 + support) in
    subst (λ s. AreAdded s baskets start old new) (sym more)
    (more_added (extend set (take number items)) (longer ∷ []) baskets start old counts new before
    (subst (λ n. AreAdded (longer ∷ []) baskets n counts new) at (one_added baskets longer (start + number) support counts (omega (arith, within, here)) is)))

pub all_added : (sets : List (List ℕ)) (baskets : List Weighted) (old new : List ℕ) → AreAdded sets baskets 0 old new → WithSupports sets baskets old new
all_added sets baskets old new are k inside within = let e : 0 + k ≡ k = omega arith in grind (arith, common_steps)

-- ---- the sets of a prefix more

module _ (groups : List Group) (number start : ℕ) (d : Group) (below : number < length groups) (starts : start ≡ length (sets_of (take number groups))) where
  abbrev group : Group
  group = get_or groups number d

  pub next_start : start + length group.items ≡ length (sets_of (take (number + 1) groups))
  next_start = grind (arith, common_steps)

  pub next_within : start + length group.items ≤ length (sets_of groups)
  next_within =
      let all = length-flat_map-take (λ (g : Group). extend g.prefix g.items) groups number d below in
      let more = length-map group.items (λ item. group.prefix ++ item ∷ []) in
      omega (arith, all, more, starts)

  pub group_added : (baskets : List Weighted) (old counts new : List ℕ) → AreAdded (sets_of (take number groups)) baskets 0 old counts → AreAdded (extend group.prefix group.items) baskets start counts new
      → AreAdded (sets_of (take (number + 1) groups)) baskets 0 old new
  group_added baskets old counts new before now = grind (arith, common_steps, sets_next, more_added)

-- counts that begin with 0
pub counts_are_supports : (sets : List (List ℕ)) (baskets : List Weighted) (old new : List ℕ) → old ≡ replicate (length sets) 0 → length new ≡ length old → WithSupports sets baskets old new
    → new ≡ map (support_of baskets) sets
counts_are_supports sets baskets old new none same added =
    let long = ap length none ∙ length-replicate (length sets) 0 in
    ext_get_or 0 new (map (support_of baskets) sets) (same ∙ long ∙ sym (length-map sets (support_of baskets)))
    (λ k within. added k (omega arith) (omega arith)
    ∙ ap (λ n. n + support_of baskets (get_or sets k [])) (ap (λ l. get_or l k 0) none ∙ get_or-replicate (length sets) k 0 0 (omega arith))
    ∙ zero-add (support_of baskets (get_or sets k []))
    ∙ sym (get_or-map (support_of baskets) sets k [] 0 (omega arith)))
