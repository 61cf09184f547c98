-- A tree's branches, where a path is added.
use Rattle.std.proofs.Common.{◌≡◌, ◌≢◌, ℕ, ◌+◌, ◌-◌, ◌<◌, ◌≤◌, ◌↔◌, true, List, [], ◌∷◌, ◌++◌, length, get_or, cond, eqb, map, max, take, zero, suc, refl, sym, ap, ◌∙◌, subst, inl, inr, ◌⊎◌, arith, zero-add}
use Rattle.std.proofs.lemmas.Grind.{common_steps}
use Rattle.std.specs.List.{AllPairs, Contains, range_with_len}
use Rattle.std.proofs.lemmas.Bool.{and_from, and_parts, cases_Bool, cases_lt, eq-eqb, eqb-true, true≢false}
use Rattle.std.proofs.lemmas.List.{get_or_append_left, get_or-append_right, length-append, length-map, length-take-le, map-append, take_at, take-take}
use Rattle.std.proofs.lemmas.List.Elements.{All-append, All-map, Contains-append_cases, Contains-append_left, Contains-append_right, Contains-get_or, Contains-push, Contains-push_cases}
use Rattle.std.proofs.lemmas.List.FromFn.{get_or-map-range_with_len, get_or-range_with_len, length-map-range_with_len, length-range_with_len}
use Rattle.std.proofs.lemmas.List.Sums.{sum_by-append, sum_by-cons}
use Rattle.std.proofs.lemmas.Simd.{map-map}
use Rattle.basket_sets.specs.declared.weighted.Weighted.{Weighted}
use Rattle.basket_sets.specs.Database.{weighted}
use Rattle.basket_sets.specs.Support.{total_of}
use Rattle.mine_fp.specs.Tree.{BeginsOne, StandsFor, begins, longest, made, paths_of, weight_begun}

-- ---- paths that begin others

take_begins : (n : ℕ) (p : List ℕ) → begins (take n p) p ≡ true
take_begins zero p = refl
take_begins (suc n) [] = refl
take_begins (suc n) (x ∷ p) = and_from (eqb x x) (begins (take n p) p) (eq-eqb x x refl) (take_begins n p)

begins_take : (q p : List ℕ) → begins q p ≡ true → (take (length q) p ≡ q) × (length q ≤ length p)
begins_take [] p h = (refl, omega arith)
begins_take (x ∷ q) [] h = absurd (true≢false (sym h))
begins_take (x ∷ q) (y ∷ p) h =
    let parts = and_parts (eqb x y) (begins q p) h in
    let rest = begins_take q p parts.1 in
    (λ i. sym (eqb-true x y parts.0) i ∷ rest.0 i, omega (arith, rest.1))

-- of two paths that begin a third, the shorter one begins all that the longer one begins
shorter_begins : (q b p r : List ℕ) → begins q p ≡ true → begins b p ≡ true → length q ≤ length b → begins b r ≡ true → begins q r ≡ true
shorter_begins q b p r short long less h =
    let same = sym (take-take (length q) (length b) p less ∙ (begins_take q p short).0) ∙ ap (take (length q)) ((begins_take b p long).0 ∙ sym (begins_take b r h).0) ∙ take-take (length q) (length b) r less in
    subst (λ t. begins t r ≡ true) (sym same) (take_begins (length q) r)

-- ---- weights

weight_push : (p q : List ℕ) (w : ℕ) (paths : List Weighted) → weight_begun p (paths ++ weighted q w ∷ []) ≡ weight_begun p paths + cond (begins p q) w 0
weight_push p q w paths = grind (arith, common_steps)

none_begun : (p : List ℕ) (paths : List Weighted) → ((receipt : Weighted) → Contains paths receipt → begins p receipt.basket ≡ true → ⊥) → weight_begun p paths ≡ 0
none_begun p [] none = refl
none_begun p (receipt ∷ paths) none = elim (cases_Bool (begins p receipt.basket)) [
  | inl e ↦ absurd (none receipt (0, omega arith, refl) e)
  | inr e ↦
      sum_by-cons (λ (x : Weighted). cond (begins p x.basket) x.weight 0) receipt paths
      ∙ ap (λ b. cond b receipt.weight 0 + weight_begun p paths) e ∙ zero-add (weight_begun p paths)
      ∙ none_begun p paths (λ x has. none x (suc has.0, omega (arith, has.1), has.2))
]

-- ---- the longest branch that begins a path

module _ (path : List ℕ) where
  pub longest_push : (branches : List (List ℕ)) (branch : List ℕ) → longest path (branches ++ branch ∷ []) ≡ max (longest path branches) (cond (begins branch path) (length branch) 0)
  longest_push [] branch = omega arith
  longest_push (b ∷ branches) branch = omega (arith, longest_push branches branch)

  longest_most : (branches : List (List ℕ)) (q : List ℕ) (k : ℕ) → k < length branches → get_or branches k q ≡ q → begins q path ≡ true → length q ≤ longest path branches
  longest_most [] q k here is h = absurd (omega arith)
  longest_most (b ∷ branches) q zero here is h = let own = (λ i. cond (begins (is i) path) (length (is i)) 0) ∙ ap (λ t. cond t (length q) 0) h in omega (arith, own)
  longest_most (b ∷ branches) q (suc k) here is h = omega (arith, longest_most branches q k (omega arith) is h)

  longest_reached : (branches : List (List ℕ)) → (longest path branches ≡ 0) ⊎ ((b : List ℕ) × Contains branches b × (begins b path ≡ true) × (length b ≡ longest path branches))
  longest_reached [] = inl refl
  longest_reached (b ∷ branches) = elim (cases_lt (longest path branches) (cond (begins b path) (length b) 0)) [
    | inl more ↦ elim (cases_Bool (begins b path)) [
      | inl e ↦ inr (b, (0, omega arith, refl), e, omega (arith, more, ap (λ t. cond t (length b) 0) e))
      | inr e ↦ absurd (omega (arith, more, ap (λ t. cond t (length b) 0) e))
    ]
    | inr less ↦ elim (longest_reached branches) [
      | inl none ↦ inl (omega arith)
      | inr top ↦ inr (top.0, (suc top.1.0, omega (arith, top.1.1), top.1.2), top.2, omega (arith, top.3))
    ]
  ]

  pub longest_within : (branches : List (List ℕ)) → longest path branches ≤ length path
  longest_within branches = elim (longest_reached branches) [
    | inl none ↦ omega arith
    | inr top ↦ omega (arith, top.3, (begins_take top.0 path top.2).1)
  ]

-- ---- a path more

-- a node with the weight of one more path, if its own path is a prefix of that
abbrev pub heavier : List ℕ → ℕ → List ℕ × ℕ → List ℕ × ℕ
heavier path w node = (node.0, node.1 + cond (begins node.0 path) w 0)

-- the nodes with one path more
abbrev pub grown : List ℕ → ℕ → List (List ℕ × ℕ) → List (List ℕ × ℕ)
grown path w nodes = map (heavier path w) nodes ++ made path w (longest path (paths_of nodes))

module _ (nodes : List (List ℕ × ℕ)) (path : List ℕ) (w : ℕ) where
  abbrev branches : List (List ℕ)
  branches = paths_of nodes

  abbrev known : ℕ
  known = longest path branches

  abbrev prefix : ℕ → List ℕ
  prefix rank = take (rank + 1) path

  abbrev new : List (List ℕ)
  new = map prefix (range_with_len known (length path - known))

  all_paths : paths_of (grown path w nodes) ≡ branches ++ new
  all_paths = grind (arith, common_steps, map-append, map-map)

  pub older_first : take (length nodes) (paths_of (grown path w nodes)) ≡ branches
  older_first = ap (take (length nodes)) all_paths ∙ take_at branches new (length nodes) (length-map nodes (λ (node : List ℕ × ℕ). node.0))

  module _ (total : ℕ) (paths : List Weighted) (stands : StandsFor (record { nodes = nodes; total = total }) paths) where
    abbrev after : List Weighted
    after = paths ++ weighted path w ∷ []

    prefix_long : (rank : ℕ) → rank < length path → length (prefix rank) ≡ rank + 1
    prefix_long rank here = length-take-le (rank + 1) path (omega arith)

    is_new : (rank : ℕ) → known ≤ rank → rank < length path → Contains branches (prefix rank) → ⊥
    is_new rank past here has = omega (arith, longest_most path branches (prefix rank) has.0 has.1 has.2 (take_begins (rank + 1) path), prefix_long rank here)

    new_at : (k : ℕ) (d : List ℕ) → k < length new → (k < length path - known) × (get_or new k d ≡ prefix (known + k))
    new_at k d here = grind (arith, common_steps, length-map-range_with_len, get_or-map-range_with_len)

    here_or_new : (q : List ℕ) → q ≢ [] → begins q path ≡ true → Contains (branches ++ new) q
    here_or_new [] some begun = absurd (some refl)
    here_or_new (x ∷ rest) some begun =
        let q = x ∷ rest in
        elim (cases_lt known (length q)) [
          | inl past ↦
              (let same = begins_take q path begun in
              let k = length q - known - 1 in
              let at : known + k + 1 ≡ length q = omega (arith, past) in
              let here : k < length new = omega (arith, same.1, past, length-map-range_with_len prefix known (length path - known)) in
              Contains-append_right branches new q (k, here, (new_at k q here).1 ∙ ap (λ n. take n path) at ∙ same.0))
          | inr less ↦ elim (longest_reached path branches) [
            | inl none ↦ absurd (omega arith)
            | inr top ↦
                (let one = ((stands.begun top.0).0 top.1).1 in
                Contains-append_left branches new q ((stands.begun q).1 (some, (one.0, one.1, shorter_begins q top.0 path one.0.basket begun top.2 (omega (arith, top.3)) one.2))))
          ]
        ]

    begun_now : (q : List ℕ) → Contains (branches ++ new) q ↔ BeginsOne after q
    begun_now q = (
      λ has. elim (Contains-append_cases branches new q has) [
        | inl old ↦ (let one = (stands.begun q).0 old in (one.0, (one.1.0, Contains-append_left paths (weighted path w ∷ []) one.1.0 one.1.1, one.1.2)))
        | inr last ↦
            (let is = new_at last.0 q last.1 in
            let same = sym is.1 ∙ last.2 in (
              λ none. omega (arith, is.0, prefix_long (known + last.0) (omega (arith, is.0)), ap length (same ∙ none)),
              (weighted path w, Contains-push paths (weighted path w), subst (λ t. begins t path ≡ true) same (take_begins (known + last.0 + 1) path)),
            ))
      ],
      λ one. elim (Contains-push_cases paths (weighted path w) one.1.0 one.1.1) [
        | inl old ↦ Contains-append_left branches new q ((stands.begun q).1 (one.0, (one.1.0, old, one.1.2)))
        | inr e ↦ here_or_new q one.0 (ap (λ (x : Weighted). begins q x.basket) e ∙ one.1.2)
      ],
    )

    distinct_now : AllPairs (λ one other. one ≢ other) (branches ++ new)
    distinct_now i j d less here same = elim (cases_lt j (length branches)) [
      | inl old ↦ stands.distinct i j d less old (sym (get_or_append_left branches new d i (omega arith)) ∙ same ∙ get_or_append_left branches new d j old)
      | inr past ↦
          (let last = at j past here in
          let long = prefix_long (known + (j - length branches)) (omega (arith, last.0)) in
          elim (cases_lt i (length branches)) [
            | inl old ↦ is_new (known + (j - length branches)) (omega arith) (omega (arith, last.0))
                (subst (Contains branches) (sym (get_or_append_left branches new d i old) ∙ same ∙ last.1) (Contains-get_or branches i d old))
            | inr before ↦
                (let one = at i before (omega (arith, here)) in
                omega (arith, long, prefix_long (known + (i - length branches)) (omega (arith, one.0)), ap length (sym one.1 ∙ same ∙ last.1)))
          ])
    ]
      where
        at : (k : ℕ) → length branches ≤ k → k < length (branches ++ new) → (k - length branches < length path - known) × (get_or (branches ++ new) k d ≡ prefix (known + (k - length branches)))
        at k past here =
            let is = new_at (k - length branches) d (omega (arith, here, length-append branches new)) in
            (is.0, get_or-append_right branches new (length branches) k d refl past ∙ is.1)

    abbrev IsCounted : List ℕ × ℕ → Type 0
    IsCounted node = node.1 ≡ weight_begun node.0 after

    pub stands_now : StandsFor (record { nodes = grown path w nodes; total = total + w }) after
    stands_now = record {
      distinct = subst (AllPairs (λ one other. one ≢ other)) (sym all_paths) distinct_now;
      begun = subst (λ (l : List (List ℕ)). (q : List ℕ) → Contains l q ↔ BeginsOne after q) (sym all_paths) begun_now;
      counted = All-append IsCounted (map (heavier path w) nodes) (made path w known)
          (All-map IsCounted (heavier path w) nodes (λ k d here.
          ap (λ n. n + cond (begins (get_or nodes k d).0 path) w 0) (stands.counted k d here) ∙ sym (weight_push (get_or nodes k d).0 path w paths)))
          (All-map IsCounted (λ rank. (prefix rank, w)) (range_with_len known (length path - known)) (λ k d here.
          let rank = get_or (range_with_len known (length path - known)) k d in
          let within : k < length path - known = omega (arith, here, length-range_with_len known (length path - known)) in
          let is = get_or-range_with_len known (length path - known) k d within in
          let low : rank < length path = omega (arith, is, within) in
          let none = none_begun (prefix rank) paths (λ receipt has begun. is_new rank (omega (arith, is)) low
          ((stands.begun (prefix rank)).1 ((λ e. omega (arith, prefix_long rank low, ap length e)), (receipt, has, begun)))) in
          sym (weight_push (prefix rank) path w paths ∙ (λ i. none i + cond (take_begins (rank + 1) path i) w 0) ∙ zero-add w)));
      total = ap (λ n. n + w) stands.total ∙ sym (sum_by-append (λ (receipt : Weighted). receipt.weight) paths (weighted path w ∷ []) ∙ ap (λ n. total_of paths + n) (zero-add w));
    }
