-- What is read off a single branch.
use Rattle.std.proofs.Common.{◌≡◌, ℕ, zero, suc, ◌<◌, ◌≤◌, Bool, true, false, List, [], ◌∷◌, ◌++◌, map, get_or, cond, refl, sym, ap, ◌∙◌, subst, inl, inr, arith, append_assoc}
use Rattle.std.proofs.lemmas.Grind.{common_steps}
use Rattle.std.specs.Prelude.{nat_le}
use Rattle.std.proofs.lemmas.Bool.{cases_Bool, le-leb, leb-true, true≢false}
use Rattle.std.proofs.lemmas.List.{map-append}
use Rattle.basket_ranks.specs.Codes.{decoded}
use Rattle.basket_sets.specs.declared.counted.Counted.{Counted}
use Rattle.basket_sets.specs.Itemset.{IsRising, rising, with_item}
use Rattle.basket_sets.proofs.theory.Members.{Member, Member-append_left, Member-append_right}
use Rattle.basket_sets.proofs.theory.Rising.{Member-from_has, Member-into_rising, Member-rising, cons_rises, rising-rises, rising_is}
use Rattle.mine_search.specs.Node.{Node, is_met}
use Rattle.mine_search.specs.Search.{found_at}
use Rattle.mine_search.specs.Straight.{IsStraight}
use Rattle.mine_search.specs.Walk.{sets_below}
use Rattle.mine_search.proofs.theory.Found.{front_below, split_last}

-- ---- one more item, wherever it stands

swapped : (x r : ℕ) (rest : List ℕ) → rising (x ∷ r ∷ rest) ≡ rising (r ∷ x ∷ rest)
swapped x r rest = rising_is (x ∷ r ∷ rest) (rising (r ∷ x ∷ rest)) (rising-rises (r ∷ x ∷ rest)) (λ z m. Member-into_rising (r ∷ x ∷ rest) z (swap x r z m)) (λ z m. swap r x z (Member-rising (r ∷ x ∷ rest) z m))
  where
    swap : (a b z : ℕ) → Member z (a ∷ b ∷ rest) → Member z (b ∷ a ∷ rest)
    swap a b z (inl e) = inr (inl e)
    swap a b z (inr (inl e)) = inl e
    swap a b z (inr (inr m)) = inr (inr m)

moved : (front : List ℕ) (r : ℕ) (rest : List ℕ) → rising (front ++ r ∷ rest) ≡ with_item r (rising (front ++ rest))
moved [] r rest = refl
moved (x ∷ front) r rest = ap (with_item x) (moved front r rest) ∙ swapped x r (front ++ rest)

decoded_with : (items front : List ℕ) (rank : ℕ) (set : List ℕ) → decoded items (front ++ rank ∷ set) ≡ with_item (get_or items rank 0) (decoded items (front ++ set))
decoded_with items front rank set = grind (arith, common_steps, map-append, moved)

module _ {node : Node} (straight : IsStraight node) (falls : (rank other : ℕ) (others : List ℕ) → node.over.support (other ∷ rank ∷ others) ≤ node.over.support (other ∷ others)) where
  abbrev test : List ℕ → Bool
  test = is_met node.over

  abbrev Kept : ℕ → Type 0
  Kept x = test (x ∷ node.set) ≡ true

  -- a set of ranks with which the node's set is frequent is frequent with them all
  meets : (last : ℕ) (front : List ℕ) → last < node.below → Kept last → ((other : ℕ) → Member other front → (other < last) × Kept other) → test (front ++ last ∷ node.set) ≡ true
  meets last front low kept each = ap (nat_le node.over.least) (straight.supports last front low kept (λ other h. each other (Member-from_has front other h))) ∙ kept

  meets_all : (x : ℕ) (front : List ℕ) → IsRising (x ∷ front) → ((other : ℕ) → Member other (x ∷ front) → (other < node.below) × Kept other) → test ((x ∷ front) ++ node.set) ≡ true
  meets_all x front up each =
      let (most, last, is) = split_last x front in
      let ups = subst IsRising is up in
      let in_all : (other : ℕ) → Member other (most ++ last ∷ []) → (other < node.below) × Kept other = λ other m. each other (subst (Member other) (sym is) m) in
      let end = in_all last (Member-append_right last most (last ∷ []) (inl refl)) in
      ap (λ l. test (l ++ node.set)) is ∙ ap test (append_assoc most (last ∷ []) node.set)
      ∙ meets last most end.0 end.1 (λ other m. (front_below most last ups other m, (in_all other (Member-append_left other most (last ∷ []) m)).1))

  -- a rank with which the set is not frequent extends nothing
  fails_more : (x : ℕ) (front rest : List ℕ) → test (x ∷ front ++ rest) ≡ true → test (x ∷ rest) ≡ true
  fails_more x [] rest h = h
  fails_more x (y ∷ front) rest h =
      fails_more x front rest (le-leb node.over.least (node.over.support (x ∷ front ++ rest))
      (let enough = leb-true node.over.least (node.over.support (x ∷ y ∷ front ++ rest)) h in let less = falls y x (front ++ rest) in omega arith))

  module _ (rank : ℕ) (low : rank < node.below) (kept : Kept rank) where
    -- a set that was found, with the rank
    abbrev pub choose : List ℕ → Counted
    choose set = record { set = with_item (get_or node.over.items rank 0) (decoded node.over.items set); count = node.over.support (rank ∷ node.set) }

    -- each set with the rank is one without it, with the rank added and with the support of the rank
    pub choices : (below : ℕ) (front : List ℕ) → below ≤ rank → IsRising front → ((other : ℕ) → Member other front → (below ≤ other) × (other < rank) × Kept other)
        → map (found_at node.over) (sets_below test below (front ++ rank ∷ node.set)) ≡ map choose (sets_below test below (front ++ node.set))
    choices zero front most up each = refl
    choices (suc x) front most up each =
        map-append (found_at node.over) (sets_below test x (front ++ rank ∷ node.set)) (cond (test (x ∷ front ++ rank ∷ node.set)) ((x ∷ front ++ rank ∷ node.set) ∷ sets_below test x (x ∷ front ++ rank ∷ node.set)) [])
        ∙ ap (λ l. l ++ map (found_at node.over) (cond (test (x ∷ front ++ rank ∷ node.set)) ((x ∷ front ++ rank ∷ node.set) ∷ sets_below test x (x ∷ front ++ rank ∷ node.set)) []))
        (choices x front (omega arith) up (λ other m. let (a, b, k) = each other m in (omega arith, b, k)))
        ∙ ap (λ l. map choose (sets_below test x (front ++ node.set)) ++ l)
        (elim (cases_Bool (test (x ∷ node.set))) [
          | inl often ↦ taken often (choices x (x ∷ front) (omega arith) (rises often) (with_x often))
          | inr rare ↦
              (let one : test (x ∷ front ++ rank ∷ node.set) ≡ false = not_met rare in
              let two : test (x ∷ front ++ node.set) ≡ false = missed front rare in
              ap (λ b. map (found_at node.over) (cond b ((x ∷ front ++ rank ∷ node.set) ∷ sets_below test x (x ∷ front ++ rank ∷ node.set)) [])) one
              ∙ sym (ap (λ b. map choose (cond b ((x ∷ front ++ node.set) ∷ sets_below test x (x ∷ front ++ node.set)) [])) two))
        ])
        ∙ sym (map-append choose (sets_below test x (front ++ node.set)) (cond (test (x ∷ front ++ node.set)) ((x ∷ front ++ node.set) ∷ sets_below test x (x ∷ front ++ node.set)) []))
      where
        rises : Kept x → IsRising (x ∷ front)
        rises often = cons_rises x front (λ y m. let (a, b, k) = each y m in omega arith) up

        with_x : Kept x → (other : ℕ) → Member other (x ∷ front) → (x ≤ other) × (other < rank) × Kept other
        with_x often other (inl e) = (omega arith, omega arith, subst (λ y. Kept y) e often)
        with_x often other (inr m) = let (a, b, k) = each other m in (omega arith, b, k)

        missed : (more : List ℕ) → test (x ∷ node.set) ≡ false → test (x ∷ more ++ node.set) ≡ false
        missed more rare = elim (cases_Bool (test (x ∷ more ++ node.set))) [
          | inl often ↦ absurd (true≢false (sym (fails_more x more node.set often) ∙ rare))
          | inr e ↦ e
        ]

        not_met : test (x ∷ node.set) ≡ false → test (x ∷ front ++ rank ∷ node.set) ≡ false
        not_met rare = ap (λ l. test (x ∷ l)) (sym (append_assoc front (rank ∷ []) node.set)) ∙ missed (front ++ rank ∷ []) rare

        taken : Kept x → map (found_at node.over) (sets_below test x (x ∷ front ++ rank ∷ node.set)) ≡ map choose (sets_below test x (x ∷ front ++ node.set))
            → map (found_at node.over) (cond (test (x ∷ front ++ rank ∷ node.set)) ((x ∷ front ++ rank ∷ node.set) ∷ sets_below test x (x ∷ front ++ rank ∷ node.set)) [])
            ≡ map choose (cond (test (x ∷ front ++ node.set)) ((x ∷ front ++ node.set) ∷ sets_below test x (x ∷ front ++ node.set)) [])
        taken often deeper =
            let all = with_x often in
            let one = meets rank (x ∷ front) low kept (λ other m. let (a, b, k) = all other m in (b, k)) in
            let two = meets_all x front (rises often) (λ other m. let (a, b, k) = all other m in (omega (arith, b, low), k)) in
            let same = straight.supports rank (x ∷ front) low kept (λ other h. let (a, b, k) = all other (Member-from_has (x ∷ front) other h) in (b, k)) in
            ap (λ b. map (found_at node.over) (cond b ((x ∷ front ++ rank ∷ node.set) ∷ sets_below test x (x ∷ front ++ rank ∷ node.set)) [])) one
            ∙ (λ i. record { set = decoded_with node.over.items (x ∷ front) rank node.set i; count = same i } ∷ deeper i)
            ∙ sym (ap (λ b. map choose (cond b ((x ∷ front ++ node.set) ∷ sets_below test x (x ∷ front ++ node.set)) [])) two)
