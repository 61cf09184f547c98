-- The extensions of a node's set, and those of the set with one more rank.
use Rattle.std.proofs.Common.{◌≡◌, ℕ, ◌<◌, ◌≤◌, Bool, true, List, [], ◌∷◌, ◌++◌, length, get_or, take, map, leb, sym, ap, ◌∙◌, subst, inl, inr, arith, append_assoc}
use Rattle.std.proofs.lemmas.Grind.{common_steps}
use Rattle.std.specs.Prelude.{All, nat_le}
use Rattle.std.specs.List.{filter, range_with_len}
use Rattle.std.proofs.lemmas.List.{append-nil, get_or-map, get_or-take, get_or_default, length-map, length-take-le, map-append, take-map, take-take}
use Rattle.std.proofs.lemmas.List.Elements.{All-take}
use Rattle.basket_sets.specs.Counts.{AllBelow}
use Rattle.basket_sets.specs.Itemset.{IsRising, has}
use Rattle.basket_sets.specs.Support.{support_of}
use Rattle.basket_sets.proofs.theory.Members.{Member, Member-filter}
use Rattle.basket_sets.proofs.theory.Ranges.{Member-range, filter_members, filter_rises, range_rises}
use Rattle.basket_sets.proofs.theory.Rising.{Member-from_has, has-from_Member, has_at}
use Rattle.basket_sets.proofs.theory.Tests.{all_below_at}
use Rattle.mine_conditional.proofs.theory.Numbers.{named_among, named_twice}
use Rattle.mine_vertical.proofs.NumberLemmas.{Member-take, filter-map, named_range, take_rises}
use Rattle.mine_search.specs.Node.{Node, child, is_met, kept}
use Rattle.mine_search.specs.Walk.{kept_below}
use Rattle.mine_search.proofs.theory.Walk.{kept_before, kept_few, kept_lower, kept_with}
use Rattle.mine_vertical.specs.declared.siblings.Siblings.{Siblings}
use Rattle.mine_vertical.specs.declared.joins.Sibling.{Sibling}
use Rattle.mine_vertical.specs.declared.local_baskets.LocalBaskets.{LocalBaskets}
use Rattle.mine_vertical.specs.LocalBaskets.{IsNarrowed, baskets_in, named}
use Rattle.mine_vertical.specs.Projected.{AreExtensions, Extend, IsJoined, numbers_in, ranks_in, siblings_in}
use Rattle.mine_vertical.specs.Siblings.{AreKept, AreOver, AreSiblings, IsSibling}

-- ---- a sibling at a index

module _ {R : Type 0} (base : Siblings R) (at : ℕ) (inside : at < base.kept) where
  enough : at < length base.list.items
  enough = omega (arith, inside, base.within)

  -- those before it
  pub before_is : take at (siblings_in base) ≡ take at base.list.items
  before_is = take-take at base.kept base.list.items (omega (arith, inside))

  pub numbers_before : map (λ (s : Sibling R). s.number) (take at base.list.items) ≡ take at (numbers_in base)
  numbers_before = ap (map (λ (s : Sibling R). s.number)) (sym before_is) ∙ sym (take-map (λ (s : Sibling R). s.number) at (siblings_in base))

  pub rows_before : (P : Sibling R → Type 0) → All P (siblings_in base) → All P (take at base.list.items)
  rows_before P rows = subst (All P) before_is (All-take P at (siblings_in base) rows)

  module _ (sibling : Sibling R) (is : sibling ≡ get_or base.list.items at sibling) where
    -- as many siblings as are kept
    kept_is_long : length (siblings_in base) ≡ base.kept
    kept_is_long = length-take-le base.kept base.list.items base.within

    sibling_at : get_or (siblings_in base) at sibling ≡ sibling
    sibling_at = get_or-take base.kept base.list.items at sibling inside ∙ sym is

    pub number_at : get_or (numbers_in base) at 0 ≡ sibling.number
    number_at = get_or-map (λ (s : Sibling R). s.number) (siblings_in base) at sibling 0 (omega (arith, kept_is_long, inside)) ∙ ap (λ (s : Sibling R). s.number) sibling_at

    pub row_at : (stands : List ℕ → List ℕ → List ℕ → R → Type 0) (set : List ℕ) → AreSiblings stands base.local.value (siblings_in base) set → IsSibling stands (baskets_in base.local.value) set sibling
    row_at stands set rows = subst (IsSibling stands (baskets_in base.local.value) set) sibling_at (rows at sibling (omega (arith, kept_is_long, inside)))

pub as_long : {R : Type 0} (base : Siblings R) → length (ranks_in base) ≡ base.kept
as_long {R} base = grind (arith, common_steps)

-- ---- a node with one more rank

module _ {R : Type 0} {stands : List ℕ → List ℕ → List ℕ → R → Type 0} {base : Siblings R} {node : Node} {set : List ℕ} (is : AreExtensions stands base node set)
    (at : ℕ) (inside : at < length (ranks_in base)) where
  abbrev local : LocalBaskets
  local = base.local.value

  abbrev ranks : List ℕ
  ranks = local.ranks.items

  abbrev numbers : List ℕ
  numbers = numbers_in base

  abbrev pub number : ℕ
  number = get_or numbers at 0

  abbrev pub rank : ℕ
  rank = get_or (ranks_in base) at 0

  abbrev test : List ℕ → Bool
  test = is_met node.over

  within : at < length numbers
  within = omega (arith, inside, length-map numbers (λ n. get_or ranks n 0))

  here : at < length (kept node)
  here = subst (λ l. at < length l) is.ranks inside

  rank_is : rank ≡ get_or ranks number 0
  rank_is = get_or-map (λ n. get_or ranks n 0) numbers at 0 0 within

  pub number_low : number < length ranks
  number_low = all_below_at (length ranks) numbers at is.low within

  -- the rank that is read is that of the sibling's number
  pub rank_read : (sibling : Sibling R) → sibling ≡ get_or base.list.items at sibling → (held : LocalBaskets) → held ≡ local → (read : ℕ) → read ≡ get_or held.ranks.items sibling.number read → read ≡ rank
  rank_read sibling index held same read at_number = grind (arith, common_steps, number_at, as_long, get_or_default, number_low, rank_is)

  low_with : (others : List ℕ) → AllBelow (length ranks) others → AllBelow (length ranks) (others ++ number ∷ [])
  low_with others low x h = grind (arith, common_steps, number_low)

  -- the support of numbers with that of the rank is that of their ranks with the rank
  support_with : (others : List ℕ) → AllBelow (length ranks) others → node.over.support (named ranks others ++ rank ∷ node.set) ≡ support_of (baskets_in local) (others ++ number ∷ set)
  support_with others low =
      ap (λ r. node.over.support (named ranks others ++ r ∷ node.set)) rank_is
      ∙ ap node.over.support (sym (append_assoc (named ranks others) (get_or ranks number 0 ∷ []) node.set) ∙ ap (λ l. l ++ node.set) (sym (map-append (λ n. get_or ranks n 0) others (number ∷ []))))
      ∙ is.supports (others ++ number ∷ []) (low_with others low)
      ∙ ap (support_of (baskets_in local)) (append_assoc others (number ∷ []) set)

  none_low : AllBelow (length ranks) []
  none_low x h = absurd (Member-from_has [] x h)

  pub support_at : node.over.support (rank ∷ node.set) ≡ support_of (baskets_in local) (number ∷ set)
  support_at = support_with [] none_low

  pub lower : rank < node.below
  lower = let named_at : rank ≡ get_or (kept node) at 0 = ap (λ l. get_or l at 0) is.ranks in
      subst (λ n. n < node.below) (sym named_at) (kept_lower test node.below node.set (get_or (kept node) at 0) (Member-from_has (kept node) (get_or (kept node) at 0) (has_at (kept node) at here)))

  before : take at (ranks_in base) ≡ kept_below test rank node.set
  before = ap (take at) is.ranks ∙ kept_before test node.below node.set at here ∙ ap (λ l. kept_below test (get_or l at 0) node.set) (sym is.ranks)

  as_many : at ≡ length (kept_below test rank node.set)
  as_many = let most : at ≤ length (ranks_in base) = omega (arith, inside) in sym (length-take-le at (ranks_in base) most) ∙ ap length before

  -- the joins are the work
  pub work_is : node.over.work (rank ∷ node.set) ≡ at
  work_is = is.joined.works rank node.set ∙ sym as_many

  pub few : at ≤ 4294967295
  few = omega (arith, as_many, kept_few test rank node.set, lower, is.joined.within, is.joined.few)

  falls : (other : ℕ) → test (other ∷ rank ∷ node.set) ≡ true → test (other ∷ node.set) ≡ true
  falls other h = grind (arith, common_steps, enough)

  low_before : (other : ℕ) → Member other (take at numbers) → other < length ranks
  low_before other m = is.low other (has-from_Member numbers other (Member-take other at numbers m))

  abbrev frequent : ℕ → Bool
  frequent other = nat_le base.least (support_of (baskets_in local) (other ∷ number ∷ set))

  -- the numbers that extend the set with the number are those before it that are frequent with both
  kept_is : kept (child node rank) ≡ named ranks (filter frequent (take at numbers))
  kept_is =
      kept_with test rank node.set falls rank
      ∙ ap (filter (λ other. test (other ∷ rank ∷ node.set))) (sym before ∙ take-map (λ n. get_or ranks n 0) at numbers)
      ∙ filter-map (λ other. test (other ∷ rank ∷ node.set)) (λ n. get_or ranks n 0) (take at numbers)
      ∙ ap (named ranks) (filter_members (λ n. test (get_or ranks n 0 ∷ rank ∷ node.set)) frequent (take at numbers) same)
    where
      same : (other : ℕ) → Member other (take at numbers) → test (get_or ranks other 0 ∷ rank ∷ node.set) ≡ frequent other
      same other m =
          ap (λ n. leb n (node.over.support (get_or ranks other 0 ∷ rank ∷ node.set))) is.joined.least_is
          ∙ ap (leb base.least) (support_with (other ∷ []) (λ x h. elim (Member-from_has (other ∷ []) x h) [ inl e ↦ subst (λ n. n < length ranks) e (low_before other m) | inr n ↦ absurd n ]))

  -- with the first rank none is
  pub none_first : at ≡ 0 → kept (child node rank) ≡ []
  none_first first = kept_is ∙ ap (λ n. named ranks (filter frequent (take n numbers))) first

  joined_below : (made : Siblings R) → made.coded ≡ base.coded → made.least ≡ base.least → IsJoined made.coded.now.items made.least (child node rank)
  joined_below made coded least = grind (arith, common_steps, few, within, lower, falls)

  module _ {below : List (Sibling R)} (are : AreKept stands base.least number (take at base.list.items) below (baskets_in local) set) where
    abbrev chosen : List ℕ
    chosen = map (λ (s : Sibling R). s.number) below

    chosen_is : chosen ≡ filter frequent (take at numbers)
    chosen_is = are.numbers ∙ ap (filter frequent) (numbers_before base at (omega (arith, inside, as_long base)))

    ranks_are : named ranks chosen ≡ kept (child node rank)
    ranks_are = ap (named ranks) chosen_is ∙ sym kept_is

    chosen_rises : IsRising chosen
    chosen_rises = subst IsRising (sym chosen_is) (filter_rises frequent (take at numbers) (take_rises at numbers is.rises))

    chosen_low : AllBelow (length ranks) chosen
    chosen_low other h = low_before other (Member-filter frequent other (take at numbers) (subst (Member other) chosen_is (Member-from_has chosen other h))).0

    -- no rank is frequent with the set
    pub none_below : below ≡ [] → kept (child node rank) ≡ []
    none_below none = sym ranks_are ∙ ap (λ l. named ranks (map (λ (s : Sibling R). s.number) l)) none

    -- the siblings that are kept are its extensions
    pub below_is : (made : Siblings R) → made.coded ≡ base.coded → made.least ≡ base.least → local ≡ made.local.value → below ≡ siblings_in made → Extend stands made (child node rank)
    below_is made coded least over same = (
      number ∷ set,
      record {
        joined = joined_below made coded least;
        siblings = subst (λ o. AreSiblings stands o (siblings_in made) (number ∷ set)) over (subst (All (IsSibling stands (baskets_in local) (number ∷ set))) same are.rows);
        rises = subst (λ l. IsRising (map (λ (s : Sibling R). s.number) l)) same chosen_rises;
        low = subst (λ (o : LocalBaskets). AllBelow (length o.ranks.items) (numbers_in made)) over (subst (λ l. AllBelow (length ranks) (map (λ (s : Sibling R). s.number) l)) same chosen_low);
        ranks = (λ i. named (sym over i).ranks.items (map (λ (s : Sibling R). s.number) (sym same i))) ∙ ranks_are;
        supports = subst (λ (o : LocalBaskets). (others : List ℕ) → AllBelow (length o.ranks.items) others → node.over.support (named o.ranks.items others ++ rank ∷ node.set) ≡ support_of (baskets_in o) (others ++ number ∷ set)) over support_with;
      },
    )

    -- as a list of siblings, and over baskets that are narrowed
    module _ (list : List (Sibling R)) (same : list ≡ below) where
      abbrev named_numbers : List ℕ
      named_numbers = map (λ (s : Sibling R). s.number) list

      pub rises : IsRising named_numbers
      rises = subst (λ l. IsRising (map (λ (s : Sibling R). s.number) l)) (sym same) chosen_rises

      pub low : AllBelow (length ranks) named_numbers
      low = subst (λ l. AllBelow (length ranks) (map (λ (s : Sibling R). s.number) l)) (sym same) chosen_low

      pub anew_is : (made : Siblings R) → made.coded ≡ base.coded → made.least ≡ base.least → AreOver stands made.local.value (siblings_in made) → IsNarrowed local (number ∷ set) named_numbers made.local.value
          → Extend stands made (child node rank)
      anew_is made coded least over narrowed = (
        [],
        record {
          joined = joined_below made coded least;
          siblings = over.rows;
          rises = subst IsRising (sym over.numbers) (range_rises 0 (length anew));
          low = λ other h. let r = Member-range 0 (length anew) other (Member-from_has (range_with_len 0 (length anew)) other (subst (λ l. has l other ≡ true) over.numbers h)) in let high = r.1 in omega arith;
          ranks = ap (named anew) over.numbers ∙ named_range anew ∙ narrowed.ranks ∙ ap (λ l. named ranks (map (λ (s : Sibling R). s.number) l)) same ∙ ranks_are;
          supports = supports;
        },
      )
        where
          anew : List ℕ
          anew = made.local.value.ranks.items

          supports : (others : List ℕ) → AllBelow (length anew) others → node.over.support (named anew others ++ rank ∷ node.set) ≡ support_of (baskets_in made.local.value) (others ++ [])
          supports others few =
              let indexes : AllBelow (length named_numbers) others = subst (λ n. AllBelow n others) (ap length narrowed.ranks ∙ length-map named_numbers (λ n. get_or ranks n 0)) few in
              ap (λ l. node.over.support (named l others ++ rank ∷ node.set)) narrowed.ranks
              ∙ ap (λ l. node.over.support (l ++ rank ∷ node.set)) (named_twice ranks named_numbers others indexes)
              ∙ support_with (named named_numbers others) (λ x h. low x (has-from_Member named_numbers x (named_among named_numbers others indexes x (Member-from_has (named named_numbers others) x h))))
              ∙ sym (narrowed.supports others indexes)
              ∙ ap (support_of (baskets_in made.local.value)) (sym (append-nil others))
