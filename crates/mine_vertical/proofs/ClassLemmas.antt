-- The class of a rank, as a search begins it.
use Rattle.std.proofs.Common.{◌≡◌, ℕ, ◌+◌, ◌<◌, ◌≤◌, true, false, ◌&&◌, List, [], ◌∷◌, ◌++◌, length, map, refl, sym, ap, ◌∙◌, subst, arith}
use Rattle.std.proofs.lemmas.Grind.{common_steps}
use Rattle.std.specs.Prelude.{All, Some, nat_le}
use Rattle.std.specs.List.{range_with_len}
use Rattle.std.proofs.lemmas.Bool.{lt-leb, lt-ltb, true≢false}
use Rattle.std.proofs.lemmas.List.{append-nil, take_all}
use Rattle.basket_ranks.specs.Codes.{Coding, IsCoding, MOST_RANKS}
use Rattle.basket_sets.specs.declared.weighted.Weighted.{Weighted}
use Rattle.basket_sets.specs.declared.minimum.Minimum.TheVariants.{Count}
use Rattle.basket_sets.specs.Frequent.{is_frequent}
use Rattle.basket_sets.specs.Counts.{AllBelow}
use Rattle.basket_sets.specs.Itemset.{IsRising, contains, has}
use Rattle.basket_sets.specs.Minimum.{IsLeastSupport}
use Rattle.basket_sets.specs.Support.{support_of, total_of}
use Rattle.basket_sets.proofs.theory.Members.{Member}
use Rattle.basket_sets.proofs.theory.Ranges.{Member-range, filter_members, range_rises}
use Rattle.basket_sets.proofs.theory.Rising.{Member-from_has}
use Rattle.basket_sets.proofs.theory.Support.{support_falls}
use Rattle.mine_baskets.specs.ListBaskets.{HaveSameWeights}
use Rattle.mine_classes.specs.Conditional.{is_kept}
use Rattle.mine_classes.specs.Mined.{RanksAreFrequent}
use Rattle.mine_conditional.proofs.theory.Numbers.{support_below}
use Rattle.mine_vertical.proofs.NumberLemmas.{named_range}
use Rattle.mine_classes.proofs.theory.Conditional.{support_with}
use Rattle.mine_pairs.proofs.theory.Kept.{met_alone}
use Rattle.mine_search.specs.Class.{IsClass, of_rank}
use Rattle.mine_search.specs.Node.{Node, Supports, is_met, kept, work_at}
use Rattle.mine_search.specs.Walk.{work_below}
use Rattle.mine_vertical.specs.declared.siblings.Siblings.{Siblings}
use Rattle.mine_vertical.specs.declared.joins.Sibling.{Sibling}
use Rattle.mine_vertical.specs.declared.local_baskets.LocalBaskets.{LocalBaskets}
use Rattle.mine_vertical.specs.LocalBaskets.{baskets_in, named, numbered_in}
use Rattle.mine_vertical.specs.Projected.{Extend, numbers_in, siblings_in}
use Rattle.mine_vertical.specs.Joins.{class_joins}
use Rattle.mine_vertical.specs.Siblings.{AreClassSiblings, AreSiblings, IsSibling}
use Rattle.mine_vertical.proofs.JoinLemmas.{class_joins_are, set_joins}

-- the supports in a coding, by its least support, with the joins as work
abbrev pub over : Coding → ℕ → Supports
over coding least = record { support = support_of coding.baskets; least = least; items = coding.items; work = set_joins (λ set. nat_le least (support_of coding.baskets set)) }

module _ (coding : Coding) (least : ℕ) (all : List Weighted) (is : IsLeastSupport coding.minimum (total_of coding.baskets) least) (weights : HaveSameWeights coding.baskets all) where
  supports : (set : List ℕ) → support_of coding.baskets set ≡ support_of all set
  supports set = weights (λ basket. contains basket set)

  tests : (set : List ℕ) → is_frequent all (Count least) set ≡ is_met (over coding least) set
  tests set = grind (arith, common_steps, supports, met_alone)

  met : (set : List ℕ) → is_frequent coding.baskets coding.minimum set ≡ is_met (over coding least) set
  met set = is.met (support_of coding.baskets set) (support_falls coding.baskets set [] refl)

  -- a rank of less support is not frequent
  pub rare : (rank : ℕ) → support_of all (rank ∷ []) < least → is_frequent coding.baskets coding.minimum (rank ∷ []) ≡ false
  rare rank less = met (rank ∷ []) ∙ lt-leb least (support_of coding.baskets (rank ∷ [])) (let same = supports (rank ∷ []) in omega arith)

  -- so it is none of a coding whose ranks are frequent
  pub rare_rank : (rank : ℕ) → RanksAreFrequent coding → rank < length coding.items → support_of all (rank ∷ []) < least → ⊥
  rare_rank rank each here less = true≢false (sym (each rank here) ∙ rare rank less)

  -- the joins of a class, with one for each rank below its rank, are the work of its search
  pub joins_are : (rank : ℕ) → RanksAreFrequent coding → rank < length coding.items → class_joins coding rank ≡ rank + work_at (of_rank (over coding least) rank)
  joins_are rank each here = class_joins_are coding rank each here ∙ (λ k. rank + work_below (set_joins (λ set. met set k)) (λ set. met set k) rank (rank ∷ []))

  module _ {R : Type 0} (stands : List ℕ → List ℕ → List ℕ → R → Type 0) (base : Siblings R) (rank : ℕ) (local : LocalBaskets)
      (known : IsCoding coding) (are : AreClassSiblings stands all least rank local base.list.items) where
    abbrev node : Node
    node = of_rank (over coding least) rank

    lower : (other : ℕ) → Member other (range_with_len 0 rank) → other < rank
    lower other m = (let r = Member-range 0 rank other m in let high = r.1 in omega arith)

    ranks_are : local.ranks.items ≡ kept node
    ranks_are =
        are.ranks
        ∙ filter_members (is_kept all least rank) (λ other. is_met (over coding least) (other ∷ rank ∷ [])) (range_with_len 0 rank)
        (λ other m. ap (λ b. b && is_frequent all (Count least) (other ∷ rank ∷ [])) (lt-ltb other rank (lower other m)) ∙ tests (other ∷ rank ∷ []))

    gives : (numbers : List ℕ) → AllBelow (length local.ranks.items) numbers → support_of coding.baskets (named local.ranks.items numbers ++ rank ∷ []) ≡ support_of (baskets_in local) (numbers ++ [])
    gives numbers low =
        supports (named local.ranks.items numbers ++ rank ∷ []) ∙ ap (λ l. support_of all (named l numbers ++ rank ∷ [])) are.ranks
        ∙ sym (support_below all least rank (numbered_in local) are.conditional numbers (subst (λ l. AllBelow (length l) numbers) are.ranks low))
        ∙ ap (support_of (baskets_in local)) (sym (append-nil numbers))

    module _ (coded : base.coded.now ≡ coding) (same : base.least ≡ least) (held : local ≡ base.local.value) (long : length base.list.items ≤ base.kept) (here : rank < length coding.items) where
      extends : Extend stands base node
      extends = (
        [],
        record {
          joined = record {
            least_is = sym same;
            items_are = ap (λ (k : Coding). k.items) (sym coded);
            few = subst (λ (k : Coding). length k.items < MOST_RANKS) (sym coded) known.few;
            within = subst (λ (k : Coding). rank ≤ length k.items) (sym coded) (omega arith);
            falls = support_with coding.baskets;
            works = λ one others. refl;
          };
          siblings = subst (λ o. AreSiblings stands o (siblings_in base) []) held (subst (All (IsSibling stands (baskets_in local) [])) (sym whole) are.over.rows);
          rises = subst IsRising (sym numbers_are) (range_rises 0 count);
          low = subst (λ (o : LocalBaskets). AllBelow (length o.ranks.items) (numbers_in base)) held (λ other h.
              let r = Member-range 0 count other (Member-from_has (range_with_len 0 count) other (subst (λ l. has l other ≡ true) numbers_are h)) in let high = r.1 in omega arith);
          ranks = (λ i. named (sym held i).ranks.items (numbers_are i)) ∙ named_range local.ranks.items ∙ ranks_are;
          supports = subst (λ (o : LocalBaskets). (numbers : List ℕ) → AllBelow (length o.ranks.items) numbers → support_of coding.baskets (named o.ranks.items numbers ++ rank ∷ []) ≡ support_of (baskets_in o) (numbers ++ [])) held gives;
        },
      )
        where
          whole : siblings_in base ≡ base.list.items
          whole = take_all base.kept base.list.items long

          count : ℕ
          count = length local.ranks.items

          numbers_are : numbers_in base ≡ range_with_len 0 count
          numbers_are = ap (map (λ (s : Sibling R). s.number)) whole ∙ are.over.numbers

      -- the class is one that a search lists
      pub class_is : (support : ℕ) → support ≡ support_of all (rank ∷ []) → least ≤ support → IsClass (Extend stands) base.coded.now rank support (Some base) (over coding least)
      class_is support supported enough = subst (λ k. IsClass (Extend stands) k rank support (Some base) (over coding least)) (sym coded) (record {
        over_coding = record { known = known; supports = λ set. refl; least = is; items = refl };
        supported = supported ∙ sym (supports (rank ∷ []));
        frequent = enough;
        some = λ inner e. subst (λ b. Extend stands b node) (only base inner e) extends;
        none = λ e. absurd (let none = e in cc);
      })
        where
          only : (a b : Siblings R) → Some a ≡ Some b → a ≡ b
          only a b e = cc
