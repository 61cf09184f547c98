-- The pattern base of the empty set, and those of the ranks alone.
use Rattle.std.proofs.Common.{◌≡◌, ℕ, ◌+◌, ◌<◌, ◌≤◌, false, true, List, [], ◌∷◌, get_or, length, map, Option, refl, sym, ap, ◌∙◌, subst, inl, inr, arith, zero-add}
use Rattle.std.proofs.lemmas.Grind.{common_steps}
use Rattle.std.specs.Prelude.{IfNone, IfSome}
use Rattle.std.specs.List.{range_with_len}
use Rattle.std.proofs.lemmas.Bool.{le-leb, lt-leb}
use Rattle.std.proofs.lemmas.List.{append-nil}
use Rattle.std.proofs.lemmas.List.FromFn.{get_or-map-range_with_len, get_or-range_with_len, length-map-range_with_len, length-range_with_len}
use Rattle.basket_ranks.specs.Codes.{Coding}
use Rattle.basket_sets.specs.Counts.{AllBelow}
use Rattle.basket_sets.specs.Frequent.{is_frequent}
use Rattle.basket_sets.specs.Itemset.{IsRising, has}
use Rattle.basket_sets.specs.Support.{support_of}
use Rattle.basket_sets.proofs.theory.Ranges.{Member-into_range, Member-range, range_rises}
use Rattle.basket_sets.proofs.theory.Rising.{Member-from_has, has-from_Member}
use Rattle.basket_sets.proofs.theory.Support.{support_falls}
use Rattle.mine_pairs.specs.Pairs.{pairs_of}
use Rattle.mine_fp.specs.declared.pattern_base.PatternBase.{PatternBase}
use Rattle.mine_fp.specs.Forest.{IsForest}
use Rattle.mine_fp.specs.PatternBase.{IsBase, IsBelow, IsNumbered, named, ranks_of, supports_in}
use Rattle.mine_fp.specs.Trees.{class_trees}
use Rattle.mine_fp.proofs.NumberLemmas.{none_are_kept, numbered_below, ranks_are_kept, supports_are_kept}
use Rattle.mine_fp.proofs.TreesLemmas.{trees_are}
use Rattle.mine_search.specs.Class.{IsClass, IsOver, of_rank}
use Rattle.mine_search.specs.Node.{Node, child, kept, work_at}

module _ {all : PatternBase} (is : IsForest all) where
  abbrev coding : Coding
  coding = all.coded.now

  abbrev count : ℕ
  count = length coding.items

  -- the node of the empty set, which each rank may extend
  abbrev top : Node
  top = record { over = supports_in coding all.least; set = []; below = count }

  over_coding : IsOver coding (supports_in coding all.least)
  over_coding = record { known = is.coding; supports = λ set. refl; least = is.least; items = refl }

  ranks_are : ranks_of all ≡ range_with_len 0 count
  ranks_are = ap (map (λ (pair : ℕ × ℕ). pair.0)) is.ranks ∙ first_of (range_with_len 0 all.paths.ranks) ∙ ap (range_with_len 0) is.count
    where
      first_of : (numbers : List ℕ) → map (λ (pair : ℕ × ℕ). pair.0) (map (λ rank. (rank, support_of all.paths.baskets (rank ∷ []))) numbers) ≡ numbers
      first_of [] = refl
      first_of (k ∷ numbers) = ap (λ l. k ∷ l) (first_of numbers)

  pub rank_is : (rank : ℕ) → rank < count → get_or (ranks_of all) rank 0 ≡ rank
  rank_is rank here = ap (λ l. get_or l rank 0) ranks_are ∙ get_or-range_with_len 0 count rank 0 here ∙ zero-add rank

  pub inside : (rank : ℕ) → rank < count → rank < length (ranks_of all)
  inside rank here = let long = ap length ranks_are ∙ length-range_with_len 0 count in omega arith

  pub entries : length all.ranks.items ≡ all.paths.ranks
  entries = ap length is.ranks ∙ length-map-range_with_len (λ rank. (rank, support_of all.paths.baskets (rank ∷ []))) 0 all.paths.ranks

  -- what stands at the receipt of a rank
  pub entry_support : (rank : ℕ) {one : ℕ × ℕ} → rank < count → one ≡ get_or all.ranks.items rank one → one.1 ≡ support_of coding.baskets (rank ∷ [])
  entry_support rank {one} here is_at =
      ap (λ (pair : ℕ × ℕ). pair.1) (is_at ∙ ap (λ l. get_or l rank one) is.ranks
      ∙ get_or-map-range_with_len (λ rank. (rank, support_of all.paths.baskets (rank ∷ []))) 0 all.paths.ranks rank rank one (omega (arith, here, is.count)) (omega arith))
      ∙ is.supports (rank ∷ [])

  -- a rank of less support than the least is not frequent
  pub rare : (rank : ℕ) → support_of coding.baskets (rank ∷ []) < all.least → is_frequent coding.baskets coding.minimum (rank ∷ []) ≡ false
  rare rank less = is.least.met (support_of coding.baskets (rank ∷ [])) (support_falls coding.baskets (rank ∷ []) [] refl) ∙ lt-leb all.least (support_of coding.baskets (rank ∷ [])) less

  named_all : (numbers : List ℕ) → AllBelow count numbers → named (ranks_of all) numbers ≡ numbers
  named_all [] low = refl
  named_all (k ∷ numbers) low =
      λ i. rank_is k (low k (has-from_Member (k ∷ numbers) k (inl refl))) i ∷ named_all numbers (λ j h. low j (has-from_Member (k ∷ numbers) j (inr (Member-from_has numbers j h)))) i

  numbered : IsNumbered all top
  numbered = record {
    over = refl;
    coding = is.coding;
    least = is.least;
    ranked = is.ranked;
    long = ap length ranks_are ∙ length-range_with_len 0 count ∙ sym is.count;
    rises = subst IsRising (sym ranks_are) (range_rises 0 count);
    low = λ rank h. (let m = Member-range 0 count rank (Member-from_has (range_with_len 0 count) rank (subst (λ l. has l rank ≡ true) ranks_are h)) in omega (arith, m.1));
    known = omega arith;
    all = λ rank less h. subst (λ l. has l rank ≡ true) (sym ranks_are) (has-from_Member (range_with_len 0 count) rank (Member-into_range 0 count rank (omega arith) (omega arith)));
    supports = λ numbers low.
        ap (support_of coding.baskets) (append-nil (named (ranks_of all) numbers) ∙ named_all numbers (subst (λ n. AllBelow n numbers) is.count low)) ∙ sym (is.supports numbers);
  }

  module _ (rank : ℕ) (here : rank < count) where
    node_is : child top (get_or (ranks_of all) rank 0) ≡ of_rank (supports_in coding all.least) rank
    node_is = ap (of_rank (supports_in coding all.least)) (rank_is rank here)

    none_of_rank : pairs_of all.paths.baskets all.least rank ≡ [] → kept (of_rank (supports_in coding all.least) rank) ≡ []
    none_of_rank none = subst (λ node. kept node ≡ []) node_is (none_are_kept numbered rank (inside rank here) none)

    base_of_rank : (below : PatternBase) → IsBelow all rank below → IsBase below (of_rank (supports_in coding all.least) rank)
    base_of_rank below is_below = subst (IsBase below) node_is (record {
      numbered = numbered_below numbered rank (inside rank here) below is_below;
      ranks = ranks_are_kept numbered rank (inside rank here) below is_below;
      supports = supports_are_kept numbered rank (inside rank here) below is_below
          ∙ (λ i. map (λ r. support_of (sym is_below.coded i).now.baskets (r ∷ get_or (ranks_of all) rank 0 ∷ [])) (kept (child top (get_or (ranks_of all) rank 0))));
      first = ([], refl);
      tree = refl;
    })

    -- so it begins a search for its class
    pub class_of_rank : {below : Option PatternBase} {one : ℕ × ℕ} → one ≡ get_or all.ranks.items rank one → all.least ≤ one.1 → IfNone below (pairs_of all.paths.baskets all.least rank ≡ [])
        → IfSome below (IsBelow all rank) → IsClass IsBase coding rank one.1 below (supports_in coding all.least)
    class_of_rank is_at enough none some = grind (arith, common_steps, over_coding, entry_support, base_of_rank, none_of_rank)

    -- and that search makes the trees of the class
    pub trees_made : {one : ℕ × ℕ} → one ≡ get_or all.ranks.items rank one → all.least ≤ one.1 → 1 + work_at (of_rank (supports_in coding all.least) rank) ≡ class_trees coding rank
    trees_made {one} is_at enough = trees_are coding rank all.least over_coding (le-leb all.least (support_of coding.baskets (rank ∷ [])) (omega (arith, enough, entry_support rank here is_at)))
