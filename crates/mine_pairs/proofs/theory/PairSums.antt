-- The frequent pairs of ranks.
use Rattle.std.proofs.Common.{◌≡◌, ℕ, ◌+◌, ◌<◌, Bool, ◌&&◌, List, [], ◌∷◌, ◌++◌, length, get_or, map, sym, ap, ◌∙◌, inl, inr, arith}
use Rattle.std.proofs.lemmas.Grind.{common_steps}
use Rattle.std.specs.List.{filter, range_with_len}
use Rattle.std.specs.declared.alloc.Global.{Global}
use Rattle.std.specs.declared.vec.Vec.{Vec}
use Rattle.std.proofs.lemmas.Bool.{cases_order, le-leb, leb-true, lt-ltb}
use Rattle.std.proofs.lemmas.List.{length-map, get_or-map, map-append}
use Rattle.std.proofs.lemmas.List.FromFn.{length-map-range_with_len, get_or-map-range_with_len, map-range_with_len_more}
use Rattle.basket_ranks.specs.Codes.{Coding}
use Rattle.basket_sets.specs.declared.minimum.Minimum.{Minimum}
use Rattle.basket_sets.specs.declared.minimum.Minimum.TheVariants.{Count}
use Rattle.basket_sets.specs.declared.weighted.Weighted.{Weighted}
use Rattle.basket_sets.specs.Frequent.{is_frequent}
use Rattle.basket_sets.specs.Minimum.{IsLeastSupport}
use Rattle.basket_sets.specs.Support.{support_of, total_of}
use Rattle.basket_sets.proofs.theory.Members.{Member, Member-filter}
use Rattle.basket_sets.proofs.theory.Ranges.{Member-range, filter_members}
use Rattle.mine_classes.specs.Conditional.{is_kept}
use Rattle.mine_pairs.proofs.theory.Pairs.{same_of_rank}
use Rattle.mine_pairs.proofs.theory.Sums.{map_members}
use Rattle.mine_pairs.specs.Pairs.{ArePairs, kept_ranks, lists_of, pairs_of}
use Rattle.mine_pairs.specs.Runs.{ArePairsOf}
use Rattle.mine_pairs.specs.Sums.{is_met}

-- sums that are the supports of the pairs of a rank give its frequent pairs
pub sums_are_pairs : (baskets : List Weighted) (least rank : ℕ) (sums : List ℕ) → length sums ≡ rank → ((other : ℕ) → other < rank → get_or sums other 0 ≡ support_of baskets (other ∷ rank ∷ []))
    → map (λ other. (other, get_or sums other 0)) (filter (λ other. is_met least (get_or sums other 0)) (range_with_len 0 (length sums))) ≡ pairs_of baskets least rank
sums_are_pairs baskets least rank sums long are =
    ap (λ n. map (λ other. (other, get_or sums other 0)) (filter summed (range_with_len 0 n))) long
    ∙ ap (map (λ other. (other, get_or sums other 0))) (filter_members summed (is_kept baskets least rank) (range_with_len 0 rank) (λ other m.
    let less = within other m in
    ap (is_met least) (are other less) ∙ ap (λ b. b && is_frequent baskets (Count least) (other ∷ rank ∷ [])) (sym (lt-ltb other rank less))))
    ∙ map_members (λ other. (other, get_or sums other 0)) (λ other. (other, support_of baskets (other ∷ rank ∷ []))) (kept_ranks baskets least rank) (λ other m i.
    (other, are other (within other (Member-filter (is_kept baskets least rank) other (range_with_len 0 rank) m).0) i))
  where
    summed : ℕ → Bool
    summed other = is_met least (get_or sums other 0)

    within : (other : ℕ) → Member other (range_with_len 0 rank) → other < rank
    within other m = let high = (Member-range 0 rank other m).1 in omega arith

-- one list more, that of the next number
pub lists_pushed : {X : Type 0} (f : ℕ → List X) (first n next : ℕ) (lists new : List (Vec X Global)) (list : Vec X Global) → lists_of lists ≡ map f (range_with_len first n)
    → new ≡ lists ++ list ∷ [] → first + n ≡ next → list.items ≡ f next → lists_of new ≡ map f (range_with_len first (n + 1))
lists_pushed f first n next lists new list so_far pushed at is = grind (arith, common_steps, map-append, map-range_with_len_more)

-- there is one least support that meets a minimum
one_least : (minimum : Minimum) (total one other : ℕ) → IsLeastSupport minimum total one → IsLeastSupport minimum total other → one ≡ other
one_least minimum total one other a b = elim (cases_order one other) [
  | inl same ↦ same
  | inr (inl less) ↦ absurd (apart one other a b less)
  | inr (inr more) ↦ absurd (apart other one b a more)
]
  where
    apart : (low high : ℕ) → IsLeastSupport minimum total low → IsLeastSupport minimum total high → low < high → ⊥
    apart low high is also less =
        let within = also.within in
        let here = sym (also.met low (omega arith)) ∙ is.met low (omega arith) ∙ le-leb low low (omega arith) in
        let up = leb-true high low here in
        omega (arith, up, less)

-- the pairs of each rank are those of baskets with the same supports
pub pairs_for : (coding : Coding) (least : ℕ) (others : List Weighted) (lists : List (Vec (ℕ × ℕ) Global)) → IsLeastSupport coding.minimum (total_of coding.baskets) least
    → ((set : List ℕ) → support_of others set ≡ support_of coding.baskets set) → ArePairs coding (lists_of lists) → ArePairsOf others least lists
pairs_for coding least others lists settles same are rank none below =
    let count = length coding.items in
    let one = one_least coding.minimum (total_of coding.baskets) are.least least are.settles settles in
    let long : rank < count = omega (arith, below, length-map lists (λ list. list.items), ap length are.pairs, length-map-range_with_len (pairs_of coding.baskets are.least) 0 count) in
    sym (get_or-map (λ (list : Vec (ℕ × ℕ) Global). list.items) lists rank none [] below)
    ∙ ap (λ l. get_or l rank []) are.pairs
    ∙ get_or-map-range_with_len (pairs_of coding.baskets are.least) 0 count rank rank [] long (omega arith)
    ∙ ap (λ n. pairs_of coding.baskets n rank) one
    ∙ sym (same_of_rank others coding.baskets least rank same)
