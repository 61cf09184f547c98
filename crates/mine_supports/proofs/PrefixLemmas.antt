-- The tids of the prefixes of sets.
use Rattle.std.specs.declared.alloc.Global.{Global}
use Rattle.std.proofs.lemmas.Grind.{common_steps}
use Rattle.std.specs.declared.vec.Vec.{Vec}
use Rattle.std.proofs.Common.{◌≡◌, ℕ, ◌+◌, ◌-◌, ◌<◌, ◌≤◌, List, [], ◌∷◌, ◌++◌, length, drop, take, get_or, refl, sym, ap, ◌∙◌, subst, arith}
use Rattle.std.proofs.lemmas.List.{get_or-map, length-map, take-append-drop, take_rest, get_or-take, get_or_default, length-take, take-take, take_more}
use Rattle.basket_sets.specs.declared.weighted.Weighted.{Weighted}
use Rattle.basket_sets.specs.Support.{support_of}
use Rattle.mine_supports.specs.declared.tid_words.TidWord.{TidWord}
use Rattle.mine_supports.specs.Prefixes.{ArePrefixes, AreLast, IsNext}
use Rattle.mine_supports.specs.Counter.{AreAdded, IsShared}
use Rattle.mine_supports.specs.Extensions.{extend}
use Rattle.mine_supports.specs.TidWord.{AreTidsOf, IsRowOf}
use Rattle.mine_supports.proofs.TidLemmas.{are_kept}

-- the tids of one more prefix
prefix_added : (baskets : List Weighted) (items : List ℕ) (prefixes : List (Vec TidWord Global)) (new : Vec TidWord Global) (depth : ℕ) → length prefixes ≡ depth → AreTidsOf baskets (take depth items) new.items
    → ArePrefixes baskets items prefixes → ArePrefixes baskets items (prefixes ++ new ∷ [])
prefix_added baskets items prefixes new depth long are before = grind (arith, common_steps)

-- the tids of the last prefix
pub last_prefix : (baskets : List Weighted) (items : List ℕ) (prefixes : List (Vec TidWord Global)) (tids : List TidWord) → ArePrefixes baskets items prefixes → AreLast prefixes tids
    → AreTidsOf baskets (take (length prefixes - 1) items) tids
last_prefix baskets items [] tids are last = absurd (let some = are.some in omega (arith, some))
last_prefix baskets items (first ∷ prefixes) tids are last =
    subst (AreTidsOf baskets (take (length (first ∷ prefixes) - 1) items)) (sym (last first)) (are.each (length (first ∷ prefixes) - 1) first (omega arith))

-- the next prefix, whose last item has a row
pub next_prefix : (baskets : List Weighted) (items : List ℕ) (prefixes new : List (Vec TidWord Global)) (row : List ℕ) (depth : ℕ) → length prefixes ≡ depth + 1 → depth < length items
    → IsRowOf baskets (get_or items depth 0) row → IsNext row prefixes new → ArePrefixes baskets items prefixes → ArePrefixes baskets items new
next_prefix baskets items [] new row depth long within is next are = absurd (omega (arith, long))
next_prefix baskets items (first ∷ prefixes) new row depth long within is next are =
    let all = first ∷ prefixes in
    let index : ℕ = length all - 1 in
    let here : index < length all = omega arith in
    let last : Vec TidWord Global = get_or all index first in
    let kept = next.keeps last.items (λ d. ap (λ (v : Vec TidWord Global). v.items) (get_or_default all index first d here)) in
    let at = subst (λ n. AreTidsOf baskets (take n items) last.items) (let e : index ≡ depth = omega (arith, long) in e) (are.each index first here) in
    let more = subst (λ l. AreTidsOf baskets l next.kept.items) (sym (take_more items depth 0 within))
    (are_kept baskets (take depth items) (get_or items depth 0) row last.items next.kept.items at is kept) in
    subst (ArePrefixes baskets items) (sym next.pushed) (prefix_added baskets items all next.kept (depth + 1) long more are)

-- what a set shares with the one before it
pub prefixes_shared : (baskets : List Weighted) (before items : List ℕ) (count : ℕ) (prefixes : List (Vec TidWord Global)) → IsShared before items count
    → ArePrefixes baskets before prefixes → ArePrefixes baskets items (take (1 + count) prefixes)
prefixes_shared baskets before items count prefixes shared are = record {
  some = let some = are.some in omega (arith, length-take (1 + count) prefixes);
  each = λ k d below.
      let long = length-take (1 + count) prefixes in
      let less : k < length prefixes = omega arith in
      let low : k < 1 + count = omega arith in
      let within : k ≤ count = omega arith in
      let same : take k before ≡ take k items = sym (take-take k count before within) ∙ ap (take k) shared.same ∙ take-take k count items within in
      subst (λ (v : Vec TidWord Global). AreTidsOf baskets (take k items) v.items) (sym (get_or-take (1 + count) prefixes k d low))
      (subst (λ l. AreTidsOf baskets l (get_or prefixes k d).items) same (are.each k d less));
}

-- the tids of a set's prefixes are those of a longer set's
prefixes_longer : (baskets : List Weighted) (items : List ℕ) (item : ℕ) (prefixes : List (Vec TidWord Global)) → length prefixes ≤ 1 + length items → ArePrefixes baskets items prefixes → ArePrefixes baskets (items ++ item ∷ []) prefixes
prefixes_longer baskets items item prefixes short are = grind (arith, common_steps)

-- if no basket contains a prefix, none contains the sets that extend it
pub none_added : (baskets : List Weighted) (prefix items : List ℕ) (start : ℕ) (counts : List ℕ) (prefixes : List (Vec TidWord Global)) → length prefixes ≤ 1 + length prefix → ArePrefixes baskets prefix prefixes
    → ((set : List ℕ) → ArePrefixes baskets set prefixes → support_of baskets set ≡ 0) → AreAdded (extend prefix items) baskets start counts counts
none_added baskets prefix items start counts prefixes short are none = record {
  added = λ k inside.
      let below : k < length items = omega (arith, inside, length-map items (λ item. prefix ++ item ∷ [])) in
      let zero = ap (support_of baskets) (get_or-map (λ item. prefix ++ item ∷ []) items k 0 [] below)
      ∙ none (prefix ++ get_or items k 0 ∷ []) (prefixes_longer baskets prefix (get_or items k 0) prefixes short are) in
      omega (arith, zero);
  before = λ k below. refl;
  after = λ k from. refl;
}

-- the rest of a set after some of its items
pub rest_joined : (items : List ℕ) (depth : ℕ) → take depth items ++ take (length items - depth) (drop depth items) ≡ items
rest_joined items depth = ap (λ l. take depth items ++ l) (take_rest items depth) ∙ take-append-drop depth items
