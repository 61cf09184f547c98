-- Covers of sets, what two share, and that a cover weighs the support.
use Rattle.std.proofs.Common.{◌≡◌, ℕ, ◌+◌, ◌<◌, Bool, true, false, ◌&&◌, List, [], ◌∷◌, ◌++◌, length, get_or, map, cond, refl, sym, ap, ◌∙◌, subst, arith, zero-add}
use Rattle.std.specs.List.{filter, range_with_len, sum_by}
use Rattle.std.proofs.lemmas.Bool.{and_parts, and_from}
use Rattle.std.proofs.Math.Bool.{and-false, and-true}
use Rattle.std.proofs.Math.ListN.{get_or-map as default_mapped}
use Rattle.std.proofs.lemmas.List.{length-map}
use Rattle.std.proofs.lemmas.List.Folds.{list_all-append}
use Rattle.std.proofs.lemmas.List.FromFn.{fill_by_all}
use Rattle.basket_sets.specs.declared.weighted.Weighted.{Weighted}
use Rattle.basket_sets.specs.Database.{weighted}
use Rattle.basket_sets.proofs.theory.Merging.{sum_by-same}
use Rattle.basket_sets.specs.Itemset.{IsRising, contains, has}
use Rattle.basket_sets.specs.Support.{support_of}
use Rattle.basket_sets.proofs.theory.Members.{Member, Member-filter, Member-from_filter}
use Rattle.basket_sets.proofs.theory.Rising.{Member-from_has, has-from_Member, same_rising}
use Rattle.basket_sets.proofs.theory.Support.{support-cons}
use Rattle.basket_sets.proofs.theory.Ranges.{Member-into_range, Member-range, filter_rises, range_rises}
use Rattle.mine_baskets.specs.Covers.{basket_at, cover_of, weights_of}
use Rattle.mine_classes.proofs.theory.Sums.{sum_by-map}
use Rattle.mine_classes.proofs.theory.Lists.{filter_all}
use Rattle.mine_vertical.proofs.NumberLemmas.{filter-map}
use Rattle.mine_rows.specs.Cover.{IsCover, all_tids, common, cover_weight}

pub cover_rises : (baskets : List Weighted) (set : List ℕ) → IsRising (cover_of baskets set)
cover_rises baskets set = filter_rises (λ tid. contains (basket_at baskets tid) set) (range_with_len 0 (length baskets)) (range_rises 0 (length baskets))

pub from_cover : (baskets : List Weighted) (set : List ℕ) (tid : ℕ) → Member tid (cover_of baskets set) → (tid < length baskets) × (contains (basket_at baskets tid) set ≡ true)
from_cover baskets set tid m =
    let p = Member-filter (λ t. contains (basket_at baskets t) set) tid (range_with_len 0 (length baskets)) m in
    let r = Member-range 0 (length baskets) tid p.0 in
    let high = r.1 in (omega arith, p.1)

pub into_cover : (baskets : List Weighted) (set : List ℕ) (tid : ℕ) → tid < length baskets → contains (basket_at baskets tid) set ≡ true → Member tid (cover_of baskets set)
into_cover baskets set tid here h =
    Member-from_filter (λ t. contains (basket_at baskets t) set) tid (range_with_len 0 (length baskets)) (Member-into_range 0 (length baskets) tid (omega arith) (omega arith)) h

pub as_many : (baskets : List Weighted) → length (weights_of baskets) ≡ length baskets
as_many baskets = length-map baskets (λ (p : Weighted). p.weight)

pub cover_covers : (baskets : List Weighted) (set : List ℕ) → IsCover (weights_of baskets) (cover_of baskets set)
cover_covers baskets set = record {
  rises = cover_rises baskets set;
  below = λ tid h. subst (λ n. tid < n) (sym (as_many baskets)) (from_cover baskets set tid (Member-from_has (cover_of baskets set) tid h)).0;
}

-- all tids contain no rank
pub cover_of_none : (baskets : List Weighted) → cover_of baskets [] ≡ all_tids (weights_of baskets)
cover_of_none baskets = filter_all (range_with_len 0 (length baskets)) ∙ ap (range_with_len 0) (sym (as_many baskets))

-- two sets that differ in one rank each share the tids of their union
pub common_cover : (baskets : List Weighted) (set : List ℕ) (x y : ℕ) → common (cover_of baskets (x ∷ set)) (cover_of baskets (y ∷ set)) ≡ cover_of baskets (y ∷ x ∷ set)
common_cover baskets set x y = same_rising (common (cover_of baskets (x ∷ set)) (cover_of baskets (y ∷ set))) (cover_of baskets (y ∷ x ∷ set))
    (filter_rises (has (cover_of baskets (y ∷ set))) (cover_of baskets (x ∷ set)) (cover_rises baskets (x ∷ set))) (cover_rises baskets (y ∷ x ∷ set))
    (λ tid m.
    let f = Member-filter (has (cover_of baskets (y ∷ set))) tid (cover_of baskets (x ∷ set)) m in
    let a = from_cover baskets (x ∷ set) tid f.0 in
    let b = from_cover baskets (y ∷ set) tid (Member-from_has (cover_of baskets (y ∷ set)) tid f.1) in
    into_cover baskets (y ∷ x ∷ set) tid a.0
    (and_from (has (basket_at baskets tid) y) (contains (basket_at baskets tid) (x ∷ set)) (and_parts (has (basket_at baskets tid) y) (contains (basket_at baskets tid) set) b.1).0 a.1))
    (λ tid m.
    let a = from_cover baskets (y ∷ x ∷ set) tid m in
    let p = and_parts (has (basket_at baskets tid) y) (contains (basket_at baskets tid) (x ∷ set)) a.1 in
    let q = and_parts (has (basket_at baskets tid) x) (contains (basket_at baskets tid) set) p.1 in
    Member-from_filter (has (cover_of baskets (y ∷ set))) tid (cover_of baskets (x ∷ set)) (into_cover baskets (x ∷ set) tid a.0 p.1)
    (has-from_Member (cover_of baskets (y ∷ set)) tid
    (into_cover baskets (y ∷ set) tid a.0 (and_from (has (basket_at baskets tid) y) (contains (basket_at baskets tid) set) p.0 q.1))))

-- ---- supports

abbrev pub none_at : Weighted
none_at = weighted [] 0

-- the baskets of the cover of a set are those that contain it
pub covered_are : (baskets : List Weighted) (set : List ℕ) → map (λ tid. get_or baskets tid none_at) (cover_of baskets set) ≡ filter (λ p. contains p.basket set) baskets
covered_are baskets set =
    let tids = range_with_len 0 (length baskets) in
    (λ i. map (λ tid. get_or baskets tid none_at) (filter (λ tid. contains (default_mapped (λ (p : Weighted). p.basket) baskets tid none_at i) set) tids))
    ∙ sym (filter-map (λ (p : Weighted). contains p.basket set) (λ tid. get_or baskets tid none_at) tids)
    ∙ ap (filter (λ (p : Weighted). contains p.basket set)) (sym (fill_by_all (λ tid. get_or baskets tid none_at) baskets (length baskets) none_at refl (λ k here. refl)))

-- a set has in them the support that it has together with that set
pub covered_support : (baskets : List Weighted) (set more : List ℕ) → support_of (filter (λ p. contains p.basket set) baskets) more ≡ support_of baskets (more ++ set)
covered_support [] set more = refl
covered_support (p ∷ baskets) set more =
    at (contains p.basket set) refl (covered_support baskets set more) ∙ sym (support-cons p baskets (more ++ set))
  where
    rest : List Weighted
    rest = filter (λ q. contains q.basket set) baskets

    both : (b : Bool) → contains p.basket set ≡ b → (contains p.basket more && b) ≡ contains p.basket (more ++ set)
    both b e = sym (list_all-append (has p.basket) more set ∙ ap (λ t. contains p.basket more && t) e)

    at : (b : Bool) → contains p.basket set ≡ b → support_of rest more ≡ support_of baskets (more ++ set) → support_of (cond b (p ∷ rest) rest) more ≡ cond (contains p.basket (more ++ set)) p.weight 0 + support_of baskets (more ++ set)
    at true e same = support-cons p rest more ∙ (λ i. cond ((sym (and-true (contains p.basket more)) ∙ both true e) i) p.weight 0 + same i)
    at false e same = same ∙ sym (zero-add (support_of baskets (more ++ set))) ∙ (λ i. cond ((sym (and-false (contains p.basket more)) ∙ both false e) i) p.weight 0 + support_of baskets (more ++ set))

-- a set's cover weighs its support
pub cover_weighs : (baskets : List Weighted) (set : List ℕ) → cover_weight (weights_of baskets) (cover_of baskets set) ≡ support_of baskets set
cover_weighs baskets set =
    sum_by-same (λ tid. get_or (weights_of baskets) tid 0) (λ tid. (get_or baskets tid none_at).weight) (cover_of baskets set) (λ tid. default_mapped (λ (p : Weighted). p.weight) baskets tid none_at)
    ∙ sym (sum_by-map (λ (p : Weighted). p.weight) (λ tid. get_or baskets tid none_at) (cover_of baskets set))
    ∙ ap (sum_by (λ (p : Weighted). p.weight)) (covered_are baskets set) ∙ covered_support baskets set []
