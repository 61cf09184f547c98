-- Parts of a list of baskets, their weight and their counts.
use Rattle.std.proofs.Common.{◌≡◌, ℕ, ◌+◌, ◌≤◌, ◌<◌, ◌-◌, List, [], ◌∷◌, ◌++◌, map, take, drop, length, get_or, refl, sym, ap, ◌∙◌, arith}
use Rattle.std.proofs.lemmas.Grind.{common_steps}
use Rattle.std.specs.Prelude.{slice_range}
use Rattle.std.specs.List.{flat_map, range_with_len}
use Rattle.std.proofs.lemmas.List.{append-nil, drop-map, get_or-map, length-map, take-append-drop, take-map}
use Rattle.std.proofs.lemmas.List.Folds.{flat_map-map}
use Rattle.std.proofs.lemmas.List.FromFn.{fill_by_all}
use Rattle.std.proofs.lemmas.Simd.{map-map}
use Rattle.std.proofs.lemmas.List.Concat.{flat_map-append}
use Rattle.std.proofs.lemmas.List.Sums.{sum_by-take-le, sum_by-take-drop}
use Rattle.basket_ranks.proofs.theory.Shards.{shards_are_all}
use Rattle.basket_ranks.specs.Shards.{shard_start, shard_of}
use Rattle.basket_sets.proofs.theory.Support.{support-append}
use Rattle.basket_sets.specs.declared.weighted.Weighted.{Weighted}
use Rattle.basket_sets.specs.Counts.{item_supports}
use Rattle.basket_sets.specs.Support.{total_of, weight_at}
use Rattle.mine_pieces.specs.Counting.{CountParts}
use Rattle.mine_pieces.specs.Pieces.{HasEach}

pub map_flat : {X Y Z : Type 0} (f : Y → Z) (g : X → List Y) (xs : List X) → map f (flat_map g xs) ≡ flat_map (λ x. map f (g x)) xs
map_flat f g [] = refl
map_flat f g (x ∷ xs) = grind (arith, common_steps, map_flat f g xs)

-- a part weighs no more than the list
pub shard_is_light : (i pieces : ℕ) (baskets : List Weighted) → total_of (shard_of i pieces baskets) ≤ total_of baskets
shard_is_light i pieces baskets =
    let low = shard_start i pieces (length baskets) in
    let high = shard_start (i + 1) pieces (length baskets) in
    let t = sum_by-take-le (weight_at []) (drop low baskets) (high - low) in
    let d = sum_by-take-drop (weight_at []) baskets low in omega arith

-- ---- counts of parts, cut in two

whole_is : (mid : ℕ) (parts : List (List Weighted)) → flat_map (λ part. part) (take mid parts) ++ flat_map (λ part. part) (drop mid parts) ≡ flat_map (λ part. part) parts
whole_is mid parts = sym (flat_map-append (λ part. part) (take mid parts) (drop mid parts)) ∙ ap (flat_map (λ part. part)) (take-append-drop mid parts)

module _ {V : Type 0} (entries : V → List (ℕ × ℕ)) (mid : ℕ) (lists : List V) (baskets : List Weighted) (counted : CountParts baskets (map entries lists)) where
  pub joined_parts : flat_map (λ part. part) (take mid counted.parts) ++ flat_map (λ part. part) (drop mid counted.parts) ≡ baskets
  joined_parts = whole_is mid counted.parts ∙ counted.whole

  pub front_parts : (now : List V) → now ≡ take mid lists → CountParts (flat_map (λ part. part) (take mid counted.parts)) (map entries now)
  front_parts now is = record {
    parts = take mid counted.parts;
    counts = ap (map entries) is ∙ sym (take-map entries mid lists) ∙ ap (take mid) counted.counts ∙ take-map item_supports mid counted.parts;
    whole = refl;
  }

  pub back_parts : (now : List V) → now ≡ drop mid lists → CountParts (flat_map (λ part. part) (drop mid counted.parts)) (map entries now)
  back_parts now is = record {
    parts = drop mid counted.parts;
    counts = ap (map entries) is ∙ sym (drop-map entries mid lists) ∙ ap (drop mid) counted.counts ∙ drop-map item_supports mid counted.parts;
    whole = refl;
  }

  pub front_is_light : total_of (flat_map (λ part. part) (take mid counted.parts)) ≤ total_of baskets
  front_is_light = grind (arith, common_steps, support-append, joined_parts)

  pub back_is_light : total_of (flat_map (λ part. part) (drop mid counted.parts)) ≤ total_of baskets
  back_is_light = grind (arith, common_steps, support-append, joined_parts)

-- a list of one part
one_of : (counts : List (ℕ × ℕ)) (parts : List (List Weighted)) (baskets : List Weighted) → counts ∷ [] ≡ map item_supports parts → flat_map (λ part. part) parts ≡ baskets → counts ≡ item_supports baskets
one_of counts [] baskets e whole = absurd cc
one_of counts (part ∷ []) baskets e whole = let same : counts ≡ item_supports part = cc in same ∙ ap item_supports (sym (append-nil part) ∙ whole)
one_of counts (part ∷ other ∷ parts) baskets e whole = absurd cc

pub one_part : {V : Type 0} (entries : V → List (ℕ × ℕ)) (lists : List V) (first : V) (baskets : List Weighted) → 1 ≤ length lists → length lists < 2 → first ≡ get_or lists 0 first
    → CountParts baskets (map entries lists) → entries first ≡ item_supports baskets
one_part h1 h2 h3 h4 h5 h6 h7 h8 = grind (arith, common_steps, one_of)

-- ---- the counts of all parts

-- what the values of all parts have is what each part has
pub entries_by_part : {V X : Type 0} (entries : V → X) (of_part : ℕ → X) (pieces : ℕ) (values : List V) → HasEach (λ piece value. entries value ≡ of_part piece) pieces values
    → map entries values ≡ map of_part (range_with_len 0 pieces)
entries_by_part entries of_part pieces [] has = ap (λ n. map of_part (range_with_len 0 n)) has.count
entries_by_part entries of_part pieces (first ∷ values) has =
    fill_by_all of_part (map entries (first ∷ values)) pieces (entries first) (length-map (first ∷ values) entries ∙ has.count)
    (λ piece below. get_or-map entries (first ∷ values) piece first (entries first) (let count = has.count in omega arith) ∙ has.each piece first below)

-- the baskets from where a part starts to where it ends are the part
pub part_is : (baskets : List Weighted) (low high i pieces n : ℕ) → n ≡ length baskets → low ≡ shard_start i pieces n → high ≡ shard_start (i + 1) pieces n
    → slice_range baskets low high ≡ shard_of i pieces baskets
part_is baskets low high i pieces n whole start end = grind (arith, common_steps)

pub counts_by_part : {V : Type 0} (entries : V → List (ℕ × ℕ)) (baskets : List Weighted) (pieces : ℕ) (values : List V) → 1 ≤ pieces
    → HasEach (λ piece value. entries value ≡ item_supports (shard_of piece pieces baskets)) pieces values → CountParts baskets (map entries values)
counts_by_part entries baskets pieces values some has = record {
  parts = map (λ piece. shard_of piece pieces baskets) (range_with_len 0 pieces);
  counts = entries_by_part entries (λ piece. item_supports (shard_of piece pieces baskets)) pieces values has
      ∙ sym (map-map item_supports (λ piece. shard_of piece pieces baskets) (range_with_len 0 pieces));
  whole = flat_map-map (λ part. part) (λ piece. shard_of piece pieces baskets) (range_with_len 0 pieces) ∙ shards_are_all pieces baskets some;
}
