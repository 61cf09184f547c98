-- The sets of some of the prefixes, among those of all.
use Rattle.std.proofs.Common.{◌≡◌, ℕ, ◌+◌, ◌-◌, List, ◌++◌, length, map, take, drop, sym, ap, ◌∙◌, arith}
use Rattle.std.proofs.lemmas.Grind.{common_steps}
use Rattle.std.specs.List.{All}
use Rattle.std.specs.Prelude.{slice_range}
use Rattle.std.proofs.lemmas.List.{drop-map, take-append-drop, take-map}
use Rattle.std.proofs.lemmas.List.Elements.{All-drop, All-take}
use Rattle.std.proofs.Math.Seq.{drop-append_seam, take-append_seam}
use Rattle.basket_sets.specs.Itemset.{IsRising}
use Rattle.mine_supports.specs.Extensions.{Group, sets_of}
use Rattle.mine_supports.proofs.theory.Extensions.{sets_append}

module _ (groups : List Group) (start end : ℕ) where
  -- how many sets come before those of the range
  abbrev pub before : ℕ
  before = length (sets_of (take start groups))

  abbrev pub inside : List Group
  inside = slice_range groups start end

  split : (at : ℕ) (all : List Group) → sets_of all ≡ sets_of (take at all) ++ sets_of (drop at all)
  split at all = ap sets_of (sym (take-append-drop at all)) ∙ sets_append (take at all) (drop at all)

  pub sets_in_range : take (length (sets_of inside)) (drop before (sets_of groups)) ≡ sets_of inside
  sets_in_range =
      ap (λ l. take (length (sets_of inside)) (drop before l)) (split start groups)
      ∙ ap (take (length (sets_of inside))) (drop-append_seam (sets_of (take start groups)) (sets_of (drop start groups)) ∙ split (end - start) (drop start groups))
      ∙ take-append_seam (sets_of inside) (sets_of (drop (end - start) (drop start groups)))

  pub counts_in_range : (f : List ℕ → ℕ) (counts : List ℕ) → counts ≡ map f (sets_of groups) → slice_range counts before (before + length (sets_of inside)) ≡ map f (sets_of inside)
  counts_in_range f counts are = grind (arith, common_steps, drop-map, take-map, sets_in_range)

  pub rising_in_range : All IsRising (sets_of groups) → All IsRising (sets_of inside)
  rising_in_range rising = grind (arith, common_steps, sets_in_range, All-take, All-drop)
