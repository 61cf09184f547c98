-- Lists of words, some of which stand for sets that are kept elsewhere.
use Rattle.std.proofs.Common.{◌≡◌, ℕ, ◌+◌, ◌-◌, ◌^◌, ◌<◌, List, [], ◌∷◌, ◌++◌, length, map, get_or, take, drop, cond, sym, ap, ◌∙◌, subst, arith}
use Rattle.std.proofs.lemmas.Grind.{common_steps}
use Rattle.std.specs.Prelude.{All}
use Rattle.std.proofs.lemmas.Bool.{lt-ltb}
use Rattle.std.proofs.lemmas.List.{get_or-map, length-append, map-append, take-append-le, take_all}
use Rattle.std.proofs.lemmas.List.Elements.{recursion_from_All}
use Rattle.std.specs.List.Sorted.{IsPermutation}
use Rattle.std.proofs.lemmas.List.Sorted.{All-permutation, IsPermutation-map, length_permutation}
use Rattle.std.proofs.Math.Seq.{get_or-append_seam}
use Rattle.basket_lists.specs.declared.packed.Packed.{Packed}
use Rattle.basket_lists.specs.Packed.{Coding, IsCoding, IsKept, IsPacked, kept, unpacked}
use Rattle.basket_lists.proofs.BetweenLemmas.{items_rise}
use Rattle.basket_sets.specs.declared.counted.Counted.{Counted}
use Rattle.basket_sets.specs.Itemset.{IsRising}
use Rattle.basket_sets.proofs.theory.Members.{at_Member, map_members}
use Rattle.basket_sets.proofs.theory.Rising.{has-from_Member}

-- ---- the set of a word

pub kept_here : (coding : Coding) (plain : List Counted) (packed : Packed) → packed.word < 2 ^ 127 → kept coding plain packed ≡ unpacked coding packed
kept_here coding plain packed less = ap (λ b. cond b (unpacked coding packed) (get_or plain (packed.word - 2 ^ 127) (record { set = []; count = 0 }))) (lt-ltb packed.word (2 ^ 127) less)

pub kept_elsewhere : (coding : Coding) (plain : List Counted) (packed : Packed) (index : ℕ) → packed.word ≡ 2 ^ 127 + index → kept coding plain packed ≡ get_or plain index (record { set = []; count = 0 })
kept_elsewhere coding plain packed index is = grind (arith, common_steps)

-- a set of a word rises
pub packed_rises : (coding : Coding) (packed : Packed) → IsCoding coding → IsPacked coding packed → IsRising (unpacked coding packed).set
packed_rises coding packed is set = items_rise coding.items _ is.rises set.code.rises (λ index m. set.code.below index (has-from_Member _ index m))

module _ (coding : Coding) (plain : List Counted) (packed : Packed) (is : IsPacked coding packed) where
  pub packed_is_kept : IsKept coding plain packed
  packed_is_kept = record { small = omega (arith, is.here); here = λ less. is; elsewhere = λ above. absurd (omega (arith, is.here, above)) }

  pub packed_pushed : (words : List Packed) → map (kept coding plain) (words ++ packed ∷ []) ≡ map (kept coding plain) words ++ unpacked coding packed ∷ []
  packed_pushed words = map-append (kept coding plain) words (packed ∷ []) ∙ ap (λ c. map (kept coding plain) words ++ c ∷ []) (kept_here coding plain packed is.here)

-- ---- more sets elsewhere

module _ (coding : Coding) (plain more : List Counted) where
  pub IsKept-more : (packed : Packed) → IsKept coding plain packed → IsKept coding (plain ++ more) packed
  IsKept-more packed is = record { small = is.small; here = is.here; elsewhere = λ above. omega (arith, is.elsewhere above, length-append plain more) }

  pub kept_more : (packed : Packed) → IsKept coding plain packed → kept coding (plain ++ more) packed ≡ kept coding plain packed
  kept_more packed is = grind (arith, common_steps)

  pub words_kept : (words : List Packed) → All (IsKept coding plain) words → All (IsKept coding (plain ++ more)) words
  words_kept words all k d inside = IsKept-more (get_or words k d) (all k d inside)

  pub sets_kept : (words : List Packed) → All (IsKept coding plain) words → map (kept coding (plain ++ more)) words ≡ map (kept coding plain) words
  sets_kept words all = map_members (kept coding (plain ++ more)) (kept coding plain) words
      (λ word m. kept_more word (at_Member (IsKept coding plain) word words (recursion_from_All (IsKept coding plain) words all) m))

-- a set that is added elsewhere
module _ (coding : Coding) (plain : List Counted) (words : List Packed) (one : Counted) (word : Packed) (all : All (IsKept coding plain) words)
    (at : word.word ≡ 2 ^ 127 + length plain) (few : length plain < 2 ^ 63) where
  pub word_pushed : IsKept coding (plain ++ one ∷ []) word
  word_pushed = grind (arith, common_steps)

  pub sets_pushed : map (kept coding (plain ++ one ∷ [])) (words ++ word ∷ []) ≡ map (kept coding plain) words ++ one ∷ []
  sets_pushed = grind (arith, common_steps, map-append, sets_kept, kept_elsewhere, get_or-append_seam)

-- ---- the set at an index

module _ (coding : Coding) (plain : List Counted) (words : List Packed) (index : ℕ) (word : Packed) (inside : index < length words) (is : word ≡ get_or words index word) where
  pub set_here : word.word < 2 ^ 127 → get_or (map (kept coding plain) words) index (record { set = []; count = 0 }) ≡ unpacked coding word
  set_here less = get_or-map (kept coding plain) words index word (record { set = []; count = 0 }) inside ∙ ap (kept coding plain) (sym is) ∙ kept_here coding plain word less

  pub word_kept : All (IsKept coding plain) words → IsKept coding plain word
  word_kept all = subst (IsKept coding plain) (sym is) (all index word inside)

-- ---- words that are written back after a sort

module _ (coding : Coding) (plain : List Counted) (words moved : List Packed) (size : ℕ) (whole : size ≡ length words) (is : IsPermutation words moved) where
  written : take size (moved ++ drop (length moved) words) ≡ moved
  written = grind (arith, common_steps, length_permutation, take-append-le, take_all)

  pub words_moved : All (IsKept coding plain) words → All (IsKept coding plain) (take size (moved ++ drop (length moved) words))
  words_moved all = subst (All (IsKept coding plain)) (sym written) (All-permutation (IsKept coding plain) words moved is all)

  pub sets_moved : IsPermutation (map (kept coding plain) words) (map (kept coding plain) (take size (moved ++ drop (length moved) words)))
  sets_moved = subst (λ l. IsPermutation (map (kept coding plain) words) (map (kept coding plain) l)) (sym written) (IsPermutation-map (kept coding plain) words moved is)
