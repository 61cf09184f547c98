-- The mark at the start of a text, and where a text may be cut.
use Rattle.std.proofs.Common.{◌≡◌, ℕ, ◌+◌, ◌-◌, ◌≤◌, ◌<◌, Bool, true, false, cond, eqb, List, [], ◌∷◌, ◌++◌, length, get_or, take, drop, refl, sym, ap, ◌∙◌, arith}
use Rattle.std.proofs.lemmas.Grind.{common_steps}
use Rattle.std.specs.List.{starts_with}
use Rattle.std.proofs.lemmas.List.{take_more, take_all, length-drop, get_or-drop}
use Rattle.csv.specs.Reading.{strip_bom, is_bom}
use Rattle.basket_read.specs.Fimi.{text_of}
use Rattle.basket_csv.specs.Parts.{IsCut}
use Rattle.basket_csv.specs.Record.{last_after}
use Rattle.basket_csv.proofs.LastLemmas.{last_push}

pub stripped : (bytes : List ℕ) → length (strip_bom bytes) ≤ length bytes
unfolding strip_bom
stripped h1 = grind (arith, common_steps)

-- a mark at the start of a text that ends with a line feed is in that text
pub stripped_part : (bytes more : List ℕ) → eqb (last_after 10 bytes) 10 ≡ true → strip_bom more ≡ more → strip_bom (bytes ++ more) ≡ strip_bom bytes ++ more
unfolding strip_bom
stripped_part h1 h2 h3 h4 = grind (arith, common_steps)

-- and what is left ends with a line feed too
pub ends_stripped : (bytes : List ℕ) → eqb (last_after 10 bytes) 10 ≡ true → eqb (last_after 10 (strip_bom bytes)) 10 ≡ true
unfolding strip_bom
ends_stripped [] ends = ends
ends_stripped (a ∷ []) ends = ends
ends_stripped (a ∷ b ∷ []) ends = ends
ends_stripped (a ∷ b ∷ c ∷ bytes) ends = at (is_bom a b c) bytes ends
  where
    at : (is : Bool) (bytes : List ℕ) → eqb (last_after c bytes) 10 ≡ true → eqb (last_after 10 (cond is bytes (a ∷ b ∷ c ∷ bytes))) 10 ≡ true
    at true [] ends = refl
    at true (d ∷ bytes) ends = ends
    at false bytes ends = ends

-- ---- the end of a part

-- the text of some bytes has no mark
pub text_is_stripped : (bytes : List ℕ) → text_of bytes ≡ strip_bom bytes
unfolding strip_bom
text_is_stripped h1 = grind (arith, common_steps)

pub no_mark : (bytes : List ℕ) → starts_with eqb bytes (0xEF ∷ 0xBB ∷ 0xBF ∷ []) ≡ false → strip_bom bytes ≡ bytes
no_mark bytes none = sym (text_is_stripped bytes) ∙ ap (λ is. cond is (drop 3 bytes) bytes) none

-- what is left after an index
left_after : (bytes : List ℕ) (index : ℕ) → take (length bytes - index) (drop index bytes) ≡ drop index bytes
left_after bytes index = take_all (length bytes - index) (drop index bytes) (let left = length-drop index bytes in omega (arith, left))

-- a text may be cut after a line feed, if it doesn't go on with the mark
pub cut_after : (bytes : List ℕ) (index more : ℕ) → more < length (take (length bytes - index) (drop index bytes)) → get_or (take (length bytes - index) (drop index bytes)) more 0 ≡ 10
    → starts_with eqb (take (length bytes - (index + more + 1)) (drop (index + more + 1) bytes)) (0xEF ∷ 0xBB ∷ 0xBF ∷ []) ≡ false
    → IsCut (take (index + more + 1) bytes) (drop (index + more + 1) bytes)
cut_after bytes index more within is none = grind (arith, common_steps, left_after, length-drop, get_or-drop, take_more, last_push, no_mark)
