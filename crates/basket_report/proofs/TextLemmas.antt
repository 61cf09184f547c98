-- Texts at the front of a room, and items with a space after each.
use Rattle.std.proofs.Common.{◌≡◌, ◌∙◌, ◌+◌, ◌≤◌, ◌++◌, ◌∷◌, [], ℕ, List, codes, decimal, drop, length, take, take-add, ap, arith, suc}
use Rattle.std.proofs.lemmas.Grind.{common_steps}
use Rattle.std.proofs.lemmas.List.{append_assoc}
use Rattle.std.proofs.lemmas.List.Concat.{flat_map-append}
use Rattle.basket_report.specs.Lines.{items_text}

-- what is after a front, as far as it goes
pub take_past : (xs ys : List ℕ) (n : ℕ) → take (length xs + n) (xs ++ ys) ≡ xs ++ take n ys
take_past [] ys n = let e : 0 + n ≡ n = omega arith in ap (λ m. take m ys) e
take_past (x ∷ xs) ys n = let e : suc (length xs) + n ≡ suc (length xs + n) = omega arith in ap (λ m. take m (x ∷ (xs ++ ys))) e ∙ ap (λ l. x ∷ l) (take_past xs ys n)

-- a text that was made somewhere stands at the front of the room that is copied from there
pub front_is : (scratch text rest : List ℕ) (start room count : ℕ) → drop start scratch ≡ text ++ rest → length text ≡ count → count ≤ room
    → take count (take room (drop start scratch)) ≡ text
front_is scratch text rest start room count made long few = grind (arith, common_steps)

-- so many items more
pub items_further : (items : List ℕ) (index count : ℕ) → items_text (take (index + count) items) ≡ items_text (take index items) ++ items_text (take count (drop index items))
items_further items index count =
    ap items_text (take-add index count items) ∙ flat_map-append (λ item. decimal item ++ 32 ∷ []) (take index items) (take count (drop index items))

-- the parts of the line of a rule
pub rule_parts : (report sides count ratios : List ℕ) → ((report ++ sides) ++ (40 ∷ count ++ 41 ∷ [])) ++ (32 ∷ ratios ++ 10 ∷ [])
    ≡ report ++ (sides ++ codes "(" ++ count ++ codes ") " ++ ratios ++ 10 ∷ [])
rule_parts report sides count ratios = simp append_assoc
