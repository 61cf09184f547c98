-- Texts in a room, one after another.
use Rattle.std.proofs.Common.{◌≡◌, ◌∙◌, ◌+◌, ◌≤◌, ◌++◌, ℕ, List, drop, length, take, ap, sym, arith, length-take-le}
use Rattle.std.proofs.lemmas.Grind.{common_steps}
use Rattle.std.proofs.lemmas.List.{take-take}
use Rattle.std.proofs.lemmas.Simd.{length-put_chunk, take_more_put_chunk}
use lib.Lanes.{put_chunk}
use Rattle.basket_report.specs.Room.{IsPut}
use Rattle.basket_report.proofs.TextLemmas.{take_past}

-- the front of a small room was copied after the first bytes, and so many of its bytes count
pub front_put : (room text : List ℕ) (start wide count : ℕ) → wide ≤ length text → start + wide ≤ length room → count ≤ wide
    → IsPut room (put_chunk start room (take wide text)) start (take count text) (start + count)
front_put room text start wide count long fits few =
    let copied = take wide text in
    let front = length-take-le start room (omega arith) in
    let all = length-take-le wide text long in
    record {
      bytes = sym (take-take (start + count) (start + wide) (put_chunk start room copied) (omega arith))
          ∙ ap (take (start + count)) (take_more_put_chunk start room copied (start + wide) (omega arith) fits)
          ∙ ap (λ n. take (n + count) (take start room ++ copied)) (sym front) ∙ take_past (take start room) copied count
          ∙ ap (λ l. take start room ++ l) (take-take count wide text few);
      same = length-put_chunk start room copied;
    }

-- a vector whose bytes were lent, with a text put there
pub put_back : (items old new text : List ℕ) (start end count : ℕ) → IsPut old new start text end → old ≡ items → length old ≡ count
    → take end (take count (new ++ drop (length new) items)) ≡ take start items ++ text
put_back items old new text start end count put are long = grind (arith, common_steps)
