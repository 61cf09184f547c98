use Rattle.std.proofs.Common.{◌≡◌, ◌≤◌, ◌<◌, ◌+◌, ◌-◌, ◌^◌, ◌++◌, ◌∷◌, [], ℕ, List, decimal, drop, length, take, ap, sym, ◌∙◌, arith}
use Rattle.std.specs.Prelude.{replicate}
use Rattle.std.proofs.lemmas.Fmt.{length-decimal-le}
use Rattle.std.proofs.lemmas.List.{append_assoc, length-append}
use Rattle.basket_report.proofs.TextLemmas.{front_is}
use Rattle.basket_report.proofs.item_text.ItemText.new.Goals as goal

-- a number of 32 bits has 10 digits at most
short : (n : ℕ) → n < 2 ^ 32 → length (decimal n) ≤ 10
short n fits = length-decimal-le 10 n (omega arith) (omega (arith, fits)) (omega (arith, fits))

pub write_digits-start-requires : goal.write_digits-start-requires
write_digits-start-requires c = let s = short c.from.result (omega (arith, c.from.ensures)) in (omega arith, omega arith)

pub invariant_of-result : goal.invariant_of-result
invariant_of-result c =
    let number = c.from.result in
    let s = short number (omega (arith, c.from.ensures)) in
    let start = c.write_digits-start.result in
    let ended = c.write_digits-start.ensures.start in
    let scratch = c.write_digits-start.new.buf in
    let text = decimal number ++ 32 ∷ [] in
    let rest : List ℕ = replicate 15 32 in
    let made : drop start scratch ≡ text ++ rest = c.write_digits-start.ensures.written ∙ sym (append_assoc (decimal number) (32 ∷ []) rest) in
    record {
      within = omega (arith, s, ended);
      is = ap (take (11 - start)) c.copy_from_slice.ensures.after
          ∙ front_is scratch text rest start (start + 16 - start) (11 - start) made (omega (arith, s, ended, length-append (decimal number) (32 ∷ []))) (omega (arith, s, ended))
          ∙ ap (λ n. decimal n ++ 32 ∷ []) c.from.ensures;
    }
