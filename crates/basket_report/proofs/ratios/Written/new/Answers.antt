use Rattle.std.proofs.Common.{rules, ◌≡◌, ◌≤◌, ◌<◌, ◌+◌, ◌-◌, ◌/◌, ◌^◌, ◌++◌, ◌∷◌, ℕ, List, decimal, drop, length, take, ap, sym, ◌∙◌, arith}
use Rattle.std.proofs.lemmas.Grind.{common_steps}
use Rattle.std.specs.Prelude.{replicate}
use Rattle.std.proofs.Math.ListN.{length-set}
use Rattle.std.proofs.Math.Nat.{div-le_self}
use Rattle.std.proofs.lemmas.Fmt.{length-decimal-le}
use Rattle.std.proofs.lemmas.List.{append_assoc, drop-set, length-append}
use Rattle.basket_core.specs.Fraction.{common_divisor, lowest}
use Rattle.basket_report.specs.Texts.{ratio_text}
use Rattle.basket_report.proofs.TextLemmas.{front_is}
use Rattle.basket_report.proofs.ratios.Written.new.Goals as goal

-- a number of 64 bits has 20 digits at most
short : (n : ℕ) → n < 2 ^ 64 → length (decimal n) ≤ 20
short n fits = search (rules, length-decimal-le 20)

-- nor has one that it is divided to
divided : (n most divisor : ℕ) → n ≡ most / divisor → most < 2 ^ 64 → length (decimal n) ≤ 20
divided n most divisor is fits = let small : most / divisor ≤ most = div-le_self most divisor in short n (omega (arith, is, small, fits))

pub write_digits-slash-requires : goal.write_digits-slash-requires
write_digits-slash-requires c = grind (arith, common_steps, divided)

pub overflow_sub-slash : goal.overflow_sub-slash
overflow_sub-slash c = grind (arith, common_steps, divided)

pub write_digits-start-requires : goal.write_digits-start-requires
write_digits-start-requires c = grind (arith, common_steps, divided, length-set)

pub invariant_of-result : goal.invariant_of-result
invariant_of-result c =
    let numerator = c.numerator.result in
    let denominator = c.denominator.result in
    let s = divided denominator c.from-2.result (common_divisor c.from.result c.from-2.result) (c.denominator.ensures.value ∙ ap (λ r. r.denominator) c.reduced-fraction.ensures.value) (omega (arith, c.from-2.ensures)) in
    let buf = c.write_digits-slash.new.buf in
    let end = c.write_digits-slash.result in
    let slash = end - 1 in
    let ended = c.write_digits-slash.ensures.start in
    let started = c.write_digits-start.ensures.start in
    let below : slash < length buf = omega (arith, s, ended) in
    let next : slash + 1 ≡ end = omega (arith, s, ended) in
    let start = c.write_digits-start.result in
    let scratch = c.write_digits-start.new.buf in
    let text = decimal numerator ++ 47 ∷ decimal denominator in
    let rest : List ℕ = replicate 41 0 in
    let made : drop start scratch ≡ text ++ rest = c.write_digits-start.ensures.written
    ∙ ap (λ l. decimal numerator ++ l) (drop-set buf slash 47 below ∙ ap (λ l. 47 ∷ l) (ap (λ n. drop n buf) next ∙ c.write_digits-slash.ensures.written))
    ∙ sym (append_assoc (decimal numerator) (47 ∷ decimal denominator) rest) in
    let long : length text ≡ 41 - start = omega (arith, s, ended, started, length-append (decimal numerator) (47 ∷ decimal denominator)) in
    record {
      within = omega (arith, s, ended, started);
      is = ap (take (41 - start)) c.copy_from_slice.ensures.after
          ∙ front_is scratch text rest start (start + 41 - start) (41 - start) made long (omega (arith, s, ended, started))
          ∙ (λ i. decimal (c.numerator.ensures i) ++ 47 ∷ decimal (c.denominator.ensures.value i))
          ∙ ap ratio_text (c.reduced-fraction.ensures.value ∙ (λ i. lowest (c.from.ensures i) (c.from-2.ensures i)));
    }
