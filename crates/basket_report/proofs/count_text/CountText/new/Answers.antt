use Rattle.std.proofs.Common.{rules, ◌≡◌, ◌≤◌, ◌<◌, ◌+◌, ◌-◌, ◌^◌, ◌++◌, ◌∷◌, [], ℕ, List, decimal, drop, length, set, take, ap, sym, ◌∙◌, arith}
use Rattle.std.specs.Prelude.{replicate}
use Rattle.std.proofs.lemmas.Fmt.{length-decimal-le}
use Rattle.std.proofs.lemmas.List.{append_assoc, drop-set, length-append}
use Rattle.basket_report.proofs.TextLemmas.{front_is}
use Rattle.basket_report.proofs.count_text.CountText.new.Goals as goal

-- a number of 64 bits has 20 digits at most
short : (n : ℕ) → n < 2 ^ 64 → length (decimal n) ≤ 20
short n fits = search (rules, length-decimal-le 20)

pub write_digits-start-requires : goal.write_digits-start-requires
write_digits-start-requires c = let s = short c.args.count (omega arith) in (omega arith, omega arith)

pub overflow_sub-start : goal.overflow_sub-start
overflow_sub-start c = let s = short c.args.count (omega arith) in omega (arith, c.write_digits-start.ensures.start)

pub invariant_of-result : goal.invariant_of-result
invariant_of-result c =
    let number = c.args.count in
    let s = short number (omega arith) in
    let buf = c.write_digits-start.new.buf in
    let end = c.write_digits-start.result in
    let start = end - 1 in
    let ended = c.write_digits-start.ensures.start in
    let below : start < length buf = omega (arith, s, ended) in
    let next : start + 1 ≡ end = omega (arith, s, ended) in
    let scratch = set buf start 40 in
    let front = 40 ∷ (decimal number ++ 41 ∷ []) in
    let text = 40 ∷ (decimal number ++ 41 ∷ 10 ∷ []) in
    let rest : List ℕ = replicate 30 10 in
    let made : drop start scratch ≡ text ++ rest = drop-set buf start 40 below
    ∙ ap (λ l. 40 ∷ l) (ap (λ n. drop n buf) next ∙ c.write_digits-start.ensures.written ∙ sym (append_assoc (decimal number) (41 ∷ 10 ∷ []) rest)) in
    let again : text ++ rest ≡ front ++ 10 ∷ rest = ap (λ l. 40 ∷ l) (append_assoc (decimal number) (41 ∷ 10 ∷ []) rest ∙ sym (append_assoc (decimal number) (41 ∷ []) (10 ∷ rest))) in
    record {
      within = omega (arith, s, ended);
      is = ap (take (22 - start)) c.copy_from_slice.ensures.after
          ∙ front_is scratch front (10 ∷ rest) start (start + 32 - start) (22 - start) (made ∙ again) (omega (arith, s, ended, length-append (decimal number) (41 ∷ []))) (omega (arith, s, ended));
      ended = ap (take (22 - start + 1)) c.copy_from_slice.ensures.after
          ∙ front_is scratch text rest start (start + 32 - start) (22 - start + 1) made (omega (arith, s, ended, length-append (decimal number) (41 ∷ 10 ∷ []))) (omega (arith, s, ended));
    }
