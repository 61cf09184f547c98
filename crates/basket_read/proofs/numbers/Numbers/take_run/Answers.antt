use Rattle.std.proofs.Common.{◌+◌, ◌++◌, ◌-◌, take, drop, length, ltb, refl, ap, subst, ◌∙◌, arith}
use Rattle.std.proofs.lemmas.List.{length-take, length-take-le}
use Rattle.basket_read.specs.Numbers.{NumbersState, IsNumbersSoFar}
use Rattle.basket_read.proofs.NumbersLemmas.{goes_on, begins, adds, begun_kept}
use Rattle.basket_read.proofs.RunLemmas.{within_both, after_both}
use Rattle.basket_read.proofs.numbers.Numbers.take_run.Goals as goal

pub returns-in-Some-clause-numbers : goal.returns-in-Some-clause-numbers
returns-in-Some-clause-numbers c = λ text s.
    let digits = c.with_digits-digits.ensures in
    goes_on c.args.self.now text s _ c.in-Some.value c.with_digits-digits.result.value (take c.with_digits-digits.result.count c.args.bytes.now) c.in-Some.is digits.digits digits.bound digits.value refl

pub returns-then-blanks-eq0-clause-numbers : goal.returns-then-blanks-eq0-clause-numbers
returns-then-blanks-eq0-clause-numbers c = λ text s.
    let i = c.loop-self.taken in
    let count = c.number_at-digits.result.count in
    let rest = take (length c.args.bytes.now - i) (drop i c.args.bytes.now) in
    let digits = c.number_at-digits.ensures in
    subst (IsNumbersSoFar c.begin.new.self) (after_both text c.args.bytes.now i count)
    (begins c.loop-self.self (text ++ take i c.args.bytes.now) (c.loop-self.invariant.numbers text s) c.loop-self.invariant.between (take count rest) count c.number_at-digits.result.value
    (length-take-le count rest digits.within) digits.digits digits.value digits.bound c.begin.new.self c.begin.ensures)

pub loop-self-preserved : goal.loop-self-preserved
loop-self-preserved c =
    let i = c.loop-self.taken in
    let count = c.number_at-digits.result.count in
    let blanks = c.blanks_after-blanks.result in
    let rest = take (length c.args.bytes.now - i) (drop i c.args.bytes.now) in
    let after = take (length c.args.bytes.now - (i + count)) (drop (i + count) c.args.bytes.now) in
    let digits = c.number_at-digits.ensures in
    let within = within_both c.args.bytes.now i count c.loop-self.invariant.within digits.within in
    record {
      within = within_both c.args.bytes.now (i + count) blanks within c.blanks_after-blanks.ensures.within;
      between = ap (λ (s : NumbersState). s.begun) c.in_ok-add.ensures ∙ begun_kept (ltb 0 count) c.loop-self.self.begun _ c.loop-self.self.ended.items ∙ c.loop-self.invariant.between;
      numbers = λ text s.
          subst (IsNumbersSoFar c.add.new.self)
          (ap (λ l. l ++ take blanks after) (after_both text c.args.bytes.now i count) ∙ after_both text c.args.bytes.now (i + count) blanks)
          (adds c.loop-self.self (text ++ take i c.args.bytes.now) (c.loop-self.invariant.numbers text s) c.loop-self.invariant.between (take count rest) count c.number_at-digits.result.value
          (length-take-le count rest digits.within) digits.digits digits.value digits.bound c.add.new.self (take blanks after) c.blanks_after-blanks.ensures.blanks
          (λ none. absurd (let some = c.if-blanks-eq0.false in let few = c.blanks_after-blanks.ensures.within in omega (arith, length-take blanks after, ap length none)))
          c.in_ok-add.ensures);
    }
