use Rattle.std.proofs.Common.{◌≡◌, ◌*◌, ◌/◌, ◌%◌, ◌^◌, ap, ◌∙◌, arith}
use Rattle.basket_lists.specs.Packed.{Coding}
use Rattle.basket_lists.proofs.LongerLemmas.{greater_more, is_between, next_rest}
use Rattle.basket_lists.proofs.known.KnownItems.digits_above.Goals as goal

pub returns-then-last-index-2 : goal.returns-then-last-index-2
returns-then-last-index-2 c =
    let bits = c.args.self.now.item_bits in
    let above = c.loop-above.above in
    let last : c.low_bits-last.result ≡ c.args.number / 2 ^ (above * bits) % 2 ^ bits =
    c.low_bits-last.ensures ∙ ap (λ b. c.loop-above.rest % 2 ^ b) (ap (λ (k : Coding). k.item_bits) c.self.view_is) ∙ ap (λ n. n % 2 ^ bits) c.loop-above.invariant.rest in
    is_between bits c.args.size c.args.number c.args.index above c.loop-above-test.true c.requires (omega (arith, last, c.if-last-index-2.true)) c.loop-above.invariant.greater

pub loop-above-preserved : goal.loop-above-preserved
loop-above-preserved c =
    let bits = c.args.self.now.item_bits in
    let above = c.loop-above.above in
    let same = ap (λ (k : Coding). k.item_bits) c.self.view_is in
    let last : c.low_bits-last.result ≡ c.args.number / 2 ^ (above * bits) % 2 ^ bits =
    c.low_bits-last.ensures ∙ ap (λ b. c.loop-above.rest % 2 ^ b) same ∙ ap (λ n. n % 2 ^ bits) c.loop-above.invariant.rest in
    record {
      few = omega (arith, c.loop-above-test.true);
      rest = ap (λ b. c.loop-above.rest / 2 ^ b) same ∙ ap (λ n. n / 2 ^ bits) c.loop-above.invariant.rest ∙ next_rest bits c.args.number above;
      greater = greater_more bits c.args.number c.args.index above (omega (arith, last, c.if-last-index.false, c.if-last-index-2.false)) c.loop-above.invariant.greater;
    }
