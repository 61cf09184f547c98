use Rattle.std.proofs.Common.{◌≡◌, [], filter, sym, ap, cond, ◌∙◌, arith}
use Rattle.std.proofs.lemmas.Grind.{common_steps}
use Rattle.std.specs.List.{list_any, range_with_len}
use Rattle.std.proofs.lemmas.Bool.{eq-eqb, ne_eqb}
use Rattle.std.proofs.lemmas.List.{map-append}
use Rattle.std.proofs.lemmas.List.Elements.{All-push}
use Rattle.mine_rows.specs.Planes.{bits_of, has_bit}
use Rattle.mine_rows.proofs.planes.planes_of.Goals as goal
use Rattle.mine_rows.proofs.planes.planes_of.Goals.{then-bits-bit-eq1+in_ok-plane_of+in_ok-push}
use Rattle.basket_sets.proofs.theory.Ranges.{range_drops, range_keeps}

pub loop-bit-preserved : goal.loop-bit-preserved
loop-bit-preserved c = grind (arith, common_steps, map-append, range_keeps, eq-eqb, All-push, range_drops, ne_eqb)

pub returns : goal.returns
unfolding bits_of
returns c =
    let weights = c.args.weights.now in
    let last : c.loop-bit.bit ≡ 40 = omega (arith, c.loop-bit-test.false, c.loop-bit.auto.bit-end) in
    record {
      bits = c.loop-bit.invariant.bits ∙ ap (λ n. filter (λ bit. list_any (has_bit bit) weights) (range_with_len 0 n)) last
          ∙ ap (λ b. cond b [] (filter (λ bit. list_any (has_bit bit) weights) (range_with_len 0 40))) (sym c.if-are_ones.false);
      words = c.loop-bit.invariant.words;
    }
