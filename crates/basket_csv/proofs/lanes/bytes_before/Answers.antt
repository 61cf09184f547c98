use Rattle.std.proofs.Common.{eqb, sym, ◌∙◌, arith, w8}
use Rattle.std.proofs.lemmas.Simd.{bitmask_splat, leading_from_mask_l, length-chunk, run_in_chunk_fails, run_in_chunk_le, run_in_chunk_stops}
use lib.Lanes.{chunk}
use Rattle.basket_csv.proofs.LaneLemmas.{first_equal}
use Rattle.basket_csv.proofs.lanes.bytes_before.Goals as goal

pub returns-then-equal-eq0-clause-before : goal.returns-then-equal-eq0-clause-before
returns-then-equal-eq0-clause-before c =
    let text = c.args.text.now in
    let size = length-chunk c.args.from 16 text c.requires in
    let mask = bitmask_splat w8 eqb (chunk c.args.from 16 text) 16 c.args.byte size (omega arith) in
    run_in_chunk_fails (λ x. eqb x c.args.byte) text c.args.from 16 16 0 c.requires (sym (leading_from_mask_l (λ x. eqb x c.args.byte) (chunk c.args.from 16 text) (sym mask ∙ c.if-equal-eq0.true) ∙ size))

pub returns-else-equal-eq0-clause-within : goal.returns-else-equal-eq0-clause-within
returns-else-equal-eq0-clause-within c =
    let text = c.args.text.now in
    let mask = bitmask_splat w8 eqb (chunk c.args.from 16 text) 16 c.args.byte (length-chunk c.args.from 16 text c.requires) (omega arith) in
    run_in_chunk_le (λ x. eqb x c.args.byte) text c.args.from 16 _ 0 c.requires (first_equal text c.args.from c.args.byte _ c.requires mask c.if-equal-eq0.false)

pub returns-else-equal-eq0-clause-before : goal.returns-else-equal-eq0-clause-before
returns-else-equal-eq0-clause-before c =
    let text = c.args.text.now in
    let mask = bitmask_splat w8 eqb (chunk c.args.from 16 text) 16 c.args.byte (length-chunk c.args.from 16 text c.requires) (omega arith) in
    run_in_chunk_fails (λ x. eqb x c.args.byte) text c.args.from 16 _ 0 c.requires (first_equal text c.args.from c.args.byte _ c.requires mask c.if-equal-eq0.false)

pub returns-else-equal-eq0-clause-found : goal.returns-else-equal-eq0-clause-found
returns-else-equal-eq0-clause-found c =
    let text = c.args.text.now in
    let mask = bitmask_splat w8 eqb (chunk c.args.from 16 text) 16 c.args.byte (length-chunk c.args.from 16 text c.requires) (omega arith) in
    run_in_chunk_stops (λ x. eqb x c.args.byte) text c.args.from 16 _ 0 c.requires (first_equal text c.args.from c.args.byte _ c.requires mask c.if-equal-eq0.false)
