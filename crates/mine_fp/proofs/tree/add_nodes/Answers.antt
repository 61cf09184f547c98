use Rattle.std.proofs.Common.{◌≡◌, ◌+◌, ◌-◌, ◌++◌, ◌∷◌, [], cond, is_ok, length, map, sym, ap, ◌∙◌, arith}
use Rattle.std.specs.List.{range_with_len}
use Rattle.std.proofs.lemmas.List.{append_assoc}
use Rattle.std.proofs.lemmas.List.FromFn.{map-range_with_len_more}
use Rattle.mine_fp.proofs.NodeLemmas.{made_at, with_made}
use Rattle.mine_fp.proofs.tree.add_nodes.Goals as goal

pub loop-depth-preserved : goal.loop-depth-preserved
loop-depth-preserved c =
    let made = made_at c.len-start.result c.args.weight in
    let depth = c.loop-depth.depth in
    let known = c.args.known in
    let now = c.loop-depth.nodes.items in
    let old = c.args.nodes.now.items in
    let next : depth - known + 1 ≡ depth + 1 - known = omega (arith, c.loop-depth.auto.depth) in
    record {
      room = omega (arith, c.loop-depth.invariant.room, c.push.ensures.len, c.push.ensures.capacity);
      made = c.push.ensures.items ∙ ap (λ b. cond b (now ++ made depth ∷ []) now) (ap is_ok c.unwrap-in-loop-depth.ensures) ∙ ap (λ l. l ++ made depth ∷ []) c.loop-depth.invariant.made
          ∙ append_assoc old (map made (range_with_len known (depth - known))) (made depth ∷ [])
          ∙ ap (λ l. old ++ l) (sym (map-range_with_len_more made known (depth - known) depth (omega arith)) ∙ ap (λ n. map made (range_with_len known n)) next);
    }

pub returns : goal.returns
returns c = λ total less are.
    let ranks = c.args.ranks.now.items in
    let path = c.args.path.now in
    let items = c.extend_from_slice.ensures.items ∙ ap (λ b. cond b (ranks ++ path) ranks) (c.extend_from_slice.ensures.succeeds (omega arith)) in
    let last : c.loop-depth.depth - c.args.known ≡ length path - c.args.known = omega arith in
    with_made ranks path c.args.weight c.args.known total c.args.nodes.now.items c.requires.known less are c.len-start.result c.loop-depth.nodes.items c.extend_from_slice.new.self.items
    (omega (arith, c.len-start.ensures)) items
    (c.loop-depth.invariant.made ∙ ap (λ n. c.args.nodes.now.items ++ map (made_at c.len-start.result c.args.weight) (range_with_len c.args.known n)) last)
