use Rattle.std.proofs.Common.{◌≡◌, ◌≤◌, ◌+◌, true, false, get_or, leb, length, nat_eq, drop, refl, sym, ap, ◌∙◌, arith}
use Rattle.std.proofs.lemmas.Grind.{common_steps}
use Rattle.std.specs.List.{common_prefix_len}
use Rattle.std.proofs.lemmas.List.{append-nil, drop_all, length-drop, take_all}
use Rattle.std.proofs.lemmas.Bool.{le-leb, lt-leb}
use Rattle.mine_fp.specs.declared.tree.Node.{Node}
use Rattle.mine_fp.specs.Tree.{raised}
use Rattle.mine_fp.proofs.NodeLemmas.{begins_is, raised_more, rest_at}
use Rattle.mine_fp.proofs.tree.add_weight.Goals as goal
use Rattle.mine_fp.proofs.tree.add_weight.Goals.{then-node-start, else-node-start, then-node-shared, else-node-shared}

abbrev none : Node
none = record { start = 0; depth = 0; count = 0 }

pub loop-node-preserved : goal.loop-node-preserved
loop-node-preserved c =
    let ranks = c.args.ranks.now in
    let path = c.args.path.now in
    let nodes = c.args.nodes.now in
    let k = c.loop-node.node-index in
    let node = get_or c.loop-node.nodes k none in
    let so_far = c.loop-node.invariant in
    let same = rest_at (raised ranks path c.args.weight) nodes c.loop-node.nodes k none c.loop-node-test.true so_far.raised in
    let inside : node.start + node.depth ≤ length ranks = omega (arith, c.requires.inside k none c.loop-node-test.true, ap (λ (n : Node). n.start) same, ap (λ (n : Node). n.depth) same) in
    let start : c.if-node-start.start ≡ node.start = elim c.if-node-start.branch [
      | then-node-start w ↦ w.start-is
      | else-node-start w ↦ w.start-is ∙ sym w.if-node-start.false
    ] in
    let shared : c.if-node-start.shared ≡ common_prefix_len nat_eq (drop node.start ranks) path = elim c.if-node-start.branch [
      | then-node-start w ↦ w.shared-is ∙ w.shared_ranks-shared-then-node-start.ensures
      | else-node-start w ↦ w.shared-is ∙ so_far.shared ∙ ap (λ s. common_prefix_len nat_eq (drop s ranks) path) (sym w.if-node-start.false)
    ] in
    let shared_is = shared ∙ ap (λ s. common_prefix_len nat_eq (drop s ranks) path) (sym start) in
    let test = begins_is node.depth (drop node.start ranks) path (omega (arith, length-drop node.start ranks)) ∙ ap (leb node.depth) (sym shared) in
    let next = raised_more ranks path c.args.weight nodes c.loop-node.nodes k none c.loop-node-test.true (omega (arith, c.loop-node-test.true, c.loop-node.auto.nodes)) so_far.raised in
    elim c.if-node-shared.branch [
      | then-node-shared w ↦
          (let to = next true (node.count + c.args.weight) inside (test ∙ le-leb node.depth c.if-node-start.shared w.if-node-shared.true) refl in
          record { shared = shared_is; raised = w.nodes-is ∙ to.0; known = omega (arith, w.known-is, w.max-known.ensures, so_far.known, to.1) })
      | else-node-shared w ↦
          (let to = next false node.count inside (test ∙ lt-leb node.depth c.if-node-start.shared w.if-node-shared.false) (omega arith) in
          record { shared = shared_is; raised = w.nodes-is ∙ to.0; known = omega (arith, w.known-is, so_far.known, to.1) })
    ]

pub returns : goal.returns
returns c = let nodes = c.args.nodes.now in let k = c.loop-node.node-index in grind (arith, common_steps, take_all, drop_all, append-nil)
