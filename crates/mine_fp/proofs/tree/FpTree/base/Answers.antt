use Rattle.std.proofs.Common.{◌≡◌, ◌++◌, ◌∷◌, [], ◌+◌, ◌-◌, ℕ, List, get_or, map, cond, sym, ap, ◌∙◌, drop, take, arith}
use Rattle.std.specs.List.{flat_map}
use Rattle.std.proofs.lemmas.Grind.{flat_map-append}
use Rattle.std.proofs.lemmas.List.{append-nil, map_push, take_more}
use Rattle.std.specs.declared.vec.Vec.{Vec}
use Rattle.std.specs.declared.alloc.Global.{Global}
use Rattle.mine_classes.specs.Classes.{ends_in}
use Rattle.mine_fp.specs.declared.tree.Node.{Node}
use Rattle.mine_fp.specs.Tree.{front, node_of}
use Rattle.mine_fp.proofs.tree.FpTree.base.Goals as goal
use Rattle.mine_fp.proofs.tree.FpTree.base.Goals.{in-Some+in_ok-to_vec+in_ok-push, in_default}

-- an entry of a base, without where its path lies in memory
abbrev shown : Vec ℕ Global × ℕ → List ℕ × ℕ
shown entry = (entry.0.items, entry.1)

pub loop-node-preserved : goal.loop-node-preserved
loop-node-preserved c =
    let none : Node = record { start = 0; depth = 0; count = 0 } in
    let ranks = c.self.inside.ranks.items in
    let nodes = c.deref-node-items.result.now in
    let k = c.loop-node.node-index in
    let node : Node = get_or nodes k none in
    let path = (node_of ranks node).0 in
    let one : List ℕ × ℕ → List (List ℕ × ℕ) = λ n. cond (ends_in c.args.rank n.0) ((front n.0, n.1) ∷ []) [] in
    let more = ap (λ l. flat_map one (map (node_of ranks) l)) (take_more nodes k none c.loop-node-test.true) ∙ ap (flat_map one) (map_push (node_of ranks) (take k nodes) node)
    ∙ flat_map-append one (map (node_of ranks) (take k nodes)) (node_of ranks node ∷ []) ∙ ap (λ l. flat_map one (map (node_of ranks) (take k nodes)) ++ l) (append-nil (one (node_of ranks node))) in
    let depth : node.start + node.depth - node.start ≡ node.depth = omega arith in
    let is : take (node.start + node.depth - node.start) (drop node.start c.deref.result.now) ≡ path = λ i. take (depth i) (drop node.start (c.deref.ensures.value i)) in
    let so_far = flat_map one (map (node_of ranks) (take k nodes)) in
    elim c.match-above.branch [
      | in-Some+in_ok-to_vec+in_ok-push w ↦
          (let above = w.in_ok-to_vec.ensures.items_if_clones_equal (λ x y e. e) ∙ w.in-Some.ensures.1 ∙ ap front is in
          let ends = ap (ends_in c.args.rank) (sym is) ∙ w.in-Some.ensures.0 in
          ap (λ (v : Vec (Vec ℕ Global × ℕ) Global). map shown v.items) w.base-is ∙ ap (map shown) w.in_ok-push.ensures.items
          ∙ map_push shown c.loop-node.base.items (w.in_ok-to_vec.field-0, node.count)
          ∙ (λ i. c.loop-node.invariant i ++ (above i, node.count) ∷ [])
          ∙ sym (more ∙ ap (λ b. so_far ++ cond b ((front path, node.count) ∷ []) []) ends))
      | in_default w ↦
          ap (λ (v : Vec (Vec ℕ Global × ℕ) Global). map shown v.items) w.base-is ∙ c.loop-node.invariant
          ∙ sym (more ∙ ap (λ b. so_far ++ cond b ((front path, node.count) ∷ []) []) (ap (ends_in c.args.rank) (sym is) ∙ w.in_default.ensures) ∙ append-nil so_far)
    ]
