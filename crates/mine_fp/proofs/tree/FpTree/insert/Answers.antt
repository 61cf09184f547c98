use Rattle.std.proofs.Common.{◌≡◌, ◌+◌, ◌++◌, ◌∷◌, [], List, ℕ, map, sym, ap, ◌∙◌, subst, arith}
use Rattle.std.proofs.lemmas.Grind.{common_steps}
use Rattle.std.proofs.lemmas.Simd.{map-map}
use Rattle.basket_sets.specs.Database.{weighted}
use Rattle.mine_fp.specs.declared.tree.Node.{Node}
use Rattle.mine_fp.specs.Tree.{AreNodes, StandsFor, Tree, longest, made, node_of, paths_of, raised}
use Rattle.mine_fp.proofs.BranchLemmas.{grown, heavier, older_first, stands_now}
use Rattle.mine_fp.proofs.NodeLemmas.{raised_are, written}
use Rattle.mine_fp.proofs.tree.FpTree.insert.Goals as goal

-- the nodes before
abbrev older : goal.After-self-2-1 → List (List ℕ × ℕ)
older c = map (node_of c.self.inside.ranks.items) c.self.inside.nodes.items

all_are : (c : goal.After-self-2-1) → AreNodes c.add_nodes.new.ranks.items c.add_nodes.new.nodes.items (c.self.inside.total + c.args.weight)
    × (map (node_of c.add_nodes.new.ranks.items) c.add_nodes.new.nodes.items ≡ grown c.args.path.now c.args.weight (older c))
all_are c =
    let ranks = c.self.inside.ranks.items in
    let nodes = c.self.inside.nodes.items in
    let path = c.args.path.now in
    let raise = raised ranks path c.args.weight in
    let at = c.deref.ensures.value ∙ c.in_ok-reserve.ensures.items in
    let lent = c.deref_mut.ensures.value ∙ c.in_ok-reserve-2.ensures.items in
    let more = written ranks path c.args.weight nodes _ _ _ _ c.reserve-2.new.self.len at c.deref_mut.ensures.value c.in_ok-reserve-2.ensures.items (sym c.deref_mut.ensures.len) c.add_weight-known.ensures.raised in
    let known = c.add_weight-known.ensures.known ∙ (λ i. longest path (paths_of (map (node_of (at i)) (lent i)))) in
    let all = c.add_nodes.ensures (c.self.inside.total + c.args.weight) (omega arith)
    (subst (λ (t : List ℕ × List Node). AreNodes t.0 t.1 (c.self.inside.total + c.args.weight)) (λ i. (sym c.in_ok-reserve.ensures.items i, sym more i)) (raised_are ranks path c.args.weight c.self.inside.total nodes c.self.invariant)) in (
      all.0,
      all.1 ∙ (λ i. map (node_of (c.in_ok-reserve.ensures.items i)) (more i) ++ made path c.args.weight (known i))
          ∙ ap (λ l. l ++ made path c.args.weight (longest path (paths_of (older c)))) (map-map (node_of ranks) raise nodes ∙ sym (map-map (heavier path c.args.weight) (node_of ranks) nodes)),
    )

pub invariant_of-self-2 : goal.invariant_of-self-2
invariant_of-self-2 c = (all_are c).0

pub returns-clause-ok : goal.returns-clause-ok
returns-clause-ok c = λ begun stands.
    subst (λ (l : List (List ℕ × ℕ)). StandsFor (record { nodes = l; total = c.self.inside.total + c.args.weight }) (begun ++ weighted c.args.path.now c.args.weight ∷ [])) (sym (all_are c).1)
    (stands_now (older c) c.args.path.now c.args.weight c.self.inside.total begun (subst (λ (v : Tree). StandsFor v begun) (sym c.self.view_is) stands))

pub returns-clause-order : goal.returns-clause-order
returns-clause-order c = grind (arith, common_steps, all_are, older_first)
