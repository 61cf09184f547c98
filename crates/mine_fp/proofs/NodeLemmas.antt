-- Nodes of a tree, where a path is added.
use Rattle.std.proofs.Common.{◌≡◌, ℕ, ◌+◌, ◌-◌, ◌<◌, ◌≤◌, Bool, List, [], ◌∷◌, ◌++◌, length, get_or, map, set, take, drop, zero, suc, cond, eqb, leb, max, refl, sym, ap, ◌∙◌, arith}
use Rattle.std.proofs.lemmas.Grind.{common_steps}
use Rattle.std.specs.List.{All, common_prefix_len, range_with_len}
use Rattle.std.proofs.Math.Dec.{leb-suc-zero}
use Rattle.std.proofs.lemmas.Bool.{le-leb}
use Rattle.std.proofs.lemmas.List.{drop_at, drop-append-le, get_or_default, length-append, length-drop, length-take-le, map-append, map_push, take-append-le, take_more}
use Rattle.std.proofs.lemmas.List.Edits.{map_over_more}
use Rattle.std.proofs.lemmas.List.Elements.{All-append, All-head, All-map, All-tail, All-weaker}
use Rattle.std.proofs.lemmas.List.FromFn.{get_or-range_with_len, length-range_with_len}
use Rattle.std.proofs.lemmas.Simd.{map-map}
use Rattle.mine_fp.specs.declared.tree.Node.{Node}
use Rattle.mine_fp.specs.Tree.{AreNodes, begins, longest, made, node_of, paths_of, raised}
use Rattle.mine_fp.proofs.BranchLemmas.{longest_push}

pub begins_is : (n : ℕ) (p q : List ℕ) → n ≤ length p → begins (take n p) q ≡ leb n (common_prefix_len eqb p q)
begins_is zero p q here = sym (le-leb 0 (common_prefix_len eqb p q) (omega arith))
begins_is (suc n) [] q here = absurd (omega arith)
begins_is (suc n) (x ∷ p) [] here = sym (leb-suc-zero n)
begins_is (suc n) (x ∷ p) (y ∷ q) here = grind (arith, common_steps, begins_is n p q (omega arith))

-- where the elements before a receipt are changed, the others are as they were
pub rest_at : {X : Type 0} (f : X → X) (xs now : List X) (k : ℕ) (d : X) → k < length xs → now ≡ map f (take k xs) ++ drop k xs → get_or now k d ≡ get_or xs k d
rest_at f xs now k d here is = grind (arith, common_steps)

-- the nodes before a receipt have more weight
module _ (ranks path : List ℕ) (weight : ℕ) (nodes now : List Node) (k : ℕ) (d : Node) (here : k < length nodes) (there : k < length now)
    (is : now ≡ map (raised ranks path weight) (take k nodes) ++ drop k nodes) where
  abbrev node : Node
  node = get_or now k d

  abbrev longest_of : List Node → ℕ
  longest_of some = longest path (paths_of (map (node_of ranks) some))

  pub raised_more : (through : Bool) (count : ℕ) → node.start + node.depth ≤ length ranks → begins (take node.depth (drop node.start ranks)) path ≡ through → count ≡ node.count + cond through weight 0
      → (set now k (record { start = node.start; depth = node.depth; count = count }) ≡ map (raised ranks path weight) (take (k + 1) nodes) ++ drop (k + 1) nodes)
      × (longest_of (take (k + 1) nodes) ≡ max (longest_of (take k nodes)) (cond through node.depth 0))
  raised_more through count inside goes more =
      let long = length-take-le node.depth (drop node.start ranks) (omega (arith, length-drop node.start ranks)) in
      let one = node_of ranks node in (
        ap (λ n. set now k (record { start = node.start; depth = node.depth; count = n })) (more ∙ ap (λ b. node.count + cond b weight 0) (sym goes))
            ∙ map_over_more (raised ranks path weight) nodes now k node here is (get_or_default now k d node there),
        ap longest_of (take_more nodes k d here ∙ ap (λ n. take k nodes ++ n ∷ []) (sym (rest_at (raised ranks path weight) nodes now k d here is))) ∙ ap (λ l. longest path (paths_of l)) (map_push (node_of ranks) (take k nodes) node)
            ∙ ap (longest path) (map_push (λ (n : List ℕ × ℕ). n.0) (map (node_of ranks) (take k nodes)) one)
            ∙ longest_push path (paths_of (map (node_of ranks) (take k nodes))) one.0 ∙ (λ i. max (longest_of (take k nodes)) (cond (goes i) (long i) 0)),
      )

if_less : (b : Bool) (n : ℕ) → cond b n 0 ≤ n
if_less h1 h2 = grind (arith, common_steps)

pub raised_are : (ranks path : List ℕ) (weight total : ℕ) (nodes : List Node) → AreNodes ranks nodes total → AreNodes ranks (map (raised ranks path weight) nodes) (total + weight)
raised_are ranks path weight total nodes are = record {
  inside = All-map (λ n. n.start + n.depth ≤ length ranks) (raised ranks path weight) nodes are.inside;
  light = All-map (λ n. n.count ≤ total + weight) (raised ranks path weight) nodes
      (All-weaker (λ n. n.count ≤ total) (λ n. (raised ranks path weight n).count ≤ total + weight) (λ n less. omega (arith, less, if_less (begins (node_of ranks n).0 path) weight)) nodes are.light);
}

-- ranks that come later change no path
kept_nodes : (ranks more : List ℕ) (nodes : List Node) → All (λ node. node.start + node.depth ≤ length ranks) nodes → map (node_of (ranks ++ more)) nodes ≡ map (node_of ranks) nodes
kept_nodes ranks more [] inside = refl
kept_nodes ranks more (node ∷ nodes) inside =
    let P = λ (n : Node). n.start + n.depth ≤ length ranks in
    let here = All-head P node nodes inside in
    let path : take node.depth (drop node.start (ranks ++ more)) ≡ take node.depth (drop node.start ranks)
    = ap (take node.depth) (drop-append-le node.start ranks more (omega arith)) ∙ take-append-le node.depth (drop node.start ranks) more (omega (arith, length-drop node.start ranks)) in
    λ i. (path i, node.count) ∷ kept_nodes ranks more nodes (All-tail P node nodes inside) i

-- the nodes that a path makes, by where it stands in the list of all ranks
abbrev pub made_at : ℕ → ℕ → ℕ → Node
made_at start weight rank = record { start = start; depth = rank + 1; count = weight }

module _ (ranks path : List ℕ) (weight known total : ℕ) (nodes : List Node) (few : known ≤ length path) (less : weight ≤ total) (are : AreNodes ranks nodes total) where
  abbrev numbers : List ℕ
  numbers = range_with_len known (length path - known)

  abbrev all : List Node
  all = nodes ++ map (made_at (length ranks) weight) numbers

  made_nodes : map (node_of (ranks ++ path)) all ≡ map (node_of ranks) nodes ++ made path weight known
  made_nodes =
      map-append (node_of (ranks ++ path)) nodes (map (made_at (length ranks) weight) numbers)
      ∙ (λ i. kept_nodes ranks path nodes are.inside i ++ (map-map (node_of (ranks ++ path)) (made_at (length ranks) weight) numbers
      ∙ ap (λ l. map (λ rank. (take (rank + 1) l, weight)) numbers) (drop_at ranks path (length ranks) refl)) i)

  made_are : AreNodes (ranks ++ path) all total
  made_are =
      let IsInside = λ (n : Node). n.start + n.depth ≤ length (ranks ++ path) in
      let IsLight = λ (n : Node). n.count ≤ total in
      let long = length-append ranks path in
      record {
        inside = All-append IsInside nodes (map (made_at (length ranks) weight) numbers)
            (All-weaker (λ n. n.start + n.depth ≤ length ranks) IsInside (λ n low. omega (arith, low, long)) nodes are.inside)
            (All-map IsInside (made_at (length ranks) weight) numbers (λ k d here.
            let within : k < length path - known = omega (arith, here, length-range_with_len known (length path - known)) in
            omega (arith, long, within, get_or-range_with_len known (length path - known) k d within)));
        light = All-append IsLight nodes (map (made_at (length ranks) weight) numbers) are.light (All-map IsLight (made_at (length ranks) weight) numbers (λ k d here. less));
      }

  pub with_made : (at : ℕ) (now : List Node) (more : List ℕ) → at ≡ length ranks → more ≡ ranks ++ path → now ≡ nodes ++ map (made_at at weight) numbers
      → AreNodes more now total × (map (node_of more) now ≡ map (node_of ranks) nodes ++ made path weight known)
  with_made at now more start items is = grind (arith, common_steps, made_are, made_nodes)

-- nodes that were lent with room for more, each with the weight
pub written : (ranks path : List ℕ) (weight : ℕ) (nodes : List Node) (at : List ℕ) (lent old new : List Node) (len : ℕ) → at ≡ ranks → lent ≡ old → old ≡ nodes → len ≡ length lent
    → new ≡ map (raised at path weight) lent → take len (new ++ drop (length new) old) ≡ map (raised ranks path weight) nodes
written ranks path weight nodes at lent old new len same is was long raise = grind (arith, common_steps)
