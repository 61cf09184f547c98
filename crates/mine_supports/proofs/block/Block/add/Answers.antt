use Rattle.std.proofs.Common.{◌≡◌, ◌-◌, ℕ, length, take, subst, sym, ◌∙◌, arith}
use Rattle.std.proofs.lemmas.Bool.{eqb-true}
use Rattle.std.proofs.lemmas.List.{nil_from_length, take_all}
use Rattle.mine_supports.specs.BlockCounts.{numbered}
use Rattle.mine_supports.specs.TidWord.{AreTidsOf}
use Rattle.mine_supports.proofs.TidLemmas.{none_with_prefix, part_used}
use Rattle.mine_supports.proofs.PrefixLemmas.{last_prefix, none_added, rest_joined}
use Rattle.mine_supports.proofs.block.Block.add.Goals as goal
use Rattle.mine_supports.proofs.block.Block.add.Goals.{After-deref}

pub returns-then-is_empty-clause-supports : goal.returns-then-is_empty-clause-supports
returns-then-is_empty-clause-supports c =
    let baskets = numbered c.args.self.now in
    let lists = c.add_prefixes.new.prefixes.lists.items in
    let none = nil_from_length c.last-last.result.now (eqb-true _ _ (sym c.is_empty.ensures ∙ c.if-is_empty.true)) in
    none_added baskets c.args.prefix.now c.args.items.now c.args.start c.args.counts.now lists c.in_ok-add_prefixes.ensures.short c.in_ok-add_prefixes.ensures.prefixes
    (λ set are. none_with_prefix baskets set (length lists - 1) (subst (AreTidsOf baskets (take (length lists - 1) set)) none (last_prefix baskets set lists c.last-last.result.now are c.last-last.ensures)))

pub kept_by_all-requires : goal.kept_by_all-requires
kept_by_all-requires c = record { used = part_used c.args.self.now.used.now c.args.prefix.now (c.len-depth.result - 1) _ c.requires.used }

pub returns-then-depth-prefix-clause-supports : goal.returns-then-depth-prefix-clause-supports
returns-then-depth-prefix-clause-supports c =
    let baskets = numbered c.args.self.now in
    let prefix = c.args.prefix.now in
    let lists = c.add_prefixes.new.prefixes.lists in
    let are = last_prefix baskets prefix lists.items c.last-last.result.now c.in_ok-add_prefixes.ensures.prefixes c.last-last.ensures in
    c.add_supports.ensures prefix (subst (λ l. AreTidsOf baskets l c.last-last.result.now) (take_all (length lists.items - 1) prefix (omega (arith, c.if-depth-prefix.true, c.len-depth.ensures, lists.ok))) are)

rest_kept : (c : After-deref) → AreTidsOf (numbered c.args.self.now) c.args.prefix.now c.deref.result.now
rest_kept c =
    let baskets = numbered c.args.self.now in
    let prefix = c.args.prefix.now in
    let depth : ℕ = c.len-depth.result - 1 in
    let lists = c.add_prefixes.new.prefixes.lists in
    let e : length lists.items - 1 ≡ depth = omega (arith, c.len-depth.ensures, lists.ok) in
    let at = subst (λ n. AreTidsOf baskets (take n prefix) c.last-last.result.now) e (last_prefix baskets prefix lists.items c.last-last.result.now c.in_ok-add_prefixes.ensures.prefixes c.last-last.ensures) in
    subst (AreTidsOf baskets prefix) (sym c.deref.ensures.value) (subst (λ l. AreTidsOf baskets l c.in_ok-tids.tids.items) (rest_joined prefix depth) (c.in_ok-tids.ensures (take depth prefix) at))

pub add_supports-requires-else-depth-prefix-clause-tids : goal.add_supports-requires-else-depth-prefix-clause-tids
add_supports-requires-else-depth-prefix-clause-tids c = (c.args.prefix.now, rest_kept (goal.at.add_supports-requires-else-depth-prefix-clause-tids c).After-deref)

pub returns-in_ok-tids-clause-supports : goal.returns-in_ok-tids-clause-supports
returns-in_ok-tids-clause-supports c = c.add_supports-else-depth-prefix.ensures c.args.prefix.now (rest_kept (goal.at.returns-in_ok-tids-clause-supports c).After-deref)
