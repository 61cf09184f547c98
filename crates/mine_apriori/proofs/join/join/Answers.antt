use Rattle.std.proofs.Common.{◌≡◌, ◌+◌, ◌∷◌, ◌++◌, [], drop, filter, get_or, length, suc, ap, ◌∙◌, arith}
use Rattle.std.proofs.lemmas.Grind.{common_steps}
use Rattle.std.proofs.lemmas.List.{take_rest}
use Rattle.basket_sets.proofs.theory.Ranges.{filter_rises}
use Rattle.mine_supports.specs.Extensions.{has_items, sets_of}
use Rattle.mine_apriori.specs.Join.{has_parts, joined_group}
use Rattle.mine_apriori.proofs.JoinLemmas.{length_after}
use Rattle.mine_apriori.proofs.JoinStepLemmas.{drop_rises, join_more}
use Rattle.mine_apriori.proofs.join.join.Goals as goal
use Rattle.mine_apriori.proofs.join.join.Goals.{After-room-1, After-deref-in-loop-index}

-- the later items
later_are : (c : After-room-1) → c.extend_from_slice.new.self.items ≡ drop (c.loop-index.index + 1) c.args.items.now
later_are c = grind (arith, common_steps, take_rest)

-- and those of them with which the set has its subsets
kept_are : (c : After-deref-in-loop-index) → c.extend_from_slice.new.self.items ≡ drop (c.loop-index.index + 1) c.args.items.now → c.keep_extensions.new.items.items
    ≡ filter (has_parts (length c.args.prefix.now) (sets_of c.args.level.now) (c.args.prefix.now ++ get_or c.args.items.now c.loop-index.index 0 ∷ [])) (drop (c.loop-index.index + 1) c.args.items.now)
kept_are c later = grind (arith, common_steps, length_after)

pub with_items-requires-clause-items : goal.with_items-requires-clause-items
with_items-requires-clause-items c = grind (arith, common_steps, kept_are, later_are, filter_rises, drop_rises)

pub loop-index-preserved : goal.loop-index-preserved
loop-index-preserved c =
    let groups = c.args.level.now in
    let prefix = c.args.prefix.now in
    let items = c.args.items.now in
    let index = c.loop-index.index in
    let found = c.loop-index.found in
    let kept = kept_are (goal.at.loop-index-preserved c).After-deref-in-loop-index (later_are (goal.at.loop-index-preserved c).After-room-1) in
    let rest = filter has_items (joined_group (suc (length prefix)) (sets_of groups) prefix (drop (index + 1) items)) in
    let set = c.deref-in-loop-index.ensures.value ∙ c.in_ok-put_extended.ensures in
    ap (λ l. l ++ rest) (c.in_ok-found.ensures ∙ (λ i. found ++ filter has_items (record { prefix = set i; items = (c.deref-in-loop-index-2.ensures.value ∙ kept) i } ∷ [])))
    ∙ join_more groups prefix items c.requires.parts index c.loop-index-test.true found ∙ c.loop-index.invariant
