use Rattle.std.proofs.Common.{◌≡◌, ◌≤◌, ℕ, List, map, subst, sym}
use Rattle.std.specs.Prelude.{Vec}
use Rattle.std.specs.Global.{Global}
use Rattle.basket_ranks.specs.Shards.{shard_of}
use Rattle.basket_sets.specs.declared.weighted.Weighted.{Weighted}
use Rattle.basket_sets.specs.Counts.{item_supports}
use Rattle.mine_pieces.specs.Counting.{CountParts}
use Rattle.mine_pieces.specs.Pieces.{HasEach}
use Rattle.mine_pieces.proofs.theory.Parts.{counts_by_part}
use Rattle.mine_pieces.proofs.counting.count_shared.Goals as goal

-- the lists are the counts of the parts
counted : (baskets : List Weighted) (parts : ℕ) (lists slice : List (Vec (ℕ × ℕ) Global)) → 1 ≤ parts → slice ≡ lists
    → HasEach (λ part counts. counts.items ≡ item_supports (shard_of part parts baskets)) parts lists → CountParts baskets (map (λ list. list.items) slice)
counted baskets parts lists slice some is has = subst (λ l. CountParts baskets (map (λ list. list.items) l)) (sym is) (counts_by_part (λ list. list.items) baskets parts lists some has)

pub add_up-requires : goal.add_up-requires
add_up-requires g c =
    (c.args.baskets.now, counted c.args.baskets.now c.parts_for-parts.result _ _ c.parts_for-parts.ensures c.deref.ensures.value c.in_ok-lists.ensures, c.requires.light)

pub returns : goal.returns
returns g c =
    record { counts = c.add_up.ensures c.args.baskets.now (counted c.args.baskets.now c.parts_for-parts.result _ _ c.parts_for-parts.ensures c.deref.ensures.value c.in_ok-lists.ensures) }
