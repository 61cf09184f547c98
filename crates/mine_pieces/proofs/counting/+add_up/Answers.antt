use Rattle.std.proofs.Common.{◌≡◌, ◌++◌, rules, ap, ◌∙◌, arith, length, take, drop, ◌/◌}
use Rattle.std.specs.List.{flat_map}
use Rattle.std.proofs.lemmas.Result.{IfOk-weaker}
use Rattle.basket_ranks.specs.Added.{added_counts}
use Rattle.basket_sets.specs.Counts.{item_supports}
use Rattle.mine_pieces.proofs.theory.Parts.{front_parts, back_parts, front_is_light, back_is_light, joined_parts, one_part}
use Rattle.mine_pieces.proofs.counting.+add_up.Goals as goal
use Rattle.basket_ranks.proofs.theory.Added.{added_is, sums_fit, supports_rise}

pub add_up-requires : goal.add_up-requires
add_up-requires t c =
    let lists = c.args.lists.now in
    let baskets = c.requires.0 in
    let counted = c.requires.1 in
    let light = front_is_light (λ list. list.items) (length lists / 2) lists baskets counted in
    (search rules, (_, front_parts (λ list. list.items) (length lists / 2) lists baskets counted c.split_at.result.0.now c.split_at.ensures.front, omega (arith, c.requires.2)))

pub add_up-requires-in_default : goal.add_up-requires-in_default
add_up-requires-in_default t c =
    let lists = c.args.lists.now in
    let baskets = c.requires.0 in
    let counted = c.requires.1 in
    let light = back_is_light (λ list. list.items) (length lists / 2) lists baskets counted in
    (search rules, (_, back_parts (λ list. list.items) (length lists / 2) lists baskets counted c.split_at.result.1.now c.split_at.ensures.back, omega (arith, c.requires.2)))

pub add_counts-requires-clause-rising : goal.add_counts-requires-clause-rising
add_counts-requires-clause-rising t c =
    let lists = c.args.lists.now in
    let baskets = c.requires.0 in
    let counted = c.requires.1 in
    let front = c.deref-in_default.ensures.value ∙ c.in_ok-add_up-in_default.ensures _ (front_parts (λ list. list.items) (length lists / 2) lists baskets counted c.split_at.result.0.now c.split_at.ensures.front) in
    let back = c.deref-in_default-2.ensures.value ∙ c.in_ok-add_up-in_default-2.ensures _ (back_parts (λ list. list.items) (length lists / 2) lists baskets counted c.split_at.result.1.now c.split_at.ensures.back) in (
      supports_rise c.deref-in_default.result.now (flat_map (λ part. part) (take (length lists / 2) counted.parts)) front,
      supports_rise c.deref-in_default-2.result.now (flat_map (λ part. part) (drop (length lists / 2) counted.parts)) back,
    )

pub add_counts-requires-clause-fits : goal.add_counts-requires-clause-fits
add_counts-requires-clause-fits t c =
    let lists = c.args.lists.now in
    let baskets = c.requires.0 in
    let counted = c.requires.1 in
    let front = c.deref-in_default.ensures.value ∙ c.in_ok-add_up-in_default.ensures _ (front_parts (λ list. list.items) (length lists / 2) lists baskets counted c.split_at.result.0.now c.split_at.ensures.front) in
    let back = c.deref-in_default-2.ensures.value ∙ c.in_ok-add_up-in_default-2.ensures _ (back_parts (λ list. list.items) (length lists / 2) lists baskets counted c.split_at.result.1.now c.split_at.ensures.back) in
    sums_fit c.deref-in_default.result.now c.deref-in_default-2.result.now (flat_map (λ part. part) (take (length lists / 2) counted.parts)) (flat_map (λ part. part) (drop (length lists / 2) counted.parts)) baskets front back (joined_parts (λ list. list.items) (length lists / 2) lists baskets counted) c.requires.2

pub returns-in_ok-add_up-in_default-2 : goal.returns-in_ok-add_up-in_default-2
returns-in_ok-add_up-in_default-2 t c baskets counted =
    let lists = c.args.lists.now in
    let front = c.deref-in_default.ensures.value ∙ c.in_ok-add_up-in_default.ensures _ (front_parts (λ list. list.items) (length lists / 2) lists baskets counted c.split_at.result.0.now c.split_at.ensures.front) in
    let back = c.deref-in_default-2.ensures.value ∙ c.in_ok-add_up-in_default-2.ensures _ (back_parts (λ list. list.items) (length lists / 2) lists baskets counted c.split_at.result.1.now c.split_at.ensures.back) in
    IfOk-weaker c.add_counts.result (λ counts. counts.items ≡ added_counts c.deref-in_default.result.now c.deref-in_default-2.result.now) (λ counts. counts.items ≡ item_supports baskets)
    (λ counts e. e ∙ added_is c.deref-in_default.result.now c.deref-in_default-2.result.now (flat_map (λ part. part) (take (length lists / 2) counted.parts)) (flat_map (λ part. part) (drop (length lists / 2) counted.parts)) baskets front back (joined_parts (λ list. list.items) (length lists / 2) lists baskets counted)) c.add_counts.ensures.counts

pub returns-in_ok-extend_from_slice-in-len1 : goal.returns-in_ok-extend_from_slice-in-len1
returns-in_ok-extend_from_slice-in-len1 t c baskets counted =
    c.in_ok-extend_from_slice-in-len1.ensures.items ∙ ap (λ l. l ++ c.deref.result.now) c.in_ok-copy-in-len1.ensures.items ∙ c.deref.ensures.value
    ∙ one_part (λ list. list.items) c.args.lists.now c.counts-item.result baskets c.in-len1.len_at_least c.in-len1.len_below c.counts-item.is counted
