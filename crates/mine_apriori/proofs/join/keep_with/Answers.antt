use Rattle.std.proofs.Common.{◌≡◌, ◌<◌, ◌++◌, [], false, filter, get_or, is_ok, length, ap, sym, ◌∙◌, arith}
use Rattle.std.proofs.lemmas.List.{get_or_default}
use Rattle.basket_sets.specs.Itemset.{has, without}
use Rattle.basket_sets.proofs.theory.Without.{around_is}
use Rattle.mine_apriori.specs.Candidates.{is_one_of}
use Rattle.mine_supports.specs.Extensions.{lists_of, prefixes_of}
use Rattle.mine_supports.proofs.theory.Extensions.{groups_long, lists_long}
use Rattle.mine_apriori.proofs.JoinStepLemmas.{kept_found, kept_missing}
use Rattle.mine_apriori.proofs.join.keep_with.Goals as goal
use Rattle.mine_apriori.proofs.join.keep_with.Goals.{in-Ok+in_ok-push_shared-in-Ok, in-Err}

pub returns : goal.returns
returns c =
    let groups = c.args.level.now in
    let set = c.args.set.now in
    let items = c.args.items.now.items in
    let key = without c.args.index set in
    let around = around_is c.args.index set in
    ap (λ v. v.items) c.swap.ensures.x_after ∙ elim c.match-find_near.branch [
      | in-Ok+in_ok-push_shared-in-Ok w ↦
          (let at = w.in-Ok.at in
          let long = ap length c.prefixes.ensures in
          let within = w.in-Ok.ensures.bound in
          let below : at < length groups = omega (arith, within, long, groups_long groups) in
          let is : get_or (prefixes_of groups) at [] ≡ key = ap (λ l. get_or l at []) (sym c.prefixes.ensures) ∙ w.in-Ok.ensures.index ∙ around in
          let read = w.items.ensures.items ∙ w.index-lists-at.is ∙ ap (λ l. get_or l at w.index-lists-at.result) w.lists.ensures
          ∙ get_or_default (lists_of groups) at w.index-lists-at.result [] (omega (arith, below, lists_long groups)) in
          ap (λ v. v.items) w.room-is ∙ w.in_ok-push_shared-in-Ok.ensures
          ∙ (λ i. c.clear.ensures.items i ++ filter (has (read i)) (w.deref.ensures.value i))
          ∙ kept_found groups at key items c.requires.sorted below is)
      | in-Err w ↦
          (let none : is_one_of (prefixes_of groups) key ≡ false = (λ i. is_one_of (sym c.prefixes.ensures i) (sym around i)) ∙ sym c.find_near.ensures.found ∙ ap is_ok w.in-Err.is in
          ap (λ v. v.items) w.room-is ∙ c.clear.ensures.items ∙ kept_missing groups key items none)
    ]
