use Rattle.std.proofs.Common.{◌≡◌, ◌+◌, ℕ, [], None, Option, length, get_or, replicate, sym, subst, ap, ◌∙◌, arith}
use Rattle.std.proofs.lemmas.List.{length-replicate, take_at}
use Rattle.std.proofs.lemmas.Result.{IfOk-weaker}
use Rattle.basket_sets.specs.Counts.{AllBelow, IsTable, item_supports, entries_of}
use Rattle.basket_sets.specs.Support.{all_items}
use Rattle.basket_sets.proofs.CountLemmas.{table_entries}
use Rattle.basket_sets.proofs.RenameLemmas.{nothing}
use Rattle.basket_sets.proofs.counts.count_by_table.Goals as goal

pub returns : goal.returns
returns c =
    let table = c.deref.result.now in
    let made = c.deref_mut.ensures.value ∙ c.in_ok-table.ensures.items_if_clones_equal (λ y e. e) ∙ ap (replicate (c.args.greatest + 1)) c.empty.ensures in
    let empty : IsTable [] c.deref_mut.result.now = λ item below. ap (λ l. get_or l item None) made ∙ nothing (c.args.greatest + 1) item in
    let same : length c.add_baskets.new.table ≡ length c.deref_mut.result.now = c.add_baskets.auto.table in
    let written = c.deref.ensures.value ∙ take_at c.add_baskets.new.table _ c.in_ok-table.table.len (same ∙ c.deref_mut.ensures.len) in
    let is : IsTable c.args.baskets.now table = subst (IsTable c.args.baskets.now) (sym written) (c.add_baskets.ensures.table [] empty) in
    let long : length table ≡ c.args.greatest + 1 = ap length written ∙ same ∙ ap length made ∙ length-replicate {A = Option ℕ} (c.args.greatest + 1) None in
    IfOk-weaker c.listed.result (λ entries. entries.items ≡ entries_of table) (λ counts. counts.items ≡ item_supports c.args.baskets.now)
    (λ entries e. e ∙ table_entries c.args.baskets.now table is (subst (λ n. AllBelow n (all_items c.args.baskets.now)) (sym long) c.requires.within)) c.listed.ensures
