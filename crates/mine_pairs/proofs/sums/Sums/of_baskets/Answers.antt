use Rattle.std.proofs.Common.{◌≡◌, ℕ, List, filter, get_or, length, map, sym, subst, ap, ◌∙◌, arith}
use Rattle.std.specs.Prelude.{IfOk}
use Rattle.std.proofs.lemmas.Result.{IfOk-weaker}
use Rattle.basket_sets.specs.Itemset.{rising}
use Rattle.mine_pairs.specs.Sums.{is_met, ranks_met}
use Rattle.mine_baskets.specs.Baskets.{baskets_in}
use Rattle.std.proofs.lemmas.List.{with_items_is}
use Rattle.mine_pairs.proofs.theory.Sums.{met_is}
use Rattle.mine_pairs.proofs.sums.Sums.of_baskets.Goals as goal
use Rattle.mine_pairs.proofs.sums.Sums.of_baskets.Goals.{in-Ok, in-Err}

-- the ranks of the list that are met, with their sums
abbrev listed : ℕ → List ℕ → List ℕ → List (ℕ × ℕ)
listed least sums found = map (λ rank. (rank, get_or sums rank 0)) (rising (filter (λ rank. is_met least (get_or sums rank 0)) found))

pub returns-clause-met : goal.returns-clause-met
returns-clause-met c =
    let count = c.args.self.now in
    let least = c.args.least in
    let baskets = baskets_in c.args.baskets in
    elim c.match-summed.branch [
      | in-Ok w ↦
          (let table = c.self.inside.sums in
          let sums = c.add_up-summed.new.sums in
          let found = c.add_up-summed.new.found in
          let whole = w.deref.ensures.value ∙ with_items_is table sums (omega (arith, table.ok, c.add_up-summed.auto.sums, c.deref_mut.ensures.len)) in
          let long : length c.deref_mut.result.now ≡ count = omega (arith, c.deref_mut.ensures.len, table.ok, c.self.view_is) in
          subst (λ r. IfOk r (λ met. met.items ≡ ranks_met count least baskets)) (sym w.met-is)
          (IfOk-weaker w.met-met.result (λ met. met.items ≡ listed least w.deref.result.now w.items.result.now) (λ met. met.items ≡ ranks_met count least baskets)
          (λ met is. is ∙ ap (λ l. listed least l w.items.result.now) whole ∙ ap (listed least sums) w.items.ensures
          ∙ met_is (length c.deref_mut.result.now) least sums found baskets w.in-Ok.ensures.sums w.in-Ok.ensures.added ∙ ap (λ n. ranks_met n least baskets) long) w.met-met.ensures))
      | in-Err w ↦ subst (λ r. IfOk r (λ met. met.items ≡ ranks_met count least baskets)) (sym w.met-is) tt
    ]
