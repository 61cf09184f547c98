use Rattle.std.proofs.Common.{◌∙◌, sym, arith}
use Rattle.std.proofs.lemmas.Bool.{leb-true, ltb-true}
use Rattle.mine_supports.proofs.theory.UsedItems.{missing_at}
use Rattle.mine_supports.proofs.used_items.is_missing.Goals as goal
use Rattle.mine_supports.proofs.used_items.is_missing.Goals.{then-index-items+then-index-eq0, then-index-items+else-index-eq0, else-index-items}

pub returns-else-index-items-2 : goal.returns-else-index-items-2
returns-else-index-items-2 c e = elim c.if-index-items.branch [
  | then-index-items+then-index-eq0 w ↦
      missing_at c.args.items.now c.args.item c.args.index c.requires w.if-index-items.true (λ some. absurd (omega (arith, w.if-index-eq0.true, some))) (λ more. ltb-true _ _ e)
  | then-index-items+else-index-eq0 w ↦
      missing_at c.args.items.now c.args.item c.args.index c.requires w.if-index-items.true (λ some. ltb-true _ _ (sym w.value-is ∙ c.if-items-index.true)) (λ more. ltb-true _ _ e)
  | else-index-items w ↦ absurd (let le = leb-true _ _ (sym w.value-is ∙ c.if-items-index.true) in omega (arith, le, w.if-index-items.false))
]
