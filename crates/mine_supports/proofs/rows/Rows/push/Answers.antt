use Rattle.std.proofs.Common.{length, refl, subst, ap, ◌∙◌, arith}
use Rattle.std.proofs.lemmas.List.{take_at}
use Rattle.mine_supports.proofs.RowLemmas.{AreMarkedAt, rows_more}
use Rattle.mine_supports.proofs.rows.Rows.push.Goals as goal

pub returns-clause-rows : goal.returns-clause-rows
returns-clause-rows c used before basket up tid are named =
    let old = c.args.self.now in
    let numbers = c.args.numbers.now in
    let bits = c.mark.new.bits in
    let long = c.mark.auto.bits ∙ c.deref_mut.ensures.len in
    let marked = subst (λ p. AreMarkedAt old.words p numbers old.bits.items bits) tid (subst (λ l. AreMarkedAt old.words c.args.tid numbers l bits) c.deref_mut.ensures.value c.mark.ensures) in
    rows_more used before basket numbers bits old _ up are named (omega (arith, c.requires.room, tid)) refl (take_at bits _ old.bits.len long) (c.mark.auto.bits ∙ ap length c.deref_mut.ensures.value) marked
