use Rattle.std.proofs.Common.{sym, subst, ◌∙◌}
use Rattle.basket_names.specs.Names.{IsKnown}
use Rattle.basket_names.proofs.RecentLemmas.{numbered_known}
use Rattle.basket_names.proofs.names.Numbering.number.Goals as goal

pub keep-requires : goal.keep-requires
keep-requires c = λ whole.
    let new = c.index.new.self in
    let is_name = c.of-key.ensures whole ∙ c.as_bytes.ensures.value in
    let known = numbered_known c.args.self.now new c.args.name.now c.in_ok-number.number c.utf8.name c.in_ok-index.ensures.names (c.in_ok-number.ensures ∙ c.in_ok-index.ensures.number) in
    subst (λ name. IsKnown new name c.in_ok-number.number) (sym is_name) known
