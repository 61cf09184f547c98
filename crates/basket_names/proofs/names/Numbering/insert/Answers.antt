use Rattle.std.proofs.Common.{map, refl, sym, subst}
use Rattle.std.specs.String.{string_bytes}
use Rattle.basket_names.specs.Recent.{KeepsKnown}
use Rattle.basket_names.proofs.theory.Names.{new_place}
use Rattle.basket_names.proofs.RecentLemmas.{kept_more}
use Rattle.basket_names.proofs.names.Numbering.insert.Goals as goal

pub returns : goal.returns
returns c =
    let name = c.args.name in
    let (more, index) = new_place c.self.inside.names.keys c.insert_full.new.self.keys name c.args.self.now (string_bytes name) c.in_ok-index.index
    (sym c.self.view_is) refl c.in_ok-index.ensures.keys c.in_ok-index.ensures.index in
    record { names = more; number = index }

pub invariant_of-self-2 : goal.invariant_of-self-2
invariant_of-self-2 c =
    let keys = c.self.inside.names.keys in
    let name = string_bytes c.args.name in
    let more = new_place keys c.insert_full.new.self.keys c.args.name (map string_bytes keys) name c.in_ok-index.index refl refl c.in_ok-index.ensures.keys c.in_ok-index.ensures.index in
    subst (λ names. KeepsKnown names c.self.inside.recent) (sym more.0) (kept_more (map string_bytes keys) name c.self.inside.recent c.self.invariant)
