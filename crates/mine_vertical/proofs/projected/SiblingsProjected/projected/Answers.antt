use Rattle.std.proofs.Common.{set, take, subst, sym, ap, refl, arith}
use Rattle.std.proofs.lemmas.Grind.{common_steps}
use Rattle.mine_vertical.specs.declared.local_baskets.LocalBaskets.{LocalBaskets}
use Rattle.mine_vertical.specs.Projected.{AreAtRest}
use Rattle.mine_vertical.proofs.ExtensionLemmas.{anew_is, below_is, few, low, none_below, none_first, rises, work_is}
use Rattle.mine_vertical.proofs.RoomLemmas.{keeps_both, keeps_own, keeps_same}
use Rattle.mine_vertical.proofs.projected.SiblingsProjected.projected.Goals as goal

pub returns-then-at-eq0-clause-none : goal.returns-then-at-eq0-clause-none
returns-then-at-eq0-clause-none g c = λ node (set, is). none_first is c.args.at c.requires.inside c.if-at-eq0.true

pub returns-then-at-eq0-clause-work : goal.returns-then-at-eq0-clause-work
returns-then-at-eq0-clause-work g c = λ node (set, is). omega (arith, work_is is c.args.at c.requires.inside, c.if-at-eq0.true)

pub joined-requires-clause-few : goal.joined-requires-clause-few
joined-requires-clause-few g c =
    let (node, (set, is)) = c.requires.given in
    omega (arith, few is c.args.at c.requires.inside, c.requires.few)

pub returns-then-kept-eq0-clause-none : goal.returns-then-kept-eq0-clause-none
returns-then-kept-eq0-clause-none g c = λ node (set, is).
    none_below is c.args.at c.requires.inside (c.in_ok-kept.ensures.kept set is.siblings) (ap (λ n. take n c.joined.new.list.items) c.if-kept-eq0.true)

pub returns-then-kept-eq0-clause-work : goal.returns-then-kept-eq0-clause-work
returns-then-kept-eq0-clause-work g c = λ node (set, is).
    omega (arith, c.in_ok-kept.ensures.joins, work_is is c.args.at c.requires.inside)

pub returns-then-kept-eq0-clause-little : goal.returns-then-kept-eq0-clause-little
returns-then-kept-eq0-clause-little g c =
    let (node, (set, is)) = c.requires.given in
    omega (arith, c.in_ok-kept.ensures.joins, few is c.args.at c.requires.inside)

pub reprojected-requires-clause-rises : goal.reprojected-requires-clause-rises
reprojected-requires-clause-rises g c =
    let (node, (set, is)) = c.requires.given in
    rises is c.args.at c.requires.inside (c.in_ok-kept.ensures.kept set is.siblings) (take c.in_ok-kept.kept c.deref.result.now) (ap (take c.in_ok-kept.kept) c.deref.ensures.value)

pub reprojected-requires-clause-below : goal.reprojected-requires-clause-below
reprojected-requires-clause-below g c =
    let (node, (set, is)) = c.requires.given in
    low is c.args.at c.requires.inside (c.in_ok-kept.ensures.kept set is.siblings) (take c.in_ok-kept.kept c.deref.result.now) (ap (take c.in_ok-kept.kept) c.deref.ensures.value)

pub returns-in_default-clause-below : goal.returns-in_default-clause-below
returns-in_default-clause-below g c = λ node (set, is).
    below_is is c.args.at c.requires.inside (c.in_ok-kept.ensures.kept set is.siblings) _ refl refl (sym c.in_ok-clone.ensures.cases) refl

pub returns-in_default-clause-work : goal.returns-in_default-clause-work
returns-in_default-clause-work g c = λ node (set, is).
    omega (arith, c.in_ok-kept.ensures.joins, work_is is c.args.at c.requires.inside)

pub returns-in_default-clause-little : goal.returns-in_default-clause-little
returns-in_default-clause-little g c =
    let (node, (set, is)) = c.requires.given in
    omega (arith, c.in_ok-kept.ensures.joins, few is c.args.at c.requires.inside)

pub returns-in_default-clause-inner : goal.returns-in_default-clause-inner
returns-in_default-clause-inner g c =
    let own = keeps_own g.R.Row.at_rest c.args.self.now c.args.room.now _ c.requires.lent c.joined.new.marks c.in_ok-kept.ensures.marks (ap (λ m. set m.items c.args.self.now.marks c.joined.new.marks) c.list-list.ensures) in
    subst (AreAtRest g.R.Row.at_rest c.reprojected.new.room c.args.self.now.marks) (sym (ap (λ (local : LocalBaskets). local.weights) c.in_ok-clone.ensures.cases)) ((keeps_both own c.in_ok-anew.ensures.room).own c.requires.lent)

pub returns-in_default-clause-lent : goal.returns-in_default-clause-lent
returns-in_default-clause-lent g c =
    let own = keeps_own g.R.Row.at_rest c.args.self.now c.args.room.now _ c.requires.lent c.joined.new.marks c.in_ok-kept.ensures.marks (ap (λ m. set m.items c.args.self.now.marks c.joined.new.marks) c.list-list.ensures) in
    keeps_both own c.in_ok-anew.ensures.room

pub returns-clause-below : goal.returns-clause-below
returns-clause-below g c = λ node (set, is).
    let same = rw c.in-Some.is at c.in_ok-anew.ensures.same in
    let over = rw c.in-Some.is at c.in_ok-anew.ensures.over in
    let narrowed = rw c.in-Some.is at c.in_ok-anew.ensures.narrowed in
    anew_is is c.args.at c.requires.inside (c.in_ok-kept.ensures.kept set is.siblings) (take c.in_ok-kept.kept c.deref.result.now) (ap (take c.in_ok-kept.kept) c.deref.ensures.value)
    c.in-Some.anew same.0 same.1 over (narrowed set is.siblings)

pub returns-clause-work : goal.returns-clause-work
returns-clause-work g c = λ node (set, is).
    omega (arith, c.in_ok-kept.ensures.joins, work_is is c.args.at c.requires.inside)

pub returns-clause-little : goal.returns-clause-little
returns-clause-little g c =
    let (node, (set, is)) = c.requires.given in
    omega (arith, c.in_ok-kept.ensures.joins, few is c.args.at c.requires.inside)

pub returns-clause-inner : goal.returns-clause-inner
returns-clause-inner g c = grind (arith, common_steps, keeps_same)

pub returns-clause-lent : goal.returns-clause-lent
returns-clause-lent g c =
    let own = keeps_own g.R.Row.at_rest c.args.self.now c.args.room.now _ c.requires.lent c.joined.new.marks c.in_ok-kept.ensures.marks (ap (λ m. set m.items c.args.self.now.marks c.joined.new.marks) c.list-list.ensures) in
    keeps_both own (keeps_both c.in_ok-anew.ensures.room (keeps_same g.R.Row.at_rest c.args.self.now c.reprojected.new.room c.take_back-2.new.self c.take_back-2.ensures))

pub returns-clause-wider : goal.returns-clause-wider
returns-clause-wider g c = λ before after keeps.
    let wider = rw c.in-Some.is at c.in_ok-anew.ensures.wider in
    record { outer = λ index weights low held. keeps.outer index weights (omega arith) held; own = λ held. keeps.outer c.args.self.now.marks c.args.self.now.local.value.weights wider held }
