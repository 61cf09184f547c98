use Rattle.std.proofs.Common.{◌∷◌, get_or, map, subst, sym, ap, ◌∙◌}
use Rattle.mine_baskets.specs.Covers.{cover_of}
use Rattle.mine_vertical.specs.declared.local_baskets.LocalBaskets.{LocalBaskets}
use Rattle.mine_vertical.specs.LocalBaskets.{IsNarrowed, baskets_in}
use Rattle.mine_vertical.specs.Projected.{numbers_in}
use Rattle.mine_vertical.proofs.ExtensionLemmas.{number_at, row_at}
use Rattle.mine_vertical.proofs.RoomLemmas.{keeps_front}
use Rattle.mine_vertical.proofs.siblings.Siblings.reprojected.Goals as goal

pub narrowed-requires-clause-cover : goal.narrowed-requires-clause-cover
narrowed-requires-clause-cover g c =
    let base = c.args.self.now in
    let (set, are) = c.requires.rows in
    let sibling = c.index-sibling.result.now in
    let listed = rw c.in-Some.is at c.in_ok-cover.ensures in (
      sibling.number ∷ set,
      listed (baskets_in base.local.value) set (ap (λ (local : LocalBaskets). local.weights) c.deref.ensures ∙ base.local.value.weighs)
          (row_at base c.args.at c.requires.inside sibling c.index-sibling.ensures g.R.Row.stands set are)
          ∙ ap (λ local. cover_of (baskets_in local) (sibling.number ∷ set)) (sym c.deref-2.ensures),
    )

pub returns-clause-narrowed : goal.returns-clause-narrowed
returns-clause-narrowed g c = λ set are.
    let base = c.args.self.now in
    let sibling = c.index-sibling.result.now in
    let listed = rw c.in-Some.is at c.in_ok-cover.ensures in
    let numbers = map (λ s. s.number) c.args.siblings.now in
    let named = number_at base c.args.at c.requires.inside sibling c.index-sibling.ensures in
    let is = c.in_ok-local.ensures.narrowed (sibling.number ∷ set)
    (listed (baskets_in base.local.value) set (ap (λ (local : LocalBaskets). local.weights) c.deref.ensures ∙ base.local.value.weighs)
    (row_at base c.args.at c.requires.inside sibling c.index-sibling.ensures g.R.Row.stands set are)
    ∙ ap (λ local. cover_of (baskets_in local) (sibling.number ∷ set)) (sym c.deref-2.ensures)) in
    subst (λ inner. IsNarrowed base.local.value (get_or (numbers_in base) c.args.at 0 ∷ set) numbers inner) (sym c.in_ok-new.ensures.ok)
    (subst (λ kept. IsNarrowed base.local.value (get_or (numbers_in base) c.args.at 0 ∷ set) kept c.in_ok-local.local) (c.deref-3.ensures.value ∙ c.in_ok-numbers.ensures)
    (subst (λ number. IsNarrowed base.local.value (number ∷ set) c.deref-3.result.now c.in_ok-local.local) (sym named)
    (subst (λ outer. IsNarrowed outer (sibling.number ∷ set) c.deref-3.result.now c.in_ok-local.local) c.deref-2.ensures is)))

pub returns-clause-room : goal.returns-clause-room
returns-clause-room g c = let (marks, rests, are) = c.in_ok-add_marks.ensures in keeps_front g.R.Row.at_rest c.args.self.now c.args.room.now c.add_marks.new.self marks c.requires.marks are
