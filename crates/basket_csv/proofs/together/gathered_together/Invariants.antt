use Rattle.std.proofs.Common.{◌≡◌, ◌++◌, ℕ, List, []}
use Rattle.std.specs.Prelude.{IfOk, MatchOption}
use Rattle.std.specs.Vec.Iter.{into_iter_items}
use Rattle.basket_csv.specs.Rows.{InParts, Rows}
use Rattle.basket_csv.specs.Together.{IsNumbered}
use Rattle.basket_csv.proofs.together.gathered_together.Given as goal

abbrev pub invariant-loop-part : goal.invariant-loop-part
invariant-loop-part g l = record {
  can : (goal.iterator-loop-part g).can_next l.part-iterator;
  ends : (goal.iterator-loop-part g).is_finite l.part-iterator;
  all : (names : List (List ℕ)) (rows : Rows) → InParts (IsNumbered g.G.Gathering.has g.G.Gathering.names_of l.reading names) l.fn.parts.items rows
      → (done : Rows) × (rest : Rows) × (rows ≡ done ++ rest) × MatchOption l.all (done ≡ []) (λ all. g.G.Gathering.has all l.reading names done)
      × InParts (λ part own. IfOk part (λ all. g.G.Gathering.has all l.reading names own)) (into_iter_items l.part-iterator) rest;
}
