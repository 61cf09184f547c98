use Rattle.std.proofs.Common.{◌≡◌, ◌-◌, ℕ, List, false}
use Rattle.std.specs.Io.KnownBytes.{Consumes}
use Rattle.basket_read.specs.Input.{IsInputSoFar}
use Rattle.basket_read.proofs.batches.read_batches.Given as goal

abbrev pub invariant-reading : goal.invariant-reading
invariant-reading g l = record {
  unfailed : g.S.Source.has_failed l.reader ≡ false;
  «open» : g.S.Source.at_end l.reader ≡ false;
  read : (given : List ℕ) × Consumes (g.S.Source.left l.initial.reader) (g.S.Source.left l.reader) given × IsInputSoFar l.input l.counting given;
}

abbrev pub decreases-reading : goal.decreases-reading
decreases-reading g l = 4294967295 - l.input.taken
