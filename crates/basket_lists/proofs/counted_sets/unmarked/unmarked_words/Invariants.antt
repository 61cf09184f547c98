use Rattle.std.proofs.Common.{map}
use Rattle.std.specs.Prelude.{All}
use Rattle.basket_lists.specs.Packed.{Coding, IsKept, kept}
use Rattle.basket_lists.proofs.UnmarkedLemmas.{AreUnmarkedBelow}
use Rattle.basket_lists.proofs.counted_sets.unmarked.unmarked_words.Given as goal

-- the words so far were taken
abbrev pub invariant-loop-index : goal.invariant-loop-index
invariant-loop-index l = record {
  words : (coding : Coding) → All (IsKept coding l.other_plain) l.others → All (IsKept coding l.plain) l.words.items;
  sets : (coding : Coding) → All (IsKept coding l.other_plain) l.others
      → AreUnmarkedBelow l.marks (map (kept coding l.other_plain) l.others) l.index (map (kept coding l.plain) l.words.items);
}
