use Rattle.std.proofs.Common.{◌≡◌, ◌++◌, map, take}
use Rattle.std.specs.Prelude.{All}
use Rattle.basket_lists.specs.Packed.{Coding, IsKept, kept}
use Rattle.basket_lists.proofs.counted_sets.append.append_words.Given as goal

-- the words so far were added
abbrev pub invariant-loop-other : goal.invariant-loop-other
invariant-loop-other l = record {
  words : (coding : Coding) → All (IsKept coding l.fn.plain) l.fn.words.items → All (IsKept coding l.other_plain) l.others → All (IsKept coding l.plain) l.words.items;
  sets : (coding : Coding) → All (IsKept coding l.fn.plain) l.fn.words.items → All (IsKept coding l.other_plain) l.others
      → map (kept coding l.plain) l.words.items ≡ map (kept coding l.fn.plain) l.fn.words.items ++ map (kept coding l.other_plain) (take l.other-index l.others);
}
