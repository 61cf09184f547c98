-- What a room keeps.
use Rattle.std.proofs.Common.{◌≡◌, ℕ, ◌+◌, ◌<◌, List, [], ◌∷◌, ◌++◌, length, set, take, arith}
use Rattle.std.proofs.lemmas.Grind.{common_steps}
use Rattle.mine_rows.specs.declared.marks.Marks.{Marks}
use Rattle.mine_vertical.specs.declared.siblings.Siblings.{Siblings}
use Rattle.mine_vertical.specs.declared.search_scratch.SearchScratch.{SearchScratch}
use Rattle.mine_vertical.specs.Projected.{Keeps, Serves}

pub keeps_same : {R : Type 0} (at_rest : List ℕ → Marks → Type 0) (base : Siblings R) (before after : SearchScratch R) → after.marks ≡ before.marks → Keeps at_rest base before after
keeps_same at_rest base before after same = grind (arith, common_steps)

pub keeps_both : {R : Type 0} {at_rest : List ℕ → Marks → Type 0} {base : Siblings R} {first second third : SearchScratch R} → Keeps at_rest base first second → Keeps at_rest base second third → Keeps at_rest base first third
keeps_both one two = record { outer = λ index weights low held. two.outer index weights low (one.outer index weights low held); own = λ held. two.own (one.own held) }

module _ {R : Type 0} (at_rest : List ℕ → Marks → Type 0) (base : Siblings R) (before after : SearchScratch R) (serves : Serves at_rest before base) where
  -- its own marks are changed
  pub keeps_own : (marks : Marks) → at_rest base.local.value.weights marks → after.marks.items ≡ set before.marks.items base.marks marks → Keeps at_rest base before after
  keeps_own marks rests are = grind (arith, common_steps)

-- the marks up to its own stay, and others come behind them
pub keeps_front : {R : Type 0} (at_rest : List ℕ → Marks → Type 0) (base : Siblings R) (before after : SearchScratch R) (marks : Marks) → base.marks < length before.marks.items
    → after.marks.items ≡ take (base.marks + 1) before.marks.items ++ marks ∷ [] → Keeps at_rest base before after
keeps_front at_rest base before after marks here are = grind (arith, common_steps)
