-- What a search for a class begins with.
use Rattle.std.proofs.Common.{◌≡◌, ℕ, ◌<◌, Option, true, List, [], ◌∷◌, ◌++◌, get_or, length, map, ap, ◌∙◌, arith}
use Rattle.std.proofs.lemmas.Grind.{common_steps}
use Rattle.std.proofs.lemmas.Bool.{le-leb}
use Rattle.basket_lists.specs.CountedSets.{set_at}
use Rattle.basket_lists.proofs.theory.Places.{set_added}
use Rattle.basket_ranks.specs.Codes.{Coding}
use Rattle.basket_sets.specs.declared.counted.Counted.{Counted}
use Rattle.basket_sets.specs.Itemset.{rising}
use Rattle.mine_classes.proofs.theory.Conditional.{support_with}
use Rattle.mine_search.specs.Class.{IsClass, IsOver, class_sets, of_rank}
use Rattle.mine_search.specs.Node.{Node, Supports, is_met, sets_at}
use Rattle.mine_search.specs.Search.{FindsAll, IsNode, Reached, found_at}

-- the rank's set was found, and its node is there
pub record IsFirst (over : Supports) (rank : ℕ) (sets : List Counted) : Type 0 where
  pub first : sets ≡ found_at over (rank ∷ []) ∷ []
  pub inner : IsNode (set_at sets 0) (of_rank over rank)

module _ {coding : Coding} {over : Supports} (is : IsOver coding over) (rank : ℕ) where
  pub first_is : {before after : List Counted} {set : List ℕ} {item support : ℕ} → rank < length coding.items → before ≡ [] → after ≡ before ++ record { set = set; count = support } ∷ []
      → set ≡ rising (item ∷ []) → item ≡ get_or coding.items rank 0 → support ≡ over.support (rank ∷ []) → IsFirst over rank after
  first_is {before} {after} {set} {item} {support} inside none adds set_is item_is support_is = grind (arith, common_steps, support_with, set_added)

  -- with what is found below it, that is the class
  pub all_found : {before after : Reached} → IsFirst over rank before.sets → FindsAll before after (of_rank over rank) → after.sets ≡ map (found_at over) (class_sets over rank)
  all_found first found = found.sets ∙ ap (λ l. l ++ map (found_at over) (sets_at (of_rank over rank))) first.first

pub is_frequent_rank : {P : Type 0} {gives : P → Node → Type 0} {coding : Coding} {rank support : ℕ} {below : Option P} {over : Supports} → IsClass gives coding rank support below over → is_met over (rank ∷ []) ≡ true
is_frequent_rank {P} {gives} {coding} {rank} {support} {below} {over} is = le-leb over.least (over.support (rank ∷ [])) (omega (arith, is.frequent, is.supported))
