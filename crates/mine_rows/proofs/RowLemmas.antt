-- Rows of covers that are joined.
use Rattle.std.proofs.Common.{◌≡◌, ℕ, ◌+◌, true, not, List, get_or, subst, sym, ap, ◌∙◌, arith}
use Rattle.std.proofs.lemmas.Grind.{common_steps}
use Rattle.basket_sets.specs.Itemset.{contains, has}
use Rattle.basket_sets.proofs.theory.Members.{Member-filter, Member-from_filter}
use Rattle.basket_sets.proofs.theory.Rising.{Member-from_has, contains_each, has-from_Member, same_test}
use Rattle.basket_sets.proofs.theory.Ranges.{filter_members}
use Rattle.mine_rows.specs.declared.diffs.DiffList.{DiffList}
use Rattle.mine_rows.specs.Cover.{IsCover, common, cover_weight, lacking}
use Rattle.mine_rows.specs.Rows.{IsDiffList}
use Rattle.mine_rows.proofs.CoverLemmas.{lacking_joined, part_covers, parts_weigh}

-- what a cover lacks of what it shares with another is what the other lacks
lacking_common : (first second : List ℕ) → lacking first (common first second) ≡ lacking first second
lacking_common first second = grind (arith, common_steps, filter_members, same_test, Member-filter, Member-from_has, has-from_Member, Member-from_filter)

-- the weights of what two covers share, and of the rest of the first
pub rest_weighs : (weights first second : List ℕ) → cover_weight weights (common first second) + cover_weight weights (lacking first (common first second)) ≡ cover_weight weights first
rest_weighs weights first second =
    ap (λ l. cover_weight weights (common first second) + cover_weight weights l) (lacking_common first second) ∙ parts_weigh (λ tid. get_or weights tid 0) (has second) first

pub missing_covers : (weights parent cover : List ℕ) (row : DiffList) → IsDiffList weights parent cover row → IsCover weights row.missing.items
missing_covers weights parent cover row is = subst (IsCover weights) (sym is.missing) (part_covers weights parent (λ tid. not (has cover tid)) is.above)

module _ (weights parent first second : List ℕ) where
  pub common_covers : IsCover weights first → IsCover weights (common first second)
  common_covers is = part_covers weights first (has second) is

  pub diffs_lacking : (x y : DiffList) → IsDiffList weights parent first x → IsDiffList weights parent second y → lacking y.missing.items x.missing.items ≡ lacking first (common first second)
  diffs_lacking x y p q = grind (arith, common_steps, lacking_joined)

  pub rest_covers : IsCover weights first → IsCover weights (lacking first (common first second))
  rest_covers is = part_covers weights first (λ tid. not (has (common first second) tid)) is

  pub common_inside : contains first (common first second) ≡ true
  common_inside = contains_each first (common first second) (λ tid m. (Member-filter (has second) tid first m).0)
