-- The trees of a class, by any list of it.
use Rattle.std.proofs.Common.{◌≡◌, ℕ, ◌+◌, ◌≤◌, Bool, true, false, not, List, [], ◌∷◌, map, cond, refl, sym, ◌∙◌, arith}
use Rattle.std.specs.List.{count_by}
use Rattle.std.proofs.lemmas.List.Filters.{length-filter_both}
use Rattle.std.proofs.lemmas.List.Sums.{length-filter, sum_by-cons}
use Rattle.basket_ranks.specs.Codes.{Coding}
use Rattle.basket_sets.specs.declared.counted.Counted.{Counted}
use Rattle.basket_sets.specs.Frequent.{is_frequent}
use Rattle.mine_classes.specs.Classes.{ListsClass, class_of}
use Rattle.mine_classes.specs.Mined.{class_size}
use Rattle.mine_classes.proofs.theory.Classes.{as_many_pass}
use Rattle.mine_classes.proofs.theory.Greatest.{rare_ranks_have_no_class}
use Rattle.mine_classes.proofs.theory.Together.{classes_are_listed}
use Rattle.mine_classes.proofs.theory.Sums.{sum_by-map}
use Rattle.mine_fp.specs.PatternBase.{supports_in}
use Rattle.mine_fp.specs.Trees.{class_trees, has_tree}
use Rattle.mine_search.specs.Class.{IsOver, class_sets, of_rank}
use Rattle.mine_search.specs.Node.{is_met, work_at}
use Rattle.mine_search.specs.Walk.{sets_below}
use Rattle.mine_search.proofs.theory.Class.{class_listed, counted_set}
use Rattle.mine_search.proofs.theory.Walk.{work_is_sum}

module _ (coding : Coding) (rank : ℕ) where
  abbrev test : List ℕ → Bool
  test set = has_tree coding.baskets coding.minimum set

  trees_in : (list : List Counted) → ListsClass coding.baskets coding.minimum rank list → count_by (λ c. test c.set) list ≡ class_trees coding rank
  trees_in list lists =
      sym (length-filter (λ (c : Counted). test c.set) list)
      ∙ as_many_pass test coding.baskets coding.minimum rank list (class_of coding.baskets coding.minimum rank) lists (classes_are_listed coding.baskets coding.minimum rank)

  -- a search makes the trees of the class
  pub trees_are : (least : ℕ) → (is : IsOver coding (supports_in coding least)) → is_met (supports_in coding least) (rank ∷ []) ≡ true → 1 + work_at (of_rank (supports_in coding least) rank) ≡ class_trees coding rank
  trees_are least is frequent =
      let over = supports_in coding least in
      let below = work_is_sum (is_met over) over.work rank (rank ∷ []) in
      let all = sum_by-cons over.work (rank ∷ []) (sets_below (is_met over) rank (rank ∷ [])) in
      omega (arith, below, all) ∙ sym (sum_by-map (λ (c : Counted). cond (test c.set) 1 0) (counted_set is rank) (class_sets over rank)) ∙ trees_in (map (counted_set is rank) (class_sets over rank)) (class_listed is rank frequent)

  -- they are no more than its sets
  pub trees_few : class_trees coding rank ≤ class_size coding rank
  trees_few =
      let both = length-filter_both (λ (c : Counted). test c.set) (λ (c : Counted). not (test c.set)) (λ c. refl) (class_of coding.baskets coding.minimum rank) in omega arith

  -- a rank that is not frequent has none
  pub rare_trees : is_frequent coding.baskets coding.minimum (rank ∷ []) ≡ false → class_trees coding rank ≡ 0
  rare_trees rare = sym (trees_in [] (rare_ranks_have_no_class coding.baskets coding.minimum rank rare))
