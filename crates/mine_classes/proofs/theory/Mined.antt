-- How a call that mines a class ends.
use Rattle.std.proofs.Common.{◌≡◌, ℕ, ◌+◌, ◌<◌, ◌≤◌, Bool, false, List, [], ◌∷◌, Ok, Err, arith, ◌⊎◌}
use Rattle.std.proofs.lemmas.Grind.{common_steps}
use Rattle.std.specs.Prelude.{IsTrue, Result}
use Rattle.mine_limit.specs.declared.fault.MineFault.{MineFault}
use Rattle.mine_limit.specs.declared.fault.MineFault.TheVariants.{TooMany}
use Rattle.basket_ranks.specs.Codes.{Coding}
use Rattle.basket_sets.specs.declared.counted.Counted.{Counted}
use Rattle.basket_sets.specs.Frequent.{is_frequent}
use Rattle.mine_classes.proofs.theory.Greatest.{rare_ranks_have_no_class}
use Rattle.mine_classes.specs.Mined.{MinesClass, class_size}

module _ {T : Type 0} {told_of limit_of : T → ℕ} {is_over : T → Bool} {coding : Coding} {rank : ℕ} where
  -- it fails
  pub mining_fails : {before after : T} {result : Result (List Counted × ℕ) MineFault} {fault : MineFault} → result ≡ Err fault
      → ((limit : ℕ) → fault ≡ TooMany limit → (limit ≡ limit_of before) × (IsTrue (is_over after) ⊎ (limit < class_size coding rank)))
      → told_of after ≤ told_of before + class_size coding rank → limit_of after ≡ limit_of before → MinesClass told_of limit_of is_over coding rank before after result
  mining_fails {before} {after} {result} {fault} is many most limit = grind (arith, common_steps)

  -- the rank is not frequent, and nothing is listed
  pub mining_none : {before : T} {list : List Counted} → is_frequent coding.baskets coding.minimum (rank ∷ []) ≡ false → list ≡ [] → is_over before ≡ false
      → MinesClass told_of limit_of is_over coding rank before before (Ok (list, 0))
  mining_none {before} {list} rare none going = grind (arith, common_steps, rare_ranks_have_no_class)
