-- From the frequent sets of coded baskets to those of a database.
use Rattle.std.proofs.Common.{◌≡◌, ◌+◌, ◌^◌, ◌<◌, ℕ, List, length, sym, ap, ◌∙◌, subst, arith}
use Rattle.std.proofs.lemmas.Grind.{common_steps}
use Rattle.basket_sets.specs.declared.minimum.Minimum.{Minimum}
use Rattle.basket_sets.specs.declared.weighted.Weighted.{Weighted}
use Rattle.basket_ranks.specs.Codes.{Coding, coding_of, merged_coding, baskets_of, frequent_of_coding, ranks_of}
use Rattle.basket_ranks.specs.Depth.{HasSetOfSize}
use Rattle.basket_sets.specs.Frequent.{frequent_of}
use Rattle.basket_sets.specs.Support.{total_of}
use Rattle.basket_ranks.proofs.theory.Coding.{coding_keeps_frequent, coded_total, merging_keeps_coded}
use Rattle.basket_ranks.proofs.theory.Depth.{deep_sets_are_many}
use Rattle.mine_classes.specs.Mined.{RanksAreFrequent}
use Rattle.mine_classes.proofs.theory.Listed.{coded_ranks_are_frequent}
use Rattle.basket_mining.specs.Mining.{IsWorkOver}
use Rattle.basket_mining.specs.declared.mining.Work.{Work}
use Rattle.basket_core.specs.Listing.{Listing, listing_of}
use Rattle.mine_limit.specs.declared.fault.MineFault.{MineFault}
use Rattle.std.specs.Prelude.{IfOk, Result}
use Rattle.mine_apriori.specs.Work.{candidate_count, CandidatesBySets}

module _ (database : List Weighted) (minimum : Minimum) (coding : Coding) (made : coding ≡ coding_of database minimum) where
  pub list_is : frequent_of_coding coding ≡ frequent_of database minimum
  list_is = ap frequent_of_coding made ∙ coding_keeps_frequent database minimum

  pub total_is : total_of coding.baskets ≡ total_of database
  total_is = ap (λ c. total_of c.baskets) made ∙ coded_total (ranks_of database minimum) database

  -- a frequent set of enough items settles that there are more sets than the limit
  pub settled : (size limit : ℕ) → limit + 1 < 2 ^ size → HasSetOfSize (frequent_of_coding coding) size → limit < length (frequent_of database minimum)
  settled size limit enough h = grind (arith, common_steps, deep_sets_are_many, list_is)

-- ---- equal baskets merged

pub merged_list : (coding merged : Coding) → merged ≡ merged_coding coding → frequent_of_coding merged ≡ frequent_of_coding coding
merged_list coding merged is = ap frequent_of_coding is ∙ (merging_keeps_coded coding).0

pub merged_total : (coding merged : Coding) → merged ≡ merged_coding coding → total_of merged.baskets ≡ total_of coding.baskets
merged_total coding merged is = ap (λ c. total_of c.baskets) is ∙ (merging_keeps_coded coding).1

-- a coding with the frequent sets of another one
module _ (coding merged : Coding) (list : frequent_of_coding merged ≡ frequent_of_coding coding) (total : total_of merged.baskets ≡ total_of coding.baskets) (least : merged.minimum ≡ coding.minimum) where
  pub merged_listing : listing_of merged ≡ listing_of coding
  merged_listing = λ i. record { sets = list i; total = total i }

  -- there are as many candidates
  pub count_is : CandidatesBySets → (database : List Weighted) (minimum : Minimum) → coding ≡ coding_of database minimum
      → candidate_count (baskets_of merged) merged.minimum ≡ candidate_count database minimum
  count_is law database minimum made = grind (arith, common_steps, list_is)

module _ (database : List Weighted) (minimum : Minimum) (coding : Coding) (made : coding ≡ coding_of database minimum) where
  pub ranks_are_frequent : RanksAreFrequent coding
  ranks_are_frequent = subst RanksAreFrequent (sym made) (coded_ranks_are_frequent database minimum).0

  -- what is answered for the coding is answered for the database
  pub sets_are : (result : Result (Listing × Work) MineFault) → IfOk result (λ mined. mined.0 ≡ listing_of coding) → IfOk result (λ mined. mined.0.sets ≡ frequent_of database minimum)
  sets_are h1 h2 = grind (arith, common_steps, list_is)

  pub totals_are : (result : Result (Listing × Work) MineFault) → IfOk result (λ mined. mined.0 ≡ listing_of coding) → IfOk result (λ mined. mined.0.total ≡ total_of database)
  totals_are h1 h2 = grind (arith, common_steps)

  pub work_is : (such : List Weighted → Minimum → Work) (result : Result (Listing × Work) MineFault) → IfOk result (λ mined. IsWorkOver coding such mined.1) → IfOk result (λ mined. mined.1 ≡ such database minimum)
  work_is h1 h2 h3 = grind (arith, common_steps)
