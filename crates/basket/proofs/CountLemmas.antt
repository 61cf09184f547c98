-- The counts of given sets.
use Rattle.std.proofs.Common.{◌≡◌, ◌≢◌, ◌∙◌, ℕ, Bool, false, List, Option, Result, Ok, Err, Global, ap, subst, sym, arith}
use Rattle.std.proofs.lemmas.Grind.{common_steps}
use Rattle.std.specs.Prelude.{IfSome, MatchResult}
use Rattle.std.proofs.lemmas.Option.{IfSome_then}
use Rattle.basket_plan.specs.declared.layout.Layout.{Layout}
use Rattle.basket_read.specs.declared.fault.ReadFault.{ReadFault}
use Rattle.basket_read.specs.declared.fault.ReadFault.TheVariants.{Memory}
use Rattle.basket_outcome.specs.declared.contents.Contents.{Contents}
use Rattle.basket_outcome.specs.declared.fault.RunFault.{RunFault}
use Rattle.basket_outcome.specs.declared.fault.RunFault.TheVariants.{Input, Sets}
use Rattle.basket_outcome.specs.declared.prepared.PreparedReport.{PreparedReport}
use Rattle.basket_read.specs.Fault.{Returns, ReturnsBoth}
use Rattle.basket_outcome.specs.Contents.{asked_in, contents_of}
use Rattle.basket.specs.Count.{AreReadable, AreReadableSets, IsCountsFault, MakesCounts, OfBoth, count_outcome, counts_in, of_asked, of_contents}
use Rattle.basket_outcome.specs.Prepared.{prepared_text}
use Rattle.mine_sets.specs.Asked.{asked_of}

-- ---- sums of counts

-- ---- both readers

abbrev was_read : {X : Type 0} → X → Result X ReadFault
was_read x = Ok x

is_read : {X : Type 0} {x : X} {fault : ReadFault} → was_read x ≡ Err fault → ⊥
is_read is = cc

counts_are_readable : (layout : Layout) (sets : List (List ℕ)) (contents : Contents) → AreReadable (counts_in layout sets contents)
counts_are_readable h1 h2 h3 = grind (arith, common_steps)

pub sets_refuse : (layout : Layout) (asked left : Option (List ℕ)) (fault : ReadFault) → IfSome asked (λ bytes. ReturnsBoth {A = Global} (Err fault) (asked_in layout bytes))
    → OfBoth asked left (λ sets bytes. fault ≢ Memory → count_outcome layout sets bytes ≡ Err (Sets fault))
sets_refuse h1 h2 h3 h4 h5 = grind (arith, common_steps)

module _ (layout : Layout) (asked : Option (List ℕ)) (sets names : List (List ℕ)) (read : IfSome asked (λ bytes. asked_in layout bytes ≡ Ok (sets, names))) where
  abbrev OfOutcome : Option (List ℕ) → Result (List ℕ) RunFault → Type 0
  OfOutcome left answer = OfBoth asked left (λ s bytes. count_outcome layout s bytes ≡ answer)

  pub contents_refuse : (left : Option (List ℕ)) (fault : ReadFault) → IfSome left (λ bytes. Returns (Err fault) (contents_of layout names bytes))
      → OfBoth asked left (λ s bytes. fault ≢ Memory → count_outcome layout s bytes ≡ Err (Input fault))
  contents_refuse left fault refused = grind (arith, common_steps)

  pub sets_are_readable : AreReadableSets layout asked
  sets_are_readable = IfSome_then asked read (λ bytes e fault refused. is_read (sym e ∙ refused))

  -- what was counted is the outcome
  outcome_is : (left : Option (List ℕ)) (contents : Contents) → IfSome left (λ bytes. Returns (Ok contents) (contents_of layout names bytes)) → OfOutcome left (counts_in layout (asked_of sets) contents)
  outcome_is left contents said = IfSome_then asked read (λ s e. IfSome_then left said (λ bytes is. ap (of_asked layout bytes) e ∙ ap (of_contents layout (asked_of sets)) is))

  module _ (asked_failed failed : Bool) (left after : Option (List ℕ)) (contents : Contents) (asked_works : asked_failed ≡ false) (works : failed ≡ false)
      (said : IfSome left (λ bytes. Returns (Ok contents) (contents_of layout names bytes))) where
    told : (answer : Result (List ℕ) RunFault) → counts_in layout (asked_of sets) contents ≡ answer → OfOutcome left answer
    told answer is = subst (OfOutcome left) is (outcome_is left contents said)

    readable : OfBoth asked left (λ s bytes. AreReadable (count_outcome layout s bytes))
    readable = IfSome_then asked (outcome_is left contents said) (λ s known. IfSome_then left known (λ bytes is. subst AreReadable (sym is) (counts_are_readable layout (asked_of sets) contents)))

    pub counts_make : (result : Result PreparedReport RunFault) → MatchResult result (λ made. counts_in layout (asked_of sets) contents ≡ Ok (prepared_text made)) (IsCountsFault (counts_in layout (asked_of sets) contents))
        → MakesCounts layout asked asked_failed left after failed result
    counts_make h1 h2 = grind (arith, common_steps, told, readable)
