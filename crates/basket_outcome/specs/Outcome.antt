-- What a run over an input is to write, or why it writes nothing.
use Rattle.std.specs.Prelude.{ℕ, Bool, false, List, [], Option, Result, Ok, Err, filter, length, nat_lt, ◌==◌, if◌then◌else◌}
use Rattle.basket_core.specs.Listing.{Listing}
use Rattle.mine_limit.specs.declared.fault.MineFault.{MineFault}
use Rattle.mine_limit.specs.declared.fault.MineFault.TheVariants.{TooMany}
use Rattle.basket_sets.specs.declared.minimum.Minimum.{Minimum}
use Rattle.basket_sets.specs.declared.weighted.Weighted.{Weighted}
use Rattle.basket_sets.specs.Frequent.{frequent_items_of, frequent_of}
use Rattle.basket_rules.specs.Condensed.{closed_in, closed_of, maximal_in, maximal_of}
use Rattle.basket_rules.specs.Rules.{rules_among, rules_of}
use Rattle.basket_read.specs.declared.fault.ReadFault.{ReadFault}
use Rattle.basket_report.specs.Report.{report_of, rules_report_of}
use Rattle.basket_report.specs.Style.{Wording}
use Rattle.basket_outcome.specs.declared.fault.RunFault.{RunFault}
use Rattle.basket_outcome.specs.declared.fault.RunFault.TheVariants.{Input, Mine}
use Rattle.basket_plan.specs.declared.plan.Ask.{Ask}
use Rattle.basket_plan.specs.declared.plan.Ask.TheVariants.{Items, Sets, Closed, Maximal, Rules}
use Rattle.basket_outcome.specs.declared.contents.Contents.{Contents}
use Rattle.basket_outcome.specs.declared.contents.Contents.TheVariants as contents
use Rattle.basket_outcome.specs.Contents.{contents_of, wording_with}
use Rattle.basket_outcome.specs.Counted.{listing_in}
use Rattle.basket_plan.specs.Plan.{Question}

-- the text of what is asked for
abbrev pub text_of : Wording → Ask → List Weighted → Minimum → List ℕ
text_of wording Items baskets minimum = report_of wording (frequent_items_of baskets minimum)
text_of wording Sets baskets minimum = report_of wording (frequent_of baskets minimum)
text_of wording Closed baskets minimum = report_of wording (closed_of baskets minimum)
text_of wording Maximal baskets minimum = report_of wording (maximal_of baskets minimum)
text_of wording (Rules confidence) baskets minimum = rules_report_of wording (rules_of baskets minimum confidence)

-- whether there are more frequent sets than the limit, which isn't asked for items
abbrev pub are_too_many : Ask → List Weighted → Minimum → ℕ → Bool
are_too_many Items baskets minimum limit = false
are_too_many _ baskets minimum limit = nat_lt limit (length (frequent_of baskets minimum))

-- the text of a report on the sets of a counted input that meet the minimum
abbrev pub text_in : Wording → Ask → Listing → List ℕ
text_in wording Items listing = report_of wording (filter (λ c. length c.set == 1) listing.sets)
text_in wording Sets listing = report_of wording listing.sets
text_in wording Closed listing = report_of wording (closed_in listing.sets)
text_in wording Maximal listing = report_of wording (maximal_in listing.sets)
text_in wording (Rules confidence) listing = rules_report_of wording (rules_among listing confidence)

abbrev pub are_too_many_in : Ask → Listing → ℕ → Bool
are_too_many_in Items listing limit = false
are_too_many_in _ listing limit = nat_lt limit (length listing.sets)

-- the text of what is asked for, unless there are more frequent sets than the limit; of CSV with the names of the items
abbrev pub report_of_baskets : List Weighted → Option (List (List ℕ)) → Question → Result (List ℕ) MineFault
report_of_baskets baskets names question =
    if are_too_many question.ask baskets question.minimum question.limit then Err (TooMany question.limit)
    else Ok (text_of (wording_with question.layout.separator names) question.ask baskets question.minimum)

abbrev pub report_of_listing : Listing → Option (List (List ℕ)) → Question → Result (List ℕ) MineFault
report_of_listing listing names question =
    if are_too_many_in question.ask listing question.limit then Err (TooMany question.limit)
    else Ok (text_in (wording_with question.layout.separator names) question.ask listing)

abbrev pub of_mining : Result (List ℕ) MineFault → Result (List ℕ) RunFault
of_mining (Ok text) = Ok text
of_mining (Err fault) = Err (Mine fault)

abbrev pub of_listing : Result Listing ReadFault → Option (List (List ℕ)) → Question → Result (List ℕ) RunFault
of_listing (Ok listing) names question = of_mining (report_of_listing listing names question)
of_listing (Err fault) names question = Err (Input fault)

-- the outcome for what an input says
abbrev pub outcome_for : Contents → Question → Result (List ℕ) RunFault
outcome_for (contents.Baskets baskets names) question = of_mining (report_of_baskets baskets names question)
outcome_for (contents.Counts lines names) question = of_listing (listing_in question lines) names question

-- the outcome for what an input says, or for its fault
abbrev pub outcome_of : Result Contents ReadFault → Question → Result (List ℕ) RunFault
outcome_of (Ok contents) question = outcome_for contents question
outcome_of (Err fault) question = Err (Input fault)

-- the outcome for an input: the text of what is asked for, or a fault
abbrev pub outcome : List ℕ → Question → Result (List ℕ) RunFault
outcome bytes question = outcome_of (contents_of question.layout [] bytes) question
