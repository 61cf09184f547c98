use Rattle.std.proofs.Common.{ℕ, List, [], ◌∷◌, ◌∙◌, Option, None, Some, refl, subst}
use Rattle.std.specs.IoError.{error_kind}
use Rattle.basket.specs.Count.{IsCountFault}
use Rattle.basket_plan.specs.declared.invocation.Task.TheVariants.{Count}
use Rattle.basket_main.proofs.ProgramLemmas.{grows_on}
use Rattle.basket_main.proofs.program.count.Goals as goal

pub returns-in-Err-clause-asked : goal.returns-in-Err-clause-asked
returns-in-Err-clause-asked g c = λ words is. (
  record { task = Count c.args.counting.plan c.args.counting.sets; input = c.args.counting.input },
  [],
  c.args.counting.sets ∷ [],
  is,
  refl,
  c.in-Err.ensures.opened,
)

pub returns-in-Err-open_sets-clause-asked : goal.returns-in-Err-open_sets-clause-asked
returns-in-Err-open_sets-clause-asked g c = λ words is. (
  record { task = Count c.args.counting.plan c.args.counting.sets; input = c.args.counting.input },
  c.args.counting.input ∷ [],
  [],
  is,
  refl,
  grows_on (g.I.Inputs.opened c.args.inputs.now) (g.I.Inputs.opened c.open.new.self) (g.I.Inputs.opened c.open_sets.new.self)
      ((c.args.counting.input, None) ∷ []) ((c.args.counting.sets, Some (error_kind c.in-Err-open_sets.error)) ∷ [])
      c.in-Ok.ensures.opened c.in-Err-open_sets.ensures.opened,
)

pub returns-clause-fault : goal.returns-clause-fault
returns-clause-fault g c =
    let lists = c.run_count-ran.new.sets in
    let reader = c.run_count-ran.new.reader in
    let fault = λ (asked given : Option (List ℕ)).
    IsCountFault c.args.counting.plan.layout asked (g.I.Sets.Source.has_failed lists) given (g.I.Input.Source.left reader) (g.I.Input.Source.has_failed reader) c.in-Err-ran.fault in
    let asked = c.in-Ok-open_sets.ensures.left ∙ c.in-Ok.ensures.same c.args.counting.sets in
    let given = subst (fault (g.I.Sets.Source.left c.in-Ok-open_sets.lists)) c.in-Ok.ensures.left c.in-Err-ran.ensures.fault in
    (lists, reader, subst (λ sets. fault sets (g.I.Inputs.bytes c.args.inputs.now c.args.counting.input)) asked given)
