-- From what opening and writing ensure to what a program does.
use Rattle.std.proofs.Common.{ℕ, List, ◌++◌, Option, Some, None, Result, ap, subst, ◌∙◌, append_assoc, arith}
use Rattle.std.proofs.lemmas.Grind.{common_steps}
use Rattle.std.proofs.KnownBytes.{Appends-kept}
use Rattle.std.specs.Io.KnownBytes.{Appends, Keeps}
use Rattle.std.specs.Prelude.{OnErr}
use Rattle.basket_report.specs.Bytes.{TakesPrefix}
use Rattle.basket_main.specs.Log.{Grows}

-- a log that has grown twice
pub grows_on : {A : Type 0} (before between after : Option (List A)) (first then : List A)
    → Grows before between first → Grows between after then → Grows before after (first ++ then)
grows_on None between after first then one two = tt
grows_on {A} (Some entries) between after first then one two =
    let Later : Option (List A) → Type 0 = λ log. Grows log after then in
    subst Later one two ∙ ap Some (append_assoc entries first then)

-- what was written is taken after a flush, and so is a prefix of it
pub taken_whole : (before now after : Option (List ℕ)) (text : List ℕ) → Appends before now text → Keeps now after → Appends before after text
taken_whole before now after text took kept = Appends-kept before now after text took kept

pub prefix_on_err : {T E : Type 0} (result : Result T E) (before now after : Option (List ℕ)) (text : List ℕ) → Appends before now text → Keeps now after → OnErr result (TakesPrefix before after text)
prefix_on_err h1 h2 h3 h4 h5 h6 h7 = grind (arith, common_steps)
