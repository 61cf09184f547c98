-- Bytes that are written.
use Rattle.std.proofs.Common.{◌≡◌, ℕ, ◌+◌, Bool, false, List, ◌++◌, Option, Result, Ok, Err, length, take, refl, sym, subst, ◌∙◌, arith}
use Rattle.std.proofs.lemmas.Grind.{common_steps}
use Rattle.std.specs.Prelude.{◌↔◌, IsOk, OnErr, OnOk}
use Rattle.std.proofs.lemmas.Bool.{false≢true}
use Rattle.std.proofs.lemmas.List.{length-append}
use Rattle.std.proofs.KnownBytes.{Appends-trans}
use Rattle.std.specs.Io.KnownBytes.{Appends, Keeps}
use Rattle.basket_stream.specs.declared.failed.Failed.{Failed}
use Rattle.basket_report.specs.Bytes.{IsWritten, TakesPrefix}
use Rattle.basket_report.proofs.TextLemmas.{take_past}

-- what is kept afterwards is all of it
kept : (before now after : Option (List ℕ)) (text : List ℕ) → Appends before now text → Keeps now after → Appends before after text
kept h1 h2 h3 h4 h5 h6 = grind (arith, common_steps)

-- where all is taken and then kept, so is a front
pub front_on_err : (result : Result Unit Failed) (before now after : Option (List ℕ)) (text : List ℕ) → Appends before now text → Keeps now after → OnErr result (TakesPrefix before after text)
front_on_err h1 h2 h3 h4 h5 h6 h7 = grind (arith, common_steps)

-- bytes are written, as far as the writer goes
pub more_written : (start before after : Option (List ℕ)) (was_failed was_flush failed flush : Bool) (text bytes : List ℕ) (result : Result Unit Failed) → was_failed ≡ false → IsWritten start before was_failed was_flush text
    → OnOk result (Appends before after bytes) → OnErr result (TakesPrefix before after bytes) → OnErr result (flush ≡ false) → (failed ≡ false) ↔ IsOk result → IsWritten start after failed flush (text ++ bytes)
more_written start before after was_failed was_flush failed flush text bytes (Ok x) fresh is ok err last told = record {
  working = λ e. Appends-trans start before after text bytes (is.working fresh) ok;
  failed = λ e. absurd (false≢true (sym (told.1 refl) ∙ e));
  at_write = λ e. absurd (false≢true (sym (told.1 refl) ∙ e));
}
more_written start before after was_failed was_flush failed flush text bytes (Err fault) fresh is ok err last told = record {
  working = λ e. absurd (false≢true (told.0 e));
  failed = λ e. (let n = err.0 in (length text + n, omega (arith, err.1, length-append text bytes), subst (Appends start after) (sym (take_past text bytes n)) (Appends-trans start before after text (take n bytes) (is.working fresh) err.2)));
  at_write = λ e. last;
}
