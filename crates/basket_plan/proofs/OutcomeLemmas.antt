-- What `clap` makes of the words of a command: the kinds of error that may come, and the rows.
use Rattle.std.proofs.Common.{◌≡◌, ◌∙◌, List, [], ◌∷◌, false, None, refl, sym, ap, ap₂}
use Rattle.std.specs.Prelude.{fold}
use Rattle.clap.specs.Kinds.{Kinds, or_else}
use Rattle.clap.specs.Faults.{check_fault, defaults_fault, settle_fault, turn_fault, walk_fault}
use Rattle.clap.specs.Simple.{Shape}
use Rattle.clap.specs.Walk.{Held, Row, Text, Walk, finished, settled, walk_from, walked}

-- the kinds of error that may come, and the rows
abbrev pub Outcome : Type 0
Outcome = Kinds × List Row

-- the outcome if these kinds come first
abbrev pub preceded : Kinds → Outcome → Outcome
preceded kinds o = (or_else kinds o.0, o.1)

or_else-assoc : (a b c : Kinds) → or_else (or_else a b) c ≡ or_else a (or_else b c)
or_else-assoc [] b c = refl
or_else-assoc (k ∷ ks) b c = refl

pub or_else-none : (a : Kinds) → or_else a [] ≡ a
or_else-none [] = refl
or_else-none (k ∷ ks) = refl

pub preceded-twice : (a b : Kinds) (o : Outcome) → preceded (or_else a b) o ≡ preceded a (preceded b o)
preceded-twice a b o = ap (λ (kinds : Kinds). (kinds, o.1)) (or_else-assoc a b o.0)

module _ (s : Shape) where
  abbrev pub settling : Held → Kinds
  settling h = settle_fault s.rules s.args_override_self h

  abbrev pub ended : Held → Outcome
  ended h = (or_else (settling h) (or_else (defaults_fault (settled s.rules h).rows s.rules) (check_fault s (finished s.rules h) false)), finished s.rules h)

  -- what the words come to after a walk
  abbrev pub outcome : Walk → List Text → Outcome
  outcome w words = preceded (walk_fault s [] w words) (ended (fold (walked s.rules []) w words).held)

  -- a word fails by these kinds, and leads to this walk
  pub record Leads (w : Walk) (word : Text) (kinds : Kinds) (after : Walk) : Type 0 where
    pub fault : turn_fault s [] w word ≡ kinds
    pub walk : walked s.rules [] w word ≡ after

  pub led : (w : Walk) (word : Text) (kinds : Kinds) (after : Walk) → Leads w word kinds after → (rest : List Text) → outcome w (word ∷ rest) ≡ preceded kinds (outcome after rest)
  unfolding walk_fault
  led w word kinds after leads rest =
      preceded-twice (turn_fault s [] w word) (walk_fault s [] (walked s.rules [] w word) rest) (ended (fold (walked s.rules []) (walked s.rules [] w word) rest).held)
      ∙ ap₂ (λ (k : Kinds) (v : Walk). preceded k (outcome v rest)) leads.fault leads.walk

  -- words that use first what is held
  abbrev pub Settles : List Text → Type 0
  Settles words = (h : Held) → outcome (walk_from h) words ≡ preceded (settling h) (outcome (walk_from (settled s.rules h)) words)

  -- a word that uses what is held, and then fails by these kinds and leads to these rows
  pub record Uses (word : Text) (kinds : List Row → Kinds) (rows : List Row → List Row) : Type 0 where
    pub leads : (h : Held) → Leads (walk_from h) word (or_else (settling h) (kinds (settled s.rules h).rows)) (walk_from (record h { rows = rows (settled s.rules h).rows; pending = None }))

  pub settles-first : (word : Text) (kinds : List Row → Kinds) (rows : List Row → List Row) → Uses word kinds rows → (rest : List Text) → Settles (word ∷ rest)
  settles-first word kinds rows uses rest h =
      led _ _ _ _ (uses.leads h) rest
      ∙ preceded-twice (settling h) (kinds (settled s.rules h).rows) _
      ∙ sym (ap (preceded (settling h)) (led _ _ _ _ (uses.leads (settled s.rules h)) rest))
