-- A reader of records in memory.
use Rattle.std.proofs.Common.{◌≡◌, ℕ, ◌+◌, true, false, List, [], ◌∷◌, length, Option, Some, unwrap_or, Bor, refl, sym, ap, ◌∙◌, arith}
use Rattle.std.proofs.lemmas.Grind.{common_steps}
use Rattle.csv.specs.Machine.{ends_at_end}
use Rattle.csv.specs.Reading.{records_from, source_of, ReadRecord, Reached}
use Rattle.csv.specs.declared.reader.Reader.{Reader}
use Rattle.csv.proofs.ReadFacts.{rows-more, rows-end}
use Rattle.basket_csv.proofs.RecordLemmas.{leaves, records_none, records_some}

-- the bytes and the records that a reader of bytes in memory has left
abbrev Memory : Type 0
Memory = Reader (Bor (List ℕ))

abbrev known : Memory → Option (List ℕ)
known r = source_of (λ s. Some s.now) r

abbrev left : Memory → List ℕ
left r = unwrap_or (known r) []

abbrev rows : Memory → List (List (List ℕ))
rows r = records_from r.config (length (left r) + 1) r.state (left r)

-- what a reader of records has and keeps
pub record Goes (a b : Reader (Bor (List ℕ))) (row : List (List ℕ)) : Type 0 where
  pub begins : ends_at_end b.state ≡ false
  pub known : source_of (λ s. Some s.now) b ≡ Some (unwrap_or (source_of (λ s. Some s.now) b) [])
  pub rows : records_from a.config (length (unwrap_or (source_of (λ s. Some s.now) a) []) + 1) a.state (unwrap_or (source_of (λ s. Some s.now) a) [])
      ≡ row ∷ records_from b.config (length (unwrap_or (source_of (λ s. Some s.now) b) []) + 1) b.state (unwrap_or (source_of (λ s. Some s.now) b) [])

pub read_next : (a b : Reader (Bor (List ℕ))) (row : List (List ℕ)) → ends_at_end a.state ≡ false → known a ≡ Some (left a) → ReadRecord (λ s. Some s.now) a b true row → Goes a b row
unfolding Reached
read_next a b row begins e r =
    let h = rows-more (λ (s : Bor (List ℕ)). Some s.now) a b row a.config a.state (left a) (left a) [] refl e (refl, refl) r in
    let (z, at_z, reached) = h in
    let (read, next, same, ends) = reached in
    let (state, rest) = ends in
    let fewer = leaves a.config a.state [] [] (left a) read next in
    let left_z : left b ≡ z = ap (λ o. unwrap_or o []) at_z in
    let goes_on : records_from a.config (length read.2 + 1) read.1 read.2 ≡ rows b =
    ap (λ bytes. records_from a.config (length bytes + 1) read.1 bytes) (rest ∙ sym left_z) ∙ ap (λ s. records_from a.config (length (left b) + 1) s (left b)) state
    ∙ ap (λ cfg. records_from cfg (length (left b) + 1) b.state (left b)) (sym r.2) in
    grind (arith, common_steps, records_some)

pub read_last : (a b : Reader (Bor (List ℕ))) (row : List (List ℕ)) → known a ≡ Some (left a) → ReadRecord (λ s. Some s.now) a b false row → rows a ≡ []
read_last a b row e r = records_none a.config a.state (left a) (rows-end (λ (s : Bor (List ℕ)). Some s.now) a b row a.config (left a) refl e r)

pub known_bytes : (o : Option (List ℕ)) (bytes : List ℕ) → o ≡ Some bytes → o ≡ Some (unwrap_or o [])
known_bytes o bytes e = e ∙ ap (λ p. Some (unwrap_or p [])) (sym e)
