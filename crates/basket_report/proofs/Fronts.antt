-- The front of some bytes, as it is written.
use Rattle.std.proofs.Common.{◌≡◌, ◌≢◌, ◌≤◌, ◌+◌, ◌-◌, ◌&&◌, ℕ, List, [], ◌∷◌, ◌++◌, Option, Ok, false, length, take, drop, nat_lt, refl, ap, ◌∙◌, arith, zero, suc}
use Rattle.std.proofs.lemmas.Grind.{common_steps}
use Rattle.std.proofs.lemmas.Bool.{ne_eqb}
use Rattle.std.proofs.lemmas.List.{take_rest, length-take, length-drop}
use Rattle.std.proofs.KnownBytes.{Appends-trans}
use Rattle.std.specs.Io.KnownBytes.{Appends}
use Rattle.basket_stream.specs.Stream.{write_fails}

-- the front of what is left goes on where the front before it ends
front_more : {X : Type 0} → (bytes : List X) (k n : ℕ) → take k bytes ++ take n (drop k bytes) ≡ take (k + n) bytes
front_more bytes zero n = let e : n ≡ 0 + n = omega arith in ap (λ m. take m bytes) e
front_more {X} [] (suc k) zero = let e : suc k ≡ suc k + 0 = omega arith in ap (λ m. take {A = X} m []) e
front_more {X} [] (suc k) (suc n) = none (suc k + suc n)
  where
    none : (m : ℕ) → [] ≡ take {A = X} m []
    none zero = refl
    none (suc m) = refl
front_more (b ∷ bytes) (suc k) n = let e : suc (k + n) ≡ suc k + n = omega arith in ap (λ l. b ∷ l) (front_more bytes k n) ∙ ap (λ m. take m (b ∷ bytes)) e

-- a write that takes something has not failed
pub some_taken : (E : Type 0) (n : ℕ) (bytes : List ℕ) → n ≢ 0 → write_fails {E = E} (Ok n) bytes ≡ false
some_taken E n bytes some = ap (λ b. b && nat_lt 0 (length bytes)) (ne_eqb n 0 some)

pub count_within : (bytes : List ℕ) (k n : ℕ) → k ≤ length bytes → n ≤ length (take (length bytes - k) (drop k bytes)) → k + n ≤ length bytes
count_within bytes k n within small = omega (arith, length-take (length bytes - k) (drop k bytes), length-drop k bytes)

pub written_more : (a b c : Option (List ℕ)) (bytes : List ℕ) (k n : ℕ) → Appends a b (take k bytes) → Appends b c (take n (take (length bytes - k) (drop k bytes))) → Appends a c (take (k + n) bytes)
written_more a b c bytes k n before now = grind (arith, common_steps, take_rest, front_more, Appends-trans)
