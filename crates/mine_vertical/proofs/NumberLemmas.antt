-- Rising numbers, and the ranks that they name.
use Rattle.std.proofs.Common.{◌≡◌, ℕ, zero, suc, Bool, List, [], ◌∷◌, get_or, length, map, take, refl, sym, inl, inr, arith}
use Rattle.std.proofs.lemmas.Grind.{common_steps}
use Rattle.std.specs.List.{filter, range_with_len}
use Rattle.std.proofs.lemmas.List.FromFn.{fill_by_all}
use Rattle.basket_sets.specs.Itemset.{IsRising}
use Rattle.basket_sets.proofs.theory.Members.{Member}
use Rattle.basket_sets.proofs.theory.Rising.{cons_rises, first_below, nil_rises, rest_rises}
use Rattle.mine_vertical.specs.LocalBaskets.{named}

pub Member-take : (x n : ℕ) (xs : List ℕ) → Member x (take n xs) → Member x xs
Member-take x zero xs h = absurd h
Member-take x (suc n) [] h = absurd h
Member-take x (suc n) (y ∷ xs) (inl e) = inl e
Member-take x (suc n) (y ∷ xs) (inr h) = inr (Member-take x n xs h)

pub take_rises : (n : ℕ) (xs : List ℕ) → IsRising xs → IsRising (take n xs)
take_rises zero xs up = nil_rises
take_rises (suc n) [] up = nil_rises
take_rises (suc n) (x ∷ xs) up = cons_rises x (take n xs) (λ y m. first_below x xs up y (Member-take y n xs m)) (take_rises n xs (rest_rises x xs up))

pub filter-map : {X Y : Type 0} (test : Y → Bool) (f : X → Y) (xs : List X) → filter test (map f xs) ≡ map f (filter (λ x. test (f x)) xs)
filter-map test f [] = refl
filter-map test f (x ∷ xs) = grind (arith, common_steps, filter-map test f xs)

-- each number of a range names its rank
pub named_range : (ranks : List ℕ) → named ranks (range_with_len 0 (length ranks)) ≡ ranks
named_range ranks = sym (fill_by_all (λ number. get_or ranks number 0) ranks (length ranks) 0 refl (λ k here. refl))
