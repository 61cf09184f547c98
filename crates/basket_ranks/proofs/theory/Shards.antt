-- The parts of a cut list lie side by side, and are together the list.
use Rattle.std.proofs.Common.{◌≡◌, ℕ, ◌+◌, ◌-◌, ◌*◌, ◌/◌, ◌≤◌, zero, suc, List, [], ◌∷◌, ◌++◌, length, take, sym, ap, ◌∙◌, arith, add-one, zero-add}
use Rattle.std.proofs.lemmas.Grind.{common_steps}
use Rattle.std.specs.List.{flat_map, range_with_len}
use Rattle.std.proofs.lemmas.List.{append-nil, take_all}
use Rattle.std.proofs.lemmas.List.Concat.{flat_map-append}
use Rattle.std.proofs.lemmas.Nat.{le-div}
use Rattle.std.proofs.Math.Nat.{mul-div_cancel_left, div-mul-le_self, zero-mul, zero-div}
use Rattle.std.proofs.Math.Seq.{take-add}
use Rattle.basket_ranks.specs.Shards.{shard_start, shard_of}
use Rattle.basket_sets.proofs.theory.Ranges.{range_more}

-- a later part starts no earlier
pub shard_start-le : (i j pieces n : ℕ) → 1 ≤ pieces → i ≤ j → shard_start i pieces n ≤ shard_start j pieces n
shard_start-le i j pieces n some le =
    le-div (i * n / pieces) (j * n) pieces some (let d = div-mul-le_self (i * n) pieces in let m : i * n ≤ j * n = grind arith in omega arith)

-- the first part starts at the beginning, and after the last is the end
pub shard_start-zero : (pieces n : ℕ) → shard_start 0 pieces n ≡ 0
shard_start-zero pieces n = ap (λ x. x / pieces) (zero-mul n) ∙ zero-div pieces

pub shard_start-all : (pieces n : ℕ) → 1 ≤ pieces → shard_start pieces pieces n ≡ n
shard_start-all pieces n some = mul-div_cancel_left n some

module _ {X : Type 0} where
  -- the list up to the end of a part
  pub shard_more : (i pieces : ℕ) (xs : List X) → 1 ≤ pieces
      → take (shard_start (i + 1) pieces (length xs)) xs ≡ take (shard_start i pieces (length xs)) xs ++ shard_of i pieces xs
  shard_more i pieces xs some =
      let low = shard_start i pieces (length xs) in
      let high = shard_start (i + 1) pieces (length xs) in
      let le : low ≤ high = shard_start-le i (i + 1) pieces (length xs) some (omega arith) in
      let e : high ≡ low + (high - low) = omega arith in
      ap (λ n. take n xs) e ∙ take-add low (high - low) xs

  -- the first parts are the list up to where the next starts
  pub shards_front : (k pieces : ℕ) (xs : List X) → 1 ≤ pieces → flat_map (λ i. shard_of i pieces xs) (range_with_len 0 k) ≡ take (shard_start k pieces (length xs)) xs
  shards_front zero pieces xs some = sym (ap (λ n. take n xs) (shard_start-zero pieces (length xs)))
  shards_front (suc k) pieces xs some =
      ap (flat_map (λ i. shard_of i pieces xs)) (range_more 0 k ∙ ap (λ x. range_with_len 0 k ++ x ∷ []) (zero-add k))
      ∙ flat_map-append (λ i. shard_of i pieces xs) (range_with_len 0 k) (k ∷ [])
      ∙ ap (λ l. flat_map (λ i. shard_of i pieces xs) (range_with_len 0 k) ++ l) (append-nil (shard_of k pieces xs))
      ∙ ap (λ l. l ++ shard_of k pieces xs) (shards_front k pieces xs some)
      ∙ sym (shard_more k pieces xs some)
      ∙ ap (λ n. take (shard_start n pieces (length xs)) xs) (add-one k)

  pub shards_are_all : (pieces : ℕ) (xs : List X) → 1 ≤ pieces → flat_map (λ i. shard_of i pieces xs) (range_with_len 0 pieces) ≡ xs
  shards_are_all pieces xs some = grind (arith, common_steps, shards_front, shard_start-all, take_all)
