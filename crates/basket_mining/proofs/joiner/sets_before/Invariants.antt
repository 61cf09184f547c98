use Rattle.std.proofs.Common.{◌≡◌, ◌<◌, ℕ, length, take}
use Rattle.std.specs.Prelude.{slice_index}
use Rattle.basket_ranks.specs.Shards.{shard_start}
use Rattle.mine_supports.specs.Extensions.{sets_of}
use Rattle.basket_mining.proofs.joiner.sets_before.Given as goal

abbrev pub invariant-loop-part : goal.invariant-loop-part
invariant-loop-part l =
    let start : ℕ → ℕ = λ part. length (sets_of (take (shard_start part l.fn.parts (length l.sets)) l.sets)) in
    record {
      long : length l.before.items ≡ l.part;
      count : l.count ≡ start l.part;
      each : (part : ℕ) → part < l.part → slice_index l.before.items part ≡ start part;
    }
