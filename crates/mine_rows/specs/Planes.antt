-- Weights of tids bit by bit.
use Rattle.std.specs.Prelude.{◌≡◌, ℕ, Bool, ◌*◌, ◌/◌, ◌%◌, ◌^◌, ◌==◌, List, [], All, filter, length, map, slice_index, if◌then◌else◌}
use Rattle.std.specs.List.{list_all, list_any, range_with_len}
use Rattle.mine_rows.specs.declared.plane.Plane.{Plane}
use Rattle.mine_rows.specs.Bits.{shared_bits, word_count, words_from}

-- whether a number has a bit
abbrev pub has_bit : ℕ → ℕ → Bool
has_bit bit number = (number / 2 ^ bit % 2) == 1

-- whether all weights are 1
abbrev pub are_ones : List ℕ → Bool
are_ones weights = list_all (λ weight. weight == 1) weights

-- the bits that some weight has, the lowest first
unfoldable pub bits_of : List ℕ → List ℕ
bits_of weights = filter (λ bit. list_any (has_bit bit) weights) (range_with_len 0 40)

-- a plane has the bit of each tid whose weight has the plane's bit
abbrev pub IsPlane : List ℕ → Plane → Type 0
IsPlane weights plane = plane.words.items ≡ words_from (λ tid. has_bit plane.bit (slice_index weights tid)) 0 (word_count (length weights))

-- a plane for each bit that some weight has; none where all weights are 1
pub record ArePlanes (weights : List ℕ) (ones : Bool) (planes : List Plane) : Type 0 where
  pub bits : map (λ plane. plane.bit) planes ≡ (if ones then [] else bits_of weights)
  pub words : All (IsPlane weights) planes

-- what a row's tids in a plane add to its weight
abbrev pub plane_weight : List ℕ → Plane → ℕ
plane_weight words plane = shared_bits words plane.words.items * 2 ^ plane.bit
