-- Words of sets with one item more or less.
use Rattle.std.specs.Prelude.{◌≡◌, ◌≤◌, ◌<◌, ◌+◌, ◌-◌, ◌*◌, ◌/◌, ◌%◌, ◌^◌, ℕ}
use Rattle.basket_lists.specs.declared.packed.Packed.{Packed}
use Rattle.basket_lists.specs.Packed.{Coding, code_of, count_of, digits, number_of, size_of}
use Rattle.basket_sets.proofs.theory.Members.{Member}

-- so many of the last digits are greater than another, and those before them less
pub record IsBetween (bits size number index above : ℕ) : Type 0 where
  pub few : above ≤ size
  pub less : (other : ℕ) → Member other (digits bits (size - above) (number / 2 ^ (above * bits))) → other < index
  pub greater : (other : ℕ) → Member other (digits bits above number) → index < other

-- the number with one more digit, before so many last bits
abbrev pub longer_number : ℕ → ℕ → ℕ → ℕ → ℕ
longer_number bits number index last = (number / 2 ^ last * 2 ^ bits + index) * 2 ^ last + number % 2 ^ last

-- the number without the digit before so many last bits
abbrev pub shorter_number : ℕ → ℕ → ℕ → ℕ
shorter_number bits number last = number / 2 ^ last / 2 ^ bits * 2 ^ last + number % 2 ^ last

-- a word has room for a set of this size, the number of its indexes, and a count
pub record FitsWord (coding : Coding) (size number count : ℕ) : Type 0 where
  pub sized : size ≤ coding.most
  pub numbered : number < 2 ^ (size * coding.item_bits)
  pub counted : count < 2 ^ coding.count_bits

pub record IsWordOf (coding : Coding) (size number count : ℕ) (packed : Packed) : Type 0 where
  pub sized : size_of coding (code_of coding packed) ≡ size
  pub numbered : number_of coding (code_of coding packed) ≡ number
  pub counted : count_of coding packed ≡ count
  pub here : packed.word < 2 ^ 127
