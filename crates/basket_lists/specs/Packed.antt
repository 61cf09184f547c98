-- Sets of known items with their counts as words.
use Rattle.std.specs.Prelude.{◌≡◌, ◌≤◌, ◌<◌, ◌+◌, ◌-◌, ◌*◌, ◌/◌, ◌%◌, ◌^◌, ℕ, zero, suc, List, [], ◌∷◌, ◌++◌, length, map, slice_index_or, if◌then◌else◌, nat_lt}
use Rattle.basket_lists.specs.declared.packed.Packed.{Packed}
use Rattle.basket_sets.specs.declared.counted.Counted.{Counted}
use Rattle.basket_sets.specs.Itemset.{AllBelow, IsRising, with_item}

-- how sets are put into words: the items that are known, the bits of an index among them, how many
-- items a word takes at most, and the bits of its count
pub record Coding : Type 0 where
  pub items : List ℕ
  pub item_bits : ℕ
  pub most : ℕ
  pub count_bits : ℕ

-- the items rise, each index has its bits, and a word has room: the count is the lowest of its bits, from
-- bit 121 on is the size, and between them are the indexes
pub record IsCoding (coding : Coding) : Type 0 where
  pub rises : IsRising coding.items
  pub indexes : length coding.items ≤ 2 ^ coding.item_bits
  pub bits : coding.item_bits ≤ 64
  pub counts : coding.count_bits ≤ 64
  pub room : coding.most * coding.item_bits + coding.count_bits ≤ 121
  pub sizes : coding.most < 64

-- the digits of a number, of so many bits each, the highest first
abbrev pub digits : ℕ → ℕ → ℕ → List ℕ
digits bits zero number = []
digits bits (suc size) number = digits bits size (number / 2 ^ bits) ++ number % 2 ^ bits ∷ []

-- the bits above the count: the size of the set, and the number whose digits are the indexes of its items
abbrev pub code_of : Coding → Packed → ℕ
code_of coding packed = packed.word / 2 ^ coding.count_bits

abbrev pub size_of : Coding → ℕ → ℕ
size_of coding code = code / 2 ^ (121 - coding.count_bits)

abbrev pub number_of : Coding → ℕ → ℕ
number_of coding code = code % 2 ^ (121 - coding.count_bits)

-- the indexes of the items of a code
abbrev pub indexes_of : Coding → ℕ → List ℕ
indexes_of coding code = digits coding.item_bits (size_of coding code) (number_of coding code)

-- the items at indexes of a list
abbrev pub items_at : List ℕ → List ℕ → List ℕ
items_at items indexes = map (λ index. slice_index_or items index 0) indexes

abbrev pub set_of : Coding → ℕ → List ℕ
set_of coding code = items_at coding.items (indexes_of coding code)

abbrev pub count_of : Coding → Packed → ℕ
count_of coding packed = packed.word % 2 ^ coding.count_bits

-- the set with its count
abbrev pub unpacked : Coding → Packed → Counted
unpacked coding packed = record { set = set_of coding (code_of coding packed); count = count_of coding packed }

-- the code is that of a set: its indexes rise among the items
pub record IsCode (coding : Coding) (code : ℕ) : Type 0 where
  pub size : size_of coding code ≤ coding.most
  pub number : number_of coding code < 2 ^ (size_of coding code * coding.item_bits)
  pub rises : IsRising (indexes_of coding code)
  pub below : AllBelow (length coding.items) (indexes_of coding code)

-- a word of a set of known items
pub record IsPacked (coding : Coding) (packed : Packed) : Type 0 where
  pub code : IsCode coding (code_of coding packed)
  pub here : packed.word < 2 ^ 127

-- a packed set that is another with one more item, and has a count of its own
pub record IsLonger (coding : Coding) (packed : Packed) (item count : ℕ) (longer : Packed) : Type 0 where
  pub is : IsPacked coding longer
  pub set : set_of coding (code_of coding longer) ≡ with_item item (set_of coding (code_of coding packed))
  pub counted : count_of coding longer ≡ count

-- the set at an index has this code
abbrev pub HasCode : ℕ → List Packed → ℕ → ℕ → Type 0
HasCode bits sets index code = (none : Packed) → (index < length sets) × ((slice_index_or sets index none).word / 2 ^ bits ≡ code)

-- the set of a word: from 2 ^ 127 on it is kept in another list
abbrev pub kept : Coding → List Counted → Packed → Counted
kept coding plain packed = if nat_lt packed.word (2 ^ 127) then unpacked coding packed else slice_index_or plain (packed.word - 2 ^ 127) (record { set = []; count = 0 })

pub record IsKept (coding : Coding) (plain : List Counted) (packed : Packed) : Type 0 where
  pub small : packed.word < 2 ^ 127 + 2 ^ 64
  pub here : packed.word < 2 ^ 127 → IsPacked coding packed
  pub elsewhere : 2 ^ 127 ≤ packed.word → packed.word - 2 ^ 127 < length plain
