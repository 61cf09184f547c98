-- Consequents of the rules with one union, each as the indexes of its items in the union.
use Rattle.std.specs.Prelude.{ℕ, suc, ◌^◌, ◌==◌, Bool, nat_lt, if◌then◌else◌, List, [], ◌∷◌, bit_or, filter, map}
use Rattle.std.specs.Int.{bit_at}
use Rattle.std.specs.List.{flat_map, range_with_len}
use Rattle.basket_rules.specs.declared.consequents.Consequent.{Consequent}
use Rattle.basket_rules.specs.declared.consequents.TheConstants.{MOST_BITS}

-- whether a word has the bit of an index
abbrev pub has_bit : ℕ → ℕ → Bool
has_bit bits index = bit_at bits index == 1

-- the items at those indexes that pass a test, where the first item stands at `index`
abbrev pub chosen_from : (ℕ → Bool) → ℕ → List ℕ → List ℕ
chosen_from test index [] = []
chosen_from test index (item ∷ items) = if test index then item ∷ chosen_from test (suc index) items else chosen_from test (suc index) items

-- the items of a union at those indexes that pass a test
abbrev pub chosen : (ℕ → Bool) → List ℕ → List ℕ
chosen test union = chosen_from test 0 union

-- the items of a consequent
abbrev pub side_of : List ℕ → Consequent → List ℕ
side_of union consequent = chosen (has_bit consequent.bits) union

-- the empty set, and a set with an index before its first
abbrev pub no_bits : Consequent
no_bits = record { bits = 0; first = MOST_BITS }

abbrev pub with_bit : ℕ → Consequent → Consequent
with_bit index consequent = record { bits = bit_or consequent.bits (2 ^ index); first = index }

-- the sets that get one more index, before their first: this index, and each below a number
abbrev pub longer_by : List Consequent → ℕ → List Consequent
longer_by met index = map (with_bit index) (filter (λ consequent. nat_lt index consequent.first) met)

abbrev pub longer : ℕ → List Consequent → List Consequent
longer count met = flat_map (longer_by met) (range_with_len 0 count)
