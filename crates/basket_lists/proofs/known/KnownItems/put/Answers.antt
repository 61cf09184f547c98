use Rattle.std.proofs.Common.{rules, ◌≡◌, ℕ, ◌-◌, ◌*◌, ◌/◌, ◌%◌, ◌^◌, ◌<◌, ◌≤◌, List, length, set, take, ap, ◌∙◌, subst, arith, get_or-take}
use Rattle.std.proofs.lemmas.Grind.{common_steps}
use Rattle.std.proofs.lemmas.List.{get_or_default, length-take-le, same_lists}
use Rattle.basket_lists.specs.Packed.{Coding, IsCoding, IsPacked, code_of, number_of, set_of, size_of}
use Rattle.basket_lists.specs.declared.packed.Packed.{Packed}
use Rattle.basket_lists.proofs.LongerLemmas.{digit_known, set_length}
use Rattle.basket_lists.proofs.known.KnownItems.put.Goals as goal

-- the number of the indexes of the items that are left
rest_at : (coding : Coding) (code size left rest : ℕ) → rest ≡ number_of coding code / 2 ^ ((size - left) * coding.item_bits) → size ≡ size_of coding code
    → rest ≡ number_of coding code / 2 ^ ((size_of coding code - left) * coding.item_bits)
rest_at coding code size left rest is same = is ∙ ap (λ s. number_of coding code / 2 ^ ((s - left) * coding.item_bits)) same

-- its lowest digit is the index of a known item
known_index : (coding own : Coding) (packed : Packed) (size left rest digit : ℕ) (items : List ℕ) → IsCoding own → own ≡ coding → IsPacked coding packed
    → 0 < left → left ≤ size → size ≡ size_of coding (code_of coding packed) → rest ≡ number_of coding (code_of coding packed) / 2 ^ ((size - left) * coding.item_bits)
    → digit ≡ rest % 2 ^ own.item_bits → items ≡ own.items → digit < length items
known_index coding own packed size left rest digit items is same set some few sized at low all = grind (arith, common_steps, digit_known, rest_at)

pub offset_bounds-items-low_bits : goal.offset_bounds-items-low_bits
offset_bounds-items-low_bits c =
    let inside = known_index c.args.self.now _ c.args.packed.now c.code_size-size.result c.loop-left.left c.loop-left.rest c.low_bits.result c.deref-items.result.now c.self.invariant c.self.view_is c.requires
    c.loop-left-test.true c.loop-left.invariant.few c.code_size-size.ensures c.loop-left.invariant.rest c.low_bits.ensures c.deref-items.ensures.value in
    search (rules, inside)

pub bounds-items-low_bits : goal.bounds-items-low_bits
bounds-items-low_bits c =
    known_index c.args.self.now _ c.args.packed.now c.code_size-size.result c.loop-left.left c.loop-left.rest c.low_bits.result c.deref-items.result.now c.self.invariant c.self.view_is c.requires
    c.loop-left-test.true c.loop-left.invariant.few c.code_size-size.ensures c.loop-left.invariant.rest c.low_bits.ensures c.deref-items.ensures.value

pub returns-clause-items : goal.returns-clause-items
returns-clause-items c =
    let coding = c.args.self.now in
    let packed = c.args.packed.now in
    let is = subst IsCoding c.self.view_is c.self.invariant in
    let size = c.code_size-size.result in
    let all = set_length coding is packed c.requires in
    let full = c.loop-left.invariant.full in
    let long : length (take size c.loop-left.room) ≡ size = length-take-le size c.loop-left.room (omega (arith, full, c.code_size-size.ensures, c.requires.code.size, is.sizes)) in
    same_lists (take size c.loop-left.room) (set_of coding (code_of coding packed)) (omega (arith, long, all, c.code_size-size.ensures))
    (λ k d inside.
    let less : k < size = omega (arith, inside, long) in
    get_or-take size c.loop-left.room k d less ∙ get_or_default c.loop-left.room k d 0 (omega (arith, less, full, c.code_size-size.ensures, c.requires.code.size, is.sizes))
    ∙ c.loop-left.invariant.room k (omega (arith, c.loop-left-test.false)) less
    ∙ get_or_default (set_of coding (code_of coding packed)) k 0 d (omega (arith, less, all, c.code_size-size.ensures)))
