use Rattle.std.proofs.Common.{rules, ◌≡◌, ◌≢◌, ℕ, ◌+◌, ◌-◌, ◌*◌, ◌<◌, length, map, get_or, set, sym, ap, ◌∙◌, subst, inl, inr, arith, get_or-set_other, get_or-set_same}
use Rattle.std.proofs.lemmas.Grind.{common_steps}
use Rattle.std.proofs.lemmas.Bool.{cases_eq}
use Rattle.basket_lists.specs.Known.{IsWordOf, shorter_number}
use Rattle.basket_lists.specs.Packed.{Coding, HasCode, IsCoding, code_of, kept, number_of, set_of, size_of}
use Rattle.basket_lists.specs.Without.{IsIndexWithout}
use Rattle.basket_lists.proofs.LongerLemmas.{set_length, shorter_fits}
use Rattle.basket_lists.proofs.WithoutLemmas.{found_without}
use Rattle.basket_order.specs.declared.index_table.TheConstants.{NOWHERE}
use Rattle.basket_lists.proofs.known.KnownItems.indexes_without.Goals as goal

-- the number without an index
less_at : (bits other number of above less : ℕ) → less ≡ shorter_number bits number (above * other) → other ≡ bits → number ≡ of → less ≡ shorter_number bits of (above * bits)
less_at bits other number of above less is same numbers = is ∙ ap (λ b. shorter_number bits number (above * b)) same ∙ ap (λ n. shorter_number bits n (above * bits)) numbers

pub word-shorter-requires : goal.word-shorter-requires
word-shorter-requires c = grind (arith, common_steps, less_at, shorter_fits)

pub loop-after-preserved : goal.loop-after-preserved
loop-after-preserved c =
    let coding = c.args.self.now in
    let packed = c.args.packed.now in
    let code = code_of coding packed in
    let is = subst IsCoding c.self.view_is c.self.invariant in
    let above = c.loop-after.after in
    let size = c.code_size-size.result in
    let number = c.number-number.ensures in
    let shorter = less_at coding.item_bits c.self.inside.item_bits c.number-number.result (number_of coding code) above c.without_digit-shorter.result
    c.without_digit-shorter.ensures (ap (λ (k : Coding). k.item_bits) c.self.view_is) number in
    let less : above < size_of coding code = omega (arith, c.loop-after-test.true, c.code_size-size.ensures) in
    let word = subst (λ s. IsWordOf coding (s - 1) (shorter_number coding.item_bits (number_of coding code) (above * coding.item_bits)) 0 c.word-shorter.result) c.code_size-size.ensures
    (subst (λ n. IsWordOf coding (size - 1) n 0 c.word-shorter.result) shorter c.word-shorter.ensures) in
    let index = c.find_code-index.result in
    let has : index ≢ NOWHERE → HasCode coding.count_bits c.args.words.now index (code_of coding c.word-shorter.result) =
    subst (λ n. index ≢ NOWHERE → HasCode coding.count_bits c.args.words.now index n) c.code.ensures
    (subst (λ b. index ≢ NOWHERE → HasCode b c.args.words.now index c.code.result) (ap (λ (k : Coding). k.count_bits) c.self.view_is) c.find_code-index.ensures) in
    let full : length c.loop-after.found ≡ 63 = search rules in
    let at = size - (above + 1) in
    let short : at < 63 = omega (arith, c.code_size-size.ensures, c.requires.code.size, is.sizes) in
    let here : at ≡ size_of coding code - 1 - above = omega (arith, c.code_size-size.ensures) in
    record {
      few = omega (arith, c.loop-after-test.true);
      found = λ plain all k from to. elim (cases_eq k at) [
        | inl same ↦
            (let one = found_without coding is packed c.requires above less c.word-shorter.result word plain c.args.words.now index has in
            subst (λ n. IsIndexWithout (map (kept coding plain) c.args.words.now) (set_of coding code) (get_or (set_of coding code) n 0) (get_or (set c.loop-after.found at index) n NOWHERE)) (sym same)
            (subst (IsIndexWithout (map (kept coding plain) c.args.words.now) (set_of coding code) (get_or (set_of coding code) at 0))
            (sym (get_or-set_same c.loop-after.found at index NOWHERE (omega (arith, full, short))))
            (subst (λ n. IsIndexWithout (map (kept coding plain) c.args.words.now) (set_of coding code) (get_or (set_of coding code) n 0) index) (sym here) one)))
        | inr other ↦
            subst (IsIndexWithout (map (kept coding plain) c.args.words.now) (set_of coding code) (get_or (set_of coding code) k 0)) (sym (get_or-set_other c.loop-after.found at k index NOWHERE other))
            (c.loop-after.invariant.found plain all k (omega (arith, from, other)) to)
      ];
    }

pub returns : goal.returns
returns c plain all k less inside =
    let coding = c.args.self.now in
    let packed = c.args.packed.now in
    let is = subst IsCoding c.self.view_is c.self.invariant in
    let size = set_length coding is packed c.requires in
    c.loop-after.invariant.found plain all k (omega (arith, c.loop-after-test.false, c.loop-after.invariant.few)) (omega (arith, inside, size, c.code_size-size.ensures))
