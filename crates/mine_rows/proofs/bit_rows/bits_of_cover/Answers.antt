use Rattle.std.proofs.Common.{◌≡◌, ◌≢◌, ℕ, ◌+◌, ◌<◌, List, length, get_or, take, sym, ap, [], refl, ◌∙◌, arith, true, false}
use Rattle.std.proofs.lemmas.Grind.{common_steps}
use Rattle.std.proofs.lemmas.Bool.{eq-eqb}
use Rattle.basket_sets.specs.Itemset.{has}
use Rattle.basket_sets.proofs.theory.Rising.{has_more, has_at}
use Rattle.basket_sets.proofs.theory.Tests.{apart_eqb, or_false, or_true}
use Rattle.mine_rows.specs.Bits.{word_count, words_from}
use Rattle.mine_rows.proofs.PlaneLemmas.{word_is_there}
use Rattle.mine_rows.proofs.WordLemmas.{length-words, words_none, words_same}
use Rattle.mine_rows.proofs.bit_rows.bits_of_cover.Goals as goal

-- the tids before one more, with it
has_this : (cover : List ℕ) (i : ℕ) → i < length cover → has (take (i + 1) cover) (get_or cover i 0) ≡ true
has_this cover i here = grind (arith, common_steps, has_more, eq-eqb, or_true)

has_others : (cover : List ℕ) (i : ℕ) → i < length cover → (t : ℕ) → t ≢ get_or cover i 0 → has (take (i + 1) cover) t ≡ has (take i cover) t
has_others cover i here t differ = grind (arith, common_steps, has_more, apart_eqb, or_false)

pub loop-tid-init : goal.loop-tid-init
loop-tid-init c =
    let n = word_count c.args.tids in
    let none = words_same (has []) (λ t. false) 0 n (λ t low. refl) ∙ words_none 0 n in c.in_ok-words.ensures ∙ sym none

pub set-requires : goal.set-requires
set-requires c =
    let cover = c.args.cover.now in
    let i = c.loop-tid.tid-index in
    let words = ap length c.loop-tid.invariant ∙ length-words (has (take i cover)) 0 (word_count c.args.tids) in
    let there = word_is_there (get_or cover i 0) c.args.tids (c.requires (get_or cover i 0) (has_at cover i c.loop-tid-test.true)) in
    omega (arith, words, there)

pub loop-tid-preserved : goal.loop-tid-preserved
loop-tid-preserved c =
    let cover = c.args.cover.now in
    let i = c.loop-tid.tid-index in
    let here = c.loop-tid-test.true in
    let before = has (take i cover) in
    let after = has (take (i + 1) cover) in
    let old = c.loop-tid.invariant in
    let long = ap length old ∙ length-words before 0 (word_count c.args.tids) in
    c.set.ensures.set before after (old ∙ ap (words_from before 0) (sym long)) (has_this cover i here) (has_others cover i here)
    ∙ ap (words_from after 0) long
