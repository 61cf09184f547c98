use Rattle.std.proofs.Common.{◌≡◌, ◌+◌, ◌^◌, [], ◌∷◌, ◌++◌, length, map, sym, ap, ◌∙◌, subst, arith}
use Rattle.std.specs.Prelude.{All}
use Rattle.std.proofs.lemmas.Result.{on_ok_weaker}
use Rattle.basket_lists.specs.Packed.{IsKept, kept}
use Rattle.basket_lists.proofs.ListLemmas.{sets_pushed, word_pushed, words_kept}
use Rattle.basket_sets.specs.declared.counted.Counted.{Counted}
use Rattle.basket_lists.proofs.counted_sets.push.push_elsewhere.Goals as goal

pub returns-clause-kept : goal.returns-clause-kept
returns-clause-kept c coding all =
    let plain = c.args.plain.now in
    let words = c.args.words.now.items in
    let word = c.elsewhere-word.result in
    let one : Counted = record { set = c.args.set.now; count = c.args.count } in
    let at : word.word ≡ 2 ^ 127 + length plain = omega (arith, c.elsewhere-word.ensures, c.len.ensures.value) in
    c.push_word.ensures.kept coding c.push.new.self
    (subst (λ p. All (IsKept coding p) words) (sym c.in_ok-push.ensures.pushed) (words_kept coding plain (one ∷ []) words all))
    (subst (λ p. IsKept coding p word) (sym c.in_ok-push.ensures.pushed) (word_pushed coding plain words one word all at (omega (arith, c.len.ensures.value, c.len.ensures.few))))

pub returns-clause-sets : goal.returns-clause-sets
returns-clause-sets c coding all =
    let plain = c.args.plain.now in
    let words = c.args.words.now.items in
    let word = c.elsewhere-word.result in
    let one : Counted = record { set = c.args.set.now; count = c.args.count } in
    let at : word.word ≡ 2 ^ 127 + length plain = omega (arith, c.elsewhere-word.ensures, c.len.ensures.value) in
    on_ok_weaker c.push_word.result
    (λ pushed. ap (map (kept coding c.push.new.self)) pushed ∙ ap (λ p. map (kept coding p) (words ++ word ∷ [])) c.in_ok-push.ensures.pushed
    ∙ sets_pushed coding plain words one word all at (omega (arith, c.len.ensures.value, c.len.ensures.few))) c.push_word.ensures.pushed
