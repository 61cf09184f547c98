use Rattle.std.proofs.Common.{◌≡◌, ◌≤◌, ◌+◌, ◌-◌, ◌++◌, take, sym, ap, ◌∙◌, arith}
use Rattle.std.proofs.lemmas.Grind.{common_steps}
use Rattle.std.proofs.lemmas.List.{append_assoc}
use Rattle.basket_report.specs.Lines.{items_text}
use Rattle.basket_report.proofs.TextLemmas.{items_further}
use Rattle.basket_report.proofs.set_lines.send_line.Goals as goal

pub loop-start-preserved : goal.loop-start-preserved
loop-start-preserved g c =
    let items = c.args.items.now in
    let index = c.loop-start.start in
    let end = c.min-end.result in
    let before = items_text (take index items) in
    let past : index ≤ end = omega (arith, c.min-end.ensures, c.loop-start.invariant.within) in
    let further : end ≡ index + (end - index) = omega (arith, past) in
    let bytes = take c.put_items-text.result c.put_items-text.new.room in
    let are : before ++ bytes ≡ items_text (take end items) =
    ap (λ t. before ++ t) c.put_items-text.ensures.put.bytes ∙ sym (items_further items index (end - index)) ∙ ap (λ n. items_text (take n items)) (sym further) in
    grind (arith, common_steps, append_assoc)
