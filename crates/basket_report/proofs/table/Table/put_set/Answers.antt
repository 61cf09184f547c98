use Rattle.std.proofs.Common.{◌++◌, ◌∷◌, [], decimal, subst}
use Rattle.std.proofs.lemmas.Result.{on_ok_weaker}
use Rattle.basket_report.specs.Report.{set_of}
use Rattle.basket_report.specs.Table.{HasFields, names_of, set_record}
use Rattle.basket_report.proofs.table.Table.put_set.Goals as goal

pub returns : goal.returns
returns c separator names text has =
    let named = c.args.self.now.names.now in
    let count = c.in_ok-put_number_field.ensures separator text [] has.1 in
    let fields = c.in_ok-put_names.ensures separator text (decimal c.args.count ∷ []) count (λ e. cc) in
    let ended = c.end_record.ensures separator text (decimal c.args.count ∷ names_of named c.args.items.now) fields (λ e. cc) in
    on_ok_weaker c.end_record.result (λ h. (has.0, subst (λ n. HasFields c.end_record.new.writer separator (text ++ set_record separator n (set_of c.args.items.now c.args.count)) []) has.0 h)) ended
