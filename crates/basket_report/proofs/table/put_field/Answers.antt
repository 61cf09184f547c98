use Rattle.std.proofs.Common.{◌∙◌, ◌++◌, ◌==◌, ◌≢◌, length, not, ap, subst}
use Rattle.std.specs.Io.KnownBytes.{Appends}
use Rattle.csv.specs.declared.writer.QuoteStyle.TheVariants as style
use Rattle.csv.specs.Writing.{field_text, fields_written, next_sep, text_written, writer_setup}
use Rattle.basket_report.specs.Table.{held}
use Rattle.basket_report.proofs.TableLemmas.{WritesField, with_field}
use Rattle.basket_report.proofs.table.put_field.Goals as goal
use Rattle.basket_report.proofs.table.put_field.Goals.{in-Ok, in-Err}

pub returns : goal.returns
returns c separator text fields has shows = elim c.match-write_field.branch [
  | in-Ok w ↦
      let old = c.args.writer.now in
      let new = c.write_field.new.self in
      let field = c.args.field.now in
      let wrote = rw w.in-Ok.is at c.write_field.ensures in
      let plain : (writer_setup old).style ≢ style.NonNumeric = rw has.setup (λ e. cc e) in
      let writes : WritesField old new separator field = record {
        text = subst (λ cfg. Appends (text_written held old) (text_written held new) (next_sep cfg (fields_written old) ++ field_text cfg field)) has.setup (wrote.text plain);
        same = wrote.same ∙ has.setup;
        count = wrote.count;
        wrote = λ none. wrote.wrote none plain ∙ ap (λ cfg. not (length (field_text cfg field) == 0)) has.setup;
        stays = wrote.stays;
      } in
      rw w.result-is (with_field old new separator text fields field has shows writes)
  | in-Err w ↦ rw w.result-is tt
]
