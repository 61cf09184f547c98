use Rattle.std.proofs.Common.{sym, ◌∙◌}
use Rattle.basket_csv.proofs.PlainLemmas.{last_taken, line_taken, next_taken}
use Rattle.basket_csv.proofs.record.take_fields.Goals as goal

pub returns-in_default : goal.returns-in_default
returns-in_default c =
    last_taken c.args.separator c.args.text.now c.fields.rest.now c.fields.fields.items c.push.new.self.items c.split_at.result.0 c.split_at.result.1.now c.field_end.result
    (sym c.is_quoted.ensures ∙ c.fields-test.true) c.field_end.ensures.within c.field_end.ensures.inside c.split_at.ensures.front c.split_at.ensures.back
    c.in_ok-push.ensures.items c.fields.invariant c.in_default.ensures.cases

pub returns-then-byte-separator : goal.returns-then-byte-separator
returns-then-byte-separator c =
    line_taken c.args.separator c.args.text.now c.fields.rest.now c.fields.fields.items c.push.new.self.items c.split_at.result.0 c.split_at.result.1.now c.field_end.result
    (sym c.is_quoted.ensures ∙ c.fields-test.true) c.field_end.ensures.within c.field_end.ensures.inside c.split_at.ensures.front c.split_at.ensures.back
    c.in_ok-push.ensures.items c.fields.invariant c.in-Some.byte.now c.in-Some.more.now c.in-Some.ensures.cases.0 c.if-byte-separator.true c.field_end.ensures.end

pub fields-preserved : goal.fields-preserved
fields-preserved c =
    next_taken c.args.separator c.args.text.now c.fields.rest.now c.fields.fields.items c.push.new.self.items c.split_at.result.0 c.split_at.result.1.now c.field_end.result
    (sym c.is_quoted.ensures ∙ c.fields-test.true) c.field_end.ensures.within c.field_end.ensures.inside c.split_at.ensures.front c.split_at.ensures.back
    c.in_ok-push.ensures.items c.fields.invariant c.in-Some.byte.now c.in-Some.more.now c.in-Some.ensures.cases.0 c.if-byte-separator.false
