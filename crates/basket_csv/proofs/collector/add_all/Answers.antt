use Rattle.std.proofs.Common.{◌≡◌, ◌+◌, [], true, false, Bool, cond, not, sym, ap, ◌∙◌, arith}
use Rattle.std.proofs.lemmas.Grind.{common_steps}
use Rattle.std.proofs.lemmas.Bool.{eq-eqb, ne_eqb, false≢true}
use Rattle.std.proofs.lemmas.Result.{err_from_is_err_and}
use Rattle.basket_csv.specs.Csv.{after_header, fault_from, first_number}
use Rattle.basket_csv.specs.Records.{records_left, records_of}
use Rattle.basket_csv.proofs.PartLemmas.{whole_part}
use Rattle.basket_csv.proofs.SharedLemmas.{header_before}
use Rattle.basket_csv.proofs.collector.add_all.Goals as goal

not_so : (b : Bool) → not b ≡ true → b ≡ false
not_so h1 h2 = grind (arith, common_steps)

pub returns-in_err-added-clause-fault : goal.returns-in_err-added-clause-fault
returns-in_err-added-clause-fault g c = λ reading known rows h.
    let fault = g.G.Gathering.fault_of reading.weighted in
    let header = c.args.dialect.header in
    let left = records_left c.pass_header.new.self in
    let own = header_before header c.from.result c.from.ensures in
    let number : c.in_ok-first.first ≡ c.args.before + first_number header = omega (arith, own, c.in_ok-first.ensures.sum) in
    let all : after_header header (records_of c.args.dialect.separator c.args.bytes.now) ≡ left =
    ap (after_header header) (sym c.new-records.ensures.left) ∙ c.in_ok-pass_header.ensures.left ∙ ap (λ b. cond b left []) c.if-not-branch.false in
    let p = err_from_is_err_and c.from_residual-in_err-added.result c.from_residual-in_err-added.ensures.1 in
    rw (p.1, p.2) (λ other. ap (fault_from fault (c.args.before + first_number header)) all ∙ ap (λ n. fault_from fault n left) (sym number) ∙ c.in_err-added.ensures.fault reading known rows h other)

pub returns-clause-whole : goal.returns-clause-whole
returns-clause-whole g c = λ whole. grind (arith, common_steps, whole_part, ne_eqb, not_so, false≢true, eq-eqb)
