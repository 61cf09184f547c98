use Rattle.std.proofs.Common.{◌<◌, ◌≤◌, ◌∙◌, [], ap, get_or, length, refl, subst, sym, arith}
use Rattle.std.proofs.lemmas.Bool.{eqb-true}
use Rattle.std.proofs.lemmas.List.{get_or-map, length-map, nil_from_length}
use Rattle.std.specs.Prelude.{vec_len}
use Rattle.basket_names.specs.Names.{number_in}
use Rattle.basket_csv.specs.Csv.{pairs_of}
use Rattle.basket_csv.specs.Pairs.{HasPairs}
use Rattle.basket_csv.proofs.AppendLemmas.{as_many, id_within, joins_all, joins_first, joins_more, joins_none}
use Rattle.basket_csv.proofs.PairLemmas.{pairs_both}
use Rattle.basket_csv.proofs.pairs.PairsGathering.followed_by.Goals as goal

pub returns-then-is_empty : goal.returns-then-is_empty
returns-then-is_empty c = λ reading names rows more has own.
    let none = nil_from_length c.args.self.groups.items (omega (arith, eqb-true (vec_len c.args.self.groups) 0 (sym c.is_empty.ensures ∙ c.if-is_empty.true), c.args.self.groups.ok.0)) in
    subst (HasPairs c.args.later names) (sym (pairs_both rows more)) (joins_none c.args.self c.args.later names (pairs_of rows) (pairs_of more) none has own)

pub loop-nth-init : goal.loop-nth-init
loop-nth-init c = λ names pairs more has own. joins_first names pairs more c.args.self _ c.args.later has own c.in_ok-indexes.ensures.ids refl

pub index-requires : goal.index-requires
index-requires c =
    let (reading, names, more, own) = c.requires in
    let later = c.args.later in
    let within : c.loop-nth.nth < length later.groups.items = let inside = c.loop-nth-test.true in omega (arith, ap length c.deref-group-items.ensures.value) in
    let long = ap length c.in_ok-indexes.ensures.numbers ∙ length-map later.ids (number_in c.append.new.self) in
    let below = id_within names [] (pairs_of more) later own c.loop-nth.nth within c.in_ok-indexes.indexes.items long in
    omega (arith, below, c.in_ok-indexes.indexes.ok.0)

pub loop-nth-preserved : goal.loop-nth-preserved
loop-nth-preserved c = λ names pairs more has own.
    let later = c.args.later in
    let nth = c.loop-nth.nth in
    let within : nth < length later.groups.items = let inside = c.loop-nth-test.true in omega (arith, ap length c.deref-group-items.ensures.value) in
    let is =
    c.deref.ensures ∙ ap (λ group. group.items) c.group-item.is ∙ ap (λ groups. (get_or groups nth c.group-item.result).items) c.deref-group-items.ensures.value
    ∙ sym (get_or-map (λ group. group.items) later.groups.items nth c.group-item.result [] within) in
    let first = joins_first names pairs more c.args.self (record { alloc = c.args.self.alloc; ids = c.append.new.self; groups = c.args.self.groups }) later has own c.in_ok-indexes.ensures.ids refl in
    joins_more names pairs more later own nth within _ (record { alloc = c.args.self.alloc; ids = c.append.new.self; groups = c.loop-nth.groups }) _
    c.deref.result.now c.in_ok-indexes.indexes.items c.index.result.now is c.in_ok-indexes.ensures.numbers c.index.ensures refl c.in_ok-add_numbers.ensures first (c.loop-nth.invariant names pairs more has own)

pub returns : goal.returns
returns c = λ reading names rows more has own.
    let later = c.args.later in
    let past : length later.groups.items ≤ c.loop-nth.nth = let past = c.loop-nth-test.false in omega (arith, ap length c.deref-group-items.ensures.value) in
    subst (HasPairs _ names) (sym (pairs_both rows more))
    (joins_all names (pairs_of rows) (pairs_of more) _ c.loop-nth.nth (omega (arith, past, as_many names (pairs_of rows) (pairs_of more) later own)) (c.loop-nth.invariant names (pairs_of rows) (pairs_of more) has own))
