use Rattle.std.proofs.Common.{◌≡◌, ◌⊎◌, ◌++◌, [], true, false, sym, ap, inl, inr, ◌∙◌, arith}
use Rattle.std.proofs.lemmas.Bool.{cases_Bool}
use Rattle.basket_read.proofs.GatheredLemmas.{joined}
use Rattle.basket_read.proofs.gathered.GatheredBaskets.append_any.Goals as goal

pub count_kept-requires : goal.count_kept-requires
count_kept-requires c = omega (arith, c.weight.ensures, c.weight-2.ensures, c.saturating_add-weight.ensures, c.if-weight-gt-MAX_WEIGHT.false)

pub append-requires : goal.append-requires
append-requires c = omega (arith, c.in_ok-count_kept.ensures.weight, c.weight.ensures, c.weight-2.ensures, c.saturating_add-weight.ensures, c.if-weight-gt-MAX_WEIGHT.false)

pub append-requires-2-clause-light : goal.append-requires-2-clause-light
append-requires-2-clause-light c = omega (arith, c.in_ok-count_kept.ensures.weight, c.weight.ensures, c.weight-2.ensures, c.saturating_add-weight.ensures, c.if-weight-gt-MAX_WEIGHT.false)

pub returns : goal.returns
returns c = λ counting apart baskets more may h k.
    let kept = c.count_kept.new.self in
    let other = c.args.other in
    let counts : other.counting ≡ true → counting ≡ true = λ e. may (sym k.chosen ∙ e) in
    let m = c.in_ok-count_kept.ensures.baskets counting baskets counts h in
    let joins : ((kept.counting ≡ true) × (kept.baskets ≡ [])) ⊎ (other.counting ≡ false) =
    elim (cases_Bool other.counting) [ inl e ↦ inl (m.chosen ∙ counts e, c.in_ok-count_kept.ensures.none e) | inr e ↦ inr e ] in
    let (now, same, counted, all) = c.in_ok-count.ensures.baskets _ (c.in_ok-append.ensures.counted m.past k.past m.counted k.counted) in
    let light = c.in_ok-count_kept.ensures.same.1 ∙ c.if-self.false in
    joined kept other c.count.new.self counting apart baskets more m k light c.if-other.false (c.in_ok-count.ensures.heavy ∙ light) c.in_ok-count.ensures.counting
    (omega (arith, c.in_ok-count_kept.ensures.weight, c.weight.ensures, c.weight-2.ensures, c.saturating_add-weight.ensures, c.if-weight-gt-MAX_WEIGHT.false)) joins
    (now, same, counted, all ∙ ap (λ l. (m.past ++ k.past) ++ l) c.in_ok-append-2.ensures.ok)
