use Rattle.std.proofs.Common.{◌≡◌, ◌+◌, ◌/◌, ◌^◌, take, not}
use Rattle.basket_rules.specs.Consequents.{chosen, has_bit}
use Rattle.basket_rules.proofs.consequents.part.Given as goal

abbrev pub invariant-loop-item : goal.invariant-loop-item
invariant-loop-item l = record {
  both : l.in_antecedent + l.in_consequent ≡ l.item-index;
  antecedent : take l.in_antecedent l.antecedent ≡ chosen (λ index. not (has_bit l.fn.bits index)) (take l.item-index l.union);
  consequent : take l.in_consequent l.consequent ≡ chosen (has_bit l.fn.bits) (take l.item-index l.union);
  rest : l.rest ≡ l.fn.bits / 2 ^ l.item-index;
}
