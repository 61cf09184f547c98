use Rattle.std.proofs.Common.{◌≡◌, ◌++◌, drop, get_or, length, map, take}
use Rattle.basket_csv.proofs.groups.rename_groups.Given as goal

-- the groups before the index are renamed, the others are as they were
abbrev pub invariant-loop-index : goal.invariant-loop-index
invariant-loop-index l = record {
  long : length l.groups ≡ length l.initial.groups;
  renamed : map (λ group. group.items) l.groups
      ≡ map (map (λ number. get_or l.names number 0)) (map (λ group. group.items) (take l.index l.initial.groups)) ++ map (λ group. group.items) (drop l.index l.initial.groups);
}
