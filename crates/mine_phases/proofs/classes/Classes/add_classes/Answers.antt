use Rattle.std.proofs.Common.{◌≡◌, ◌+◌, ◌-◌, ◌%◌, ◌<◌, ◌≤◌, ◌++◌, ◌∷◌, [], ℕ, Bool, true, false, not, List, ap, sym, ◌∙◌, append_assoc, arith, length}
use Rattle.std.proofs.lemmas.Grind.{common_steps}
use Rattle.std.specs.List.{sum_by}
use Rattle.std.proofs.Math.Nat.{add-mod_right, mod-eq_of_lt}
use Rattle.std.proofs.lemmas.List.{map-append}
use Rattle.std.proofs.lemmas.List.Elements.{All-push, All-same}
use Rattle.std.proofs.lemmas.List.Sums.{sum_by_push}
use Rattle.basket_ranks.specs.Codes.{Coding}
use Rattle.basket_sets.specs.declared.counted.Counted.{Counted}
use Rattle.mine_classes.specs.Mined.{class_size}
use Rattle.mine_classes.proofs.theory.Listed.{lists_have_class_size}
use Rattle.mine_phases.specs.Classes.{IsMined, claimed_size, rank_from_end}
use Rattle.mine_pieces.specs.WorkerResult.{numbers_of}
use Rattle.mine_phases.proofs.Ranks.{first_ranks, next_rank, ranks_before, ranks_fit}
use Rattle.mine_phases.proofs.classes.Classes.add_classes.Goals as goal

-- the rank at an index counted from the end
rank_is : (ranks index : ℕ) (coding : Coding) → ranks ≡ length coding.items → ranks - 1 - index ≡ rank_from_end (length coding.items) index
rank_is ranks index coding all = ap (λ n. rank_from_end n index) all

-- with the class of a rank, the classes before it of a claimed number have no more sets than all of that number
class_fits : (coding : Coding) (pieces claimed index ranks : ℕ) → index % pieces ≡ claimed → claimed < pieces → ranks ≡ length coding.items → index < ranks
    → sum_by (class_size coding) (ranks_before coding pieces claimed index) + class_size coding (ranks - 1 - index) ≤ claimed_size coding pieces claimed
class_fits coding pieces claimed index ranks turn some all inside = grind (arith, common_steps, ranks_fit, rank_is)

pub loop-index-init : goal.loop-index-init
loop-index-init g c = grind (arith, common_steps, first_ranks, mod-eq_of_lt)

pub returns-in_err-class-clause-at_most : goal.returns-in_err-class-clause-at_most
returns-in_err-class-clause-at_most g c = grind (arith, common_steps, class_fits)

pub returns-in_err-push-clause-at_most : goal.returns-in_err-push-clause-at_most
returns-in_err-push-clause-at_most g c = grind (arith, common_steps, class_fits)

not_true : (b : Bool) → not b ≡ true → b ≡ false
not_true h1 h2 = grind (arith, common_steps)

pub returns-then-not-look-clause-at_most : goal.returns-then-not-look-clause-at_most
returns-then-not-look-clause-at_most g c = grind (arith, common_steps, class_fits)

pub loop-index-preserved : goal.loop-index-preserved
loop-index-preserved g c =
    let coding : Coding = g.M.ClassMiner.coding_of c.args.self.now.miner.now in
    let Mined : ℕ × (List Counted × ℕ) → Type 0 = λ value. IsMined coding (g.M.ClassMiner.rests_on c.args.self.now.miner.now) (g.M.ClassMiner.work_of c.args.self.now.miner.now) value.0 value.1 in
    let pieces = c.args.self.now.pieces in
    let index = c.loop-index.index in
    let rank = c.args.self.now.ranks - 1 - index in
    let was = c.loop-index.invariant in
    let class = c.in_ok-class.ensures.class in
    let pushed = c.in_ok-push.ensures.items in
    let size = lists_have_class_size coding rank c.in_ok-class.class.0 class.listed in
    let before = numbers_of c.args.values.now.items in
    let ranks = ranks_before coding pieces c.args.claimed index in
    let next = next_rank coding pieces c.args.claimed index rank was.turn (omega (arith, c.loop-index-test.true, c.args.self.now.all_ranks)) (rank_is c.args.self.now.ranks index coding c.args.self.now.all_ranks) (omega (arith, c.requires.claimed)) in
    let sum = ap (sum_by (class_size coding)) next ∙ sum_by_push (class_size coding) ranks rank in
    record {
      scratch = (let made = c.in_ok-class.ensures.scratch in (made.0 ∙ sym c.args.self.now.all_ranks, made.1 ∙ sym c.args.self.now.all_ranks));
      going = not_true _ (sym c.look.ensures.over ∙ c.if-not-look.false);
      limit = c.look.ensures.limit ∙ class.limit ∙ was.limit;
      turn = add-mod_right index pieces ∙ was.turn;
      numbers = ap numbers_of pushed ∙ map-append (λ (value : ℕ × (List Counted × ℕ)). value.0) c.loop-index.values.items _ ∙ ap (λ l. l ++ rank ∷ []) was.numbers
          ∙ append_assoc before ranks (rank ∷ []) ∙ ap (λ l. before ++ l) (sym next);
      each = All-same Mined _ _ pushed (All-push Mined c.loop-index.values.items _ was.each (record { listed = class.listed; worked = c.in_ok-class.ensures.work; few = class.few }));
      told = omega (arith, sum, size, was.told, class.told, c.look.ensures.told);
    }
