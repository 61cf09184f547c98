use Rattle.std.proofs.Common.{◌≡◌, ℕ, ◌≤◌, ◌<◌, ap, sym, ◌∙◌, subst, arith, map, length, List, Ok, Err, Some}
use Rattle.std.specs.Prelude.{All, Vec}
use Rattle.std.specs.Global.{Global}
use Rattle.std.proofs.lemmas.List.Elements.{All-same}
use Rattle.std.proofs.lemmas.Result.{err_from_is_err_and}
use Rattle.basket_ranks.specs.Codes.{Coding, IsCoding, frequent_of_coding}
use Rattle.mine_limit.specs.declared.fault.MineFault.TheVariants.{TooMany}
use Rattle.basket_sets.specs.declared.counted.Counted.{Counted}
use Rattle.mine_round.specs.Lawful.{once_below}
use Rattle.mine_round.specs.SeatView.{SeatView}
use Rattle.mine_pieces.specs.declared.worker_result.WorkerResult.{WorkerResult}
use Rattle.mine_phases.specs.Classes.{IsClassShare, IsMined, ToldAll, claimed_size, ranks_of}
use Rattle.mine_pieces.specs.Pieces.{HasEach}
use Rattle.mine_pieces.specs.WorkerResult.{fault_of}
use Rattle.mine_pieces.proofs.theory.Seats.{all_own, each_seat}
use Rattle.mine_pieces.proofs.theory.Shares.{all_claimed, have_each, hold_numbers}
use Rattle.mine_phases.proofs.Sharing.{no_more_than_limit, ranks_once, too_many_are}
use Rattle.mine_phases.proofs.classes.mined_classes.Goals as goal

-- what a worker hands back: the classes of its ranks
abbrev Mined : Type 0
Mined = WorkerResult (Vec (ℕ × (List Counted × ℕ)) Global)

pub close-requires : goal.close-requires
close-requires g c = record { own = all_own c.in_ok-round.round c.in_ok-seats.ensures.shares c.in_ok-seats.seats.items c.in_ok-seats.ensures.seats (λ k d below. (c.in_ok-seats.ensures.each k d below).call.met.1.of_ranks.own) }

pub returns-in_err-values-clause-too_many : goal.returns-in_err-values-clause-too_many
returns-in_err-values-clause-too_many g c most e =
    let coding : Coding = g.M.ClassMiner.coding_of c.args.miner.now in
    let shares = c.in_ok-seats.ensures.shares in
    let all : All (IsClassShare c.in_ok-round.round coding (g.M.ClassMiner.rests_on c.args.miner.now) (g.M.ClassMiner.work_of c.args.miner.now) c.args.limit c.for_parts.result.cutting.pieces) shares =
    λ k d below. (c.in_ok-seats.ensures.each k d below).call.met.1 in
    let p = err_from_is_err_and c.from_residual-in_err-values.result c.from_residual-in_err-values.ensures.1 in
    let both = sym p.1 ∙ e in
    let fault : p.0 ≡ TooMany most = cc in
    let told : fault_of (map (λ (s : Mined). s.values) shares) ≡ Some (TooMany most) = rw (c.in_err-values.was ∙ ap Err (sym p.2 ∙ fault)) at c.in_ok-seats.ensures.fault in
    let first : 0 < length c.in-Ok.field-0.counters.items = omega (arith, c.in-Ok.ensures.counters, c.in-Ok.field-0.counters.ok, c.in_ok-round.ensures.round.1) in
    subst (λ k. (most ≡ c.args.limit) × (c.args.limit < length (frequent_of_coding k))) c.requires.coding
    (too_many_are coding c.for_parts.result.cutting.pieces c.for_parts.result.cutting.some_pieces.0 (subst IsCoding (sym c.requires.coding) c.items-ranks.ensures.coding)
    c.in_ok-round.round (g.M.ClassMiner.rests_on c.args.miner.now) (g.M.ClassMiner.work_of c.args.miner.now) c.args.limit shares c.in_ok-seats.seats.items most _ c.in-Ok.field-0.claimed c.in_ok-seats.ensures.seats all c.in-Ok.ensures.claimed
    (omega (arith, c.in-Ok.ensures.within, c.in_ok-round.ensures.round.0)) (c.in-Ok.ensures.sums 0 first) (c.in-Ok.ensures.greatest 0 first) told)

pub collected-requires : goal.collected-requires
collected-requires g c x =
    let coding : Coding = g.M.ClassMiner.coding_of c.args.miner.now in
    let cutting = c.for_parts.result.cutting in
    let shares = c.in_ok-seats.ensures.shares in
    let lists = c.in_ok-values.field-0.items in
    let all : map Ok lists ≡ map (λ (s : Mined). s.values) shares = rw c.in_ok-values.was at c.in_ok-seats.ensures.lists in
    let some : 1 ≤ length shares = omega (arith, c.in_ok-seats.ensures.count, c.in_ok-round.ensures.seats, cutting.some_workers.0) in
    hold_numbers (IsMined coding (g.M.ClassMiner.rests_on c.args.miner.now) (g.M.ClassMiner.work_of c.args.miner.now)) (ranks_of coding cutting.pieces) c.in_ok-round.round shares lists all (λ k d below. (c.in_ok-seats.ensures.each k d below).call.met.1.of_ranks)
    c.in_ok-seats.seats.items _ cutting.pieces c.in_ok-seats.ensures.seats some (λ any. c.in-Ok.ensures.ended any ∙ c.in_ok-round.ensures.round.0) c.in-Ok.ensures.claimed
    (length coding.items) (ranks_once coding cutting.pieces cutting.some_pieces.0) x
    ∙ ap (λ n. once_below n x) (ap (λ (k : Coding). length k.items) c.requires.coding ∙ sym (ap length c.items-ranks.ensures.items))

pub returns-clause-mined : goal.returns-clause-mined
returns-clause-mined g c =
    let coding : Coding = g.M.ClassMiner.coding_of c.args.miner.now in
    let rests_on = g.M.ClassMiner.rests_on c.args.miner.now in
    let work = g.M.ClassMiner.work_of c.args.miner.now in
    let cutting = c.for_parts.result.cutting in
    let shares = c.in_ok-seats.ensures.shares in
    let lists = c.in_ok-values.field-0.items in
    let seats = c.in_ok-seats.seats.items in
    let all : map Ok lists ≡ map (λ (s : Mined). s.values) shares = rw c.in_ok-values.was at c.in_ok-seats.ensures.lists in
    let some : 1 ≤ length shares = omega (arith, c.in_ok-seats.ensures.count, c.in_ok-round.ensures.seats, cutting.some_workers.0) in
    let claimed = all_claimed (IsMined coding rests_on work) (ranks_of coding cutting.pieces) c.in_ok-round.round shares lists all (λ k d below. (c.in_ok-seats.ensures.each k d below).call.met.1.of_ranks)
    seats _ cutting.pieces c.in_ok-seats.ensures.seats some (λ any. c.in-Ok.ensures.ended any ∙ c.in_ok-round.ensures.round.0) c.in-Ok.ensures.claimed in
    let Told : SeatView → Type 0 = ToldAll (claimed_size coding cutting.pieces) c.args.limit in
    let told = All-same Told _ _ c.in_ok-seats.ensures.seats (each_seat Told shares lists all (λ k d below. (c.in_ok-seats.ensures.each k d below).call.met.1.told)) in
    let first : 0 < length c.in-Ok.field-0.counters.items = omega (arith, c.in-Ok.ensures.counters, c.in-Ok.field-0.counters.ok, c.in_ok-round.ensures.round.1) in
    let few = no_more_than_limit coding cutting.pieces cutting.some_pieces.0 (subst IsCoding (sym c.requires.coding) c.items-ranks.ensures.coding)
    c.args.limit seats _ told claimed (c.in-Ok.ensures.sums 0 first) (c.in-Ok.ensures.greatest 0 first) in
    let classes = c.in_ok-collected.field-0.items in
    let long : length c.items-ranks.result.now ≡ length coding.items = ap length c.items-ranks.ensures.items ∙ ap (λ (k : Coding). length k.items) (sym c.requires.coding) in
    record {
      is_coding = c.items-ranks.ensures.coding;
      each = subst (λ (k : Coding). HasEach (IsMined k rests_on work) (length k.items) classes) c.requires.coding
          (have_each (IsMined coding rests_on work) (ranks_of coding cutting.pieces) c.in_ok-round.round shares lists all
          (λ k d below. (c.in_ok-seats.ensures.each k d below).call.met.1.of_ranks) (length coding.items) classes (rw long at c.in_ok-collected.ensures));
      within = omega (arith, few, ap (λ (k : Coding). length (frequent_of_coding k)) c.requires.coding);
    }
