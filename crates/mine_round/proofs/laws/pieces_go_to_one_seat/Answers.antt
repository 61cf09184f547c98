-- A piece that stands in two claimed lists would be counted twice.
use Rattle.std.proofs.Common.{◌≡◌, ℕ, ◌≤◌, cond, List, min, set, sym, ◌∙◌, arith}
use Rattle.std.proofs.lemmas.Grind.{common_steps}
use Rattle.std.specs.Prelude.{Contains, ◌==◌}
use Rattle.std.proofs.lemmas.Bool.Decides.{nat_tests}
use Rattle.std.proofs.lemmas.List.Sums.{get_or-le-sum_by}
use Rattle.mine_round.specs.declared.state.SeatState.TheVariants.{Spent}
use Rattle.mine_round.specs.Lawful.{times, once_below}
use Rattle.mine_round.proofs.Records.{record_at-set_other, total-set, number-le-total}
use Rattle.mine_round.proofs.laws.pieces_go_to_one_seat.Goals as goal

counts_one : (y x : ℕ) → y ≡ x → 1 ≤ cond (y == x) 1 0
counts_one y x e = grind (arith, nat_tests)

counts_once : (bound x : ℕ) → once_below bound x ≤ 1
counts_once bound x = grind (arith, nat_tests)

times_contained : (xs : List ℕ) (x : ℕ) → Contains xs x → 1 ≤ times x xs
times_contained xs x (k, inside, is) = grind (arith, common_steps, get_or-le-sum_by, counts_one)

pub returns : goal.returns
returns c m i j r other piece h apart at there mine theirs =
    let sum = total-set (λ q. times piece q.claimed) m.seats i Spent r at in
    let there' = record_at-set_other m.seats i j Spent (λ e. apart (sym e)) ∙ there in
    let within = number-le-total (λ q. times piece q.claimed) (set m.seats i Spent) j other there' in
    let a = times_contained r.claimed piece mine in
    let b = times_contained other.claimed piece theirs in
    let once = counts_once (min m.next m.pieces) piece in
    let all = h.claimed piece in
    absurd (omega arith)
