-- What a search below a node does.
use Rattle.std.specs.Prelude.{◌≡◌, ◌≤◌, ◌<◌, ◌+◌, ◌*◌, ◌++◌, ℕ, Bool, false, IsTrue, List, ◌∷◌, ◌⊎◌, Err, OnOk, Result, length, map}
use Rattle.mine_limit.specs.declared.fault.MineFault.{MineFault}
use Rattle.mine_limit.specs.declared.fault.MineFault.TheVariants.{TooMany}
use Rattle.basket_sets.specs.declared.counted.Counted.{Counted}
use Rattle.basket_ranks.specs.Codes.{MOST_RANKS, decoded}
use Rattle.mine_classes.specs.Mined.{MOST_SET_WORK}
use Rattle.mine_search.specs.declared.mined.Mined.{Mined}
use Rattle.mine_search.specs.Node.{Node, Supports, sets_at, work_at}

-- a set of ranks as items, with its support
abbrev pub found_at : Supports → List ℕ → Counted
found_at over set = record { set = decoded over.items set; count = over.support set }

-- a node whose set is given as items, and whose supports fall: a set with one more rank has no greater support
pub record IsNode (set : List ℕ) (node : Node) : Type 0 where
  pub falls : (rank other : ℕ) (others : List ℕ) → node.over.support (other ∷ rank ∷ others) ≤ node.over.support (other ∷ others)
  pub of_set : set ≡ decoded node.over.items node.set
  pub few : length node.over.items < MOST_RANKS
  pub within : node.below ≤ length node.over.items

-- a node that something represents
pub record IsOf {P : Type 0} (gives : P → Node → Type 0) (base : P) (set : List ℕ) (node : Node) : Type 0 where
  pub given : gives base node
  pub is : IsNode set node

-- how far a search has come: the sets found, the work for them, what the tally was told, up to which limit, and whether it is over
pub record Reached : Type 0 where
  pub sets : List Counted
  pub work : ℕ
  pub told : ℕ
  pub limit : ℕ
  pub is_over : Bool

abbrev pub reached : {S T : Type 0} → (S → ℕ) → (T → ℕ) → (T → ℕ) → (T → Bool) → Mined S → T → Reached
reached number told_of limit_of is_over mined tally = record { sets = mined.sets; work = number mined.steps; told = told_of tally; limit = limit_of tally; is_over = is_over tally }

-- the search may go on: the tally is not over, and the work is little enough for the sets
pub record GoesOn (now : Reached) : Type 0 where
  pub going : now.is_over ≡ false
  pub few : now.work ≤ length now.sets * MOST_SET_WORK

-- sets were found and told by so much work, and the search may go on
pub record Adds (found : List Counted) (work : ℕ) (before after : Reached) : Type 0 where
  pub sets : after.sets ≡ before.sets ++ found
  pub worked : after.work ≡ before.work + work
  pub told : after.told ≡ before.told + length found
  pub going : GoesOn after

-- all sets below a node were found, each once
abbrev pub FindsAll : Reached → Reached → Node → Type 0
FindsAll before after node = Adds (map (found_at node.over) (sets_at node)) (work_at node) before after

-- the tally is over, or the sets with those below a node are more than the limit
pub record AreTooMany (limit : ℕ) (before after : Reached) (node : Node) : Type 0 where
  pub limit_is : limit ≡ before.limit
  pub why : IsTrue after.is_over ⊎ (limit < length before.sets + length (sets_at node))

-- no more was told than what is below a node
abbrev pub TellsAtMost : Reached → Reached → Node → Type 0
TellsAtMost before after node = after.told ≤ before.told + length (sets_at node)

-- what is done below each node that is represented, in the end
pub record IsDone {P A : Type 0} (gives : P → Node → Type 0) (base : P) (set : List ℕ) (before after : Reached) (result : Result A MineFault) : Type 0 where
  pub found : OnOk result ((node : Node) → IsOf gives base set node → FindsAll before after node)
  pub too_many : (limit : ℕ) → result ≡ Err (TooMany limit) → (node : Node) → IsOf gives base set node → AreTooMany limit before after node
  pub at_most : (node : Node) → IsOf gives base set node → TellsAtMost before after node
  pub limit : after.limit ≡ before.limit
