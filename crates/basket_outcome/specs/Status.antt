-- The exit status after a run.
use Rattle.std.specs.Prelude.{ℕ}
use Rattle.mine_limit.specs.declared.fault.MineFault.{MineFault}
use Rattle.mine_limit.specs.declared.fault.MineFault.TheVariants as mine
use Rattle.basket_read.specs.declared.fault.ReadFault.{ReadFault}
use Rattle.basket_read.specs.declared.fault.ReadFault.TheVariants as read
use Rattle.basket_outcome.specs.declared.fault.RunFault.{RunFault}
use Rattle.basket_outcome.specs.declared.fault.RunFault.TheVariants.{Input, Sets, Uncounted, Mine, Write}

-- the status after an input that was not read: 6 if memory is out, 4 if the reader failed, else 3
abbrev pub status_after_input : ReadFault → ℕ
status_after_input read.Memory = 6
status_after_input read.Read = 4
status_after_input read.TooLong = 3
status_after_input (read.Byte line byte) = 3
status_after_input (read.Number line) = 3
status_after_input (read.NotText nth) = 3
status_after_input (read.ShortRecord nth) = 3
status_after_input read.Heavy = 3
status_after_input (read.Weight nth) = 3
status_after_input (read.Count line) = 3
status_after_input (read.NoCount line) = 3
status_after_input read.NoTotal = 3
status_after_input (read.Subset line) = 3
status_after_input (read.RecordCount nth) = 3

-- the status after mining: 6 if memory is out, 5 for too many sets
abbrev pub status_after_mining : MineFault → ℕ
status_after_mining mine.Memory = 6
status_after_mining (mine.TooMany limit) = 5

-- the status after a run: 4 where the writer failed, 3 where a set that is to be counted has no count
abbrev pub status_after : RunFault → ℕ
status_after (Input fault) = status_after_input fault
status_after (Sets fault) = status_after_input fault
status_after (Uncounted nth) = 3
status_after (Mine fault) = status_after_mining fault
status_after Write = 4
