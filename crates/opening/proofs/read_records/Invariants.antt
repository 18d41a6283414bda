-- `opening::read_records` meets its contract. The loop's invariant: reading on from here gives the whole.
-- Assumes nothing.
use Prim.Native.Nat.{◌-◌}
use lib.ListN.{length, drop}
use Rattle.memory.specs.Layout.{view}
use Rattle.records.specs.Opening.{read_records_of}
use Rattle.opening.proofs.Loop.{Going}
use Rattle.opening.proofs.read_records.Given as goal

abbrev pub invariant-loop-fault : goal.invariant-loop-fault
invariant-loop-fault l = Going (read_records_of (length l.input) (view l.initial.net) 0 l.start (drop l.start l.input)) l.input (view l.net) l.next l.at

abbrev pub decreases-loop-fault : goal.decreases-loop-fault
decreases-loop-fault l = length l.input - l.at
