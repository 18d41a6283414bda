-- `running::run_events` meets its contract. The loop's invariant: the rest of the events gives the whole.
-- Assumes nothing.
use Prim.Native.Nat.{◌-◌}
use lib.ListN.{length}
use Rattle.memory.specs.Layout.{view}
use Rattle.running.specs.Inner.{events_from}
use Rattle.running.proofs.Loop.{Rest}
use Rattle.running.proofs.run_events.Given as goal

abbrev pub invariant-loop-at : goal.invariant-loop-at
invariant-loop-at l = Rest l.input (events_from l.input (view l.initial.net) l.start) (view l.net) l.rounds l.at

abbrev pub decreases-loop-at : goal.decreases-loop-at
decreases-loop-at l = length l.input - l.at
