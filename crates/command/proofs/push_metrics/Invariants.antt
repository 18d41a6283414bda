-- `command::push_metrics` meets its contract. The loop's invariant: the lines of the nodes passed were pushed, in at most 42 bytes each.
-- Assumes nothing.
use Prim.Native.Nat.{◌+◌, ◌*◌, ◌≤◌}
use mathlib.Core.Path.{◌≡◌}
use mathlib.Core.List.{◌++◌}
use lib.ListN.{length}
use Rattle.command.specs.Saying.{node_lines}
use Rattle.command.proofs.push_metrics.Given as goal

abbrev pub invariant-loop-node : goal.invariant-loop-node
invariant-loop-node l = (l.said.items ≡ l.initial.said.items ++ node_lines l.metrics l.node) × (length l.said.items ≤ length l.initial.said.items + 42 * l.node)
