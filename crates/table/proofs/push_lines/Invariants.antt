-- `table::push_lines` meets its contract. The loop's invariant: the lines of the nodes passed were pushed, in at most 84 bytes each.
-- Assumes nothing.
use Prim.Native.Nat.{◌+◌, ◌*◌, ◌≤◌}
use mathlib.Core.Path.{◌≡◌}
use mathlib.Core.List.{◌++◌}
use lib.ListN.{length}
use Rattle.memory.specs.Layout.{view}
use Rattle.records.specs.Image.{each}
use Rattle.table.specs.Text.{line}
use Rattle.table.proofs.push_lines.Given as goal

abbrev pub invariant-loop-node : goal.invariant-loop-node
invariant-loop-node l =
    (l.text.items ≡ l.initial.text.items ++ each (line (view l.net)) 0 l.node) × (length l.text.items ≤ length l.initial.text.items + 84 * l.node)
