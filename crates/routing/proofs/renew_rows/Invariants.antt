-- `routing::renew_rows` meets its contract. The loop's invariant: the nodes passed but the origin have their new rows.
-- Assumes nothing.
use mathlib.Core.Path.{◌≡◌}
use Rattle.memory.specs.Layout.{view}
use Rattle.network.specs.Round.{renew_to}
use Rattle.routing.proofs.renew_rows.Given as goal

abbrev pub invariant-loop-r : goal.invariant-loop-r
invariant-loop-r l = view l.net ≡ renew_to l.r (view l.fn.net)
