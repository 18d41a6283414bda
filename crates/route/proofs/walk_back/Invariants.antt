-- `route::walk_back` meets its contract. The loop's invariant: the walk from the present node on, with room for the nodes left, is the whole walk.
-- Assumes nothing.
use mathlib.Core.Path.{◌≡◌}
use lib.ListN.{length, drop}
use Rattle.network.specs.Faults.{max_nodes}
use Rattle.network.specs.Route.{walk, walk_back_of}
use Rattle.memory.specs.Layout.{view}
use Rattle.route.proofs.walk_back.Given as goal

abbrev pub invariant-loop-left : goal.invariant-loop-left
invariant-loop-left l = (walk l.left (view l.net) l.y l.met (drop l.left l.bytes) ≡ walk_back_of (view l.net) l.node) × (length l.bytes ≡ max_nodes)
