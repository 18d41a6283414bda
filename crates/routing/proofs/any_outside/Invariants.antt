-- `routing::any_outside` meets its contract. The loop's invariant: `found` says whether a receiver passed has such a mark.
-- Assumes nothing.
use mathlib.Core.Path.{◌≡◌}
use Rattle.routing.specs.Inner.{outside_rows}
use Rattle.routing.proofs.any_outside.Given as goal

abbrev pub invariant-loop-r : goal.invariant-loop-r
invariant-loop-r l = l.found ≡ outside_rows l.n l.marks l.words l.r
