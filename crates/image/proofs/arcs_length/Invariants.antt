-- `image::arcs_length` meets its contract. The loop's invariant: the bytes of the arcs to the receivers passed.
-- Assumes nothing.
use mathlib.Core.Path.{◌≡◌}
use Rattle.image.specs.Measured.{sum}
use Rattle.image.proofs.Receivers.{arcs_counted}
use Rattle.image.proofs.arcs_length.Given as goal

abbrev pub invariant-loop-r : goal.invariant-loop-r
invariant-loop-r l = l.total ≡ sum (arcs_counted l.from.net.now) l.r
