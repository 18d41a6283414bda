-- `image::held_all` meets its contract. The loop's invariant: the reports of the senders passed.
-- Assumes nothing.
use mathlib.Core.Path.{◌≡◌}
use Rattle.ancestors.specs.Ancestors.{count}
use Rattle.image.specs.Measured.{holds}
use Rattle.image.proofs.held_all.Given as goal

abbrev pub invariant-loop-s : goal.invariant-loop-s
invariant-loop-s l = l.total ≡ count (holds l.net l.arcs l.r) l.s
