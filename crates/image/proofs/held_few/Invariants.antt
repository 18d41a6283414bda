-- `image::held_few` meets its contract. The loop's invariant: the reports of the senders before some one are counted, and the arcs from there on are left.
-- Assumes nothing.
use mathlib.Core.Path.{◌≡◌}
use Rattle.ancestors.specs.Ancestors.{count}
use Rattle.ancestors.proofs.Walk.{Walked}
use Rattle.network.specs.Faults.{max_nodes}
use Rattle.image.specs.Measured.{holds}
use Rattle.image.proofs.held_few.Given as goal

abbrev pub invariant-loop-s : goal.invariant-loop-s
invariant-loop-s l =
    goal.iterator-loop-s.can_next l.s-iterator × goal.iterator-loop-s.is_finite l.s-iterator ×
    Walked (λ j. l.total ≡ count (holds l.net l.arcs l.r) j) max_nodes l.arcs l.s-iterator.left
