-- `image::held_all` meets its contract. The loop's invariant: the reports of the senders passed.
-- Assumes nothing.
use native.Mathlib.Omega.{arith}
use mathlib.Core.Path.{sym}
use Rattle.image.proofs.Sums.{count_none}
use Rattle.image.proofs.Receivers.{held_next, held_most}
use Rattle.image.proofs.held_all.Goals as goal

pub loop-s-init : goal.loop-s-init
loop-s-init c = sym (count_none _)

pub overflow_add-total : goal.overflow_add-total
overflow_add-total c =
    let l = c.loop-s in
    omega (arith, held_most _ _ _ l.s c.listed.ensures c.holds_report.ensures c.from-total.ensures l.invariant c.loop-s-test.true)

pub loop-s-preserved : goal.loop-s-preserved
loop-s-preserved c = held_next _ _ _ _ c.listed.ensures c.holds_report.ensures c.from-total.ensures c.loop-s.invariant
