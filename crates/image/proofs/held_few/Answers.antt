-- `image::held_few` meets its contract. The loop's invariant: the reports of the senders before some one are counted, and the arcs from there on are left.
-- Assumes nothing.
use native.Mathlib.Omega.{arith}
use mathlib.Core.Path.{sym}
use Rattle.ancestors.proofs.Walk.{walk_begun, walk_on, walk_visits, walk_ended}
use Rattle.image.proofs.Sums.{count_none}
use Rattle.image.proofs.Receivers.{held_none, held_next, held_most}
use Rattle.image.proofs.held_few.Goals as goal

pub loop-s-init : goal.loop-s-init
loop-s-init c = (tt, tt, walk_begun (cc) (sym (count_none _)))

pub overflow_add-total : goal.overflow_add-total
overflow_add-total c =
    let a = c.args in
    let visit = walk_visits (omega arith) (λ i b e h. held_none a.net.now a.arcs a.r i e h) c.in-Some.s c.loop-s.invariant.2 c.in-Some.ensures.steps in
    omega (arith, held_most a.net.now a.arcs a.r c.in-Some.s (sym visit.here) c.holds_report.ensures c.from-total.ensures visit.known visit.below)

pub loop-s-preserved : goal.loop-s-preserved
loop-s-preserved c =
    let a = c.args in
    let steps = c.in-Some.ensures.steps in
    let visit = walk_visits (omega arith) (λ i b e h. held_none a.net.now a.arcs a.r i e h) c.in-Some.s c.loop-s.invariant.2 steps in
    let next = held_next a.net.now a.arcs a.r c.in-Some.s (sym visit.here) c.holds_report.ensures c.from-total.ensures visit.known in
    (tt, tt, walk_on (omega arith) c.in-Some.s c.loop-s.invariant.2 steps next)

pub returns : goal.returns
returns c =
    let a = c.args in
    walk_ended (omega arith) (λ i b e h. held_none a.net.now a.arcs a.r i e h) c.loop-s.invariant.2 c.in-None.ensures.steps
