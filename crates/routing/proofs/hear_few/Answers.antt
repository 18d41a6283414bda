-- `routing::hear_few` meets its contract. The loop's invariant: the marks of the senders before some one are heard, and those from there on are left.
-- Assumes nothing.
use mathlib.Core.Path.{refl, sym, ap, ◌∙◌}
use Rattle.ancestors.specs.declared.Nodes.{Nodes}
use Rattle.ancestors.proofs.Walk.{walk_begun, walk_on, walk_visits, walk_ended}
use Rattle.routing.specs.Inner.{by_words}
use Rattle.routing.proofs.Hearing.{row_begun, row_next, row_passed}
use Rattle.routing.proofs.hear_few.Goals as goal

pub loop-s-init : goal.loop-s-init
loop-s-init c =
    let a = c.args in
    walk_begun (ap (λ (i : Nodes). i.left) c.into_iter-s-iterator.ensures.into_iter_gives ∙ c.nodes_of-s-items.ensures)
    (row_begun a.receiver.index a.word (by_words a.net.now))

pub invariant_of-hear_arc : goal.invariant_of-hear_arc
invariant_of-hear_arc c =
    let a = c.args in
    record {
      small = (walk_visits c.ranges.word.fits (λ k b e. row_passed _ _ a.receiver.index a.word k e) c.in-Some.s c.loop-s.invariant c.in-Some.ensures.steps).below;
    }

pub loop-s-preserved : goal.loop-s-preserved
loop-s-preserved c =
    let a = c.args in
    let visit = walk_visits c.ranges.word.fits (λ k b e. row_passed _ _ a.receiver.index a.word k e) c.in-Some.s c.loop-s.invariant c.in-Some.ensures.steps in
    walk_on c.ranges.word.fits c.in-Some.s c.loop-s.invariant c.in-Some.ensures.steps
    (row_next _ _ _ a.receiver.index a.word c.in-Some.s _ _ (sym visit.here) refl visit.known c.hear_arc.ensures)

pub returns : goal.returns
returns c =
    let a = c.args in
    walk_ended c.ranges.word.fits (λ k b e. row_passed _ _ a.receiver.index a.word k e) c.loop-s.invariant c.in-None.ensures.steps
