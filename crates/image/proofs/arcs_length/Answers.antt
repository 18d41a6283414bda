-- `image::arcs_length` meets its contract. The loop's invariant: the bytes of the arcs to the receivers passed.
-- Assumes nothing.
use native.Mathlib.Omega.{arith}
use mathlib.Core.Path.{◌≡◌, sym, ap, ◌∙◌}
use Prim.Native.Nat.{◌*◌}
use Rattle.network.specs.Faults.{max_nodes}
use Rattle.memory.specs.Layout.{view}
use Rattle.memory.proofs.Laws.{few}
use Rattle.records.specs.Records.{body_length, record_length}
use Rattle.image.specs.Measured.{sum}
use Rattle.image.proofs.Sums.{sum_zero, sum_next, sum_most}
use Rattle.image.proofs.Receivers.{arcs_counted, arcs_counted_most, arcs_in_word, arcs_all}
use Rattle.image.proofs.arcs_length.Goals as goal

pub loop-r-init : goal.loop-r-init
loop-r-init c = sym (sum_zero (arcs_counted c.args.from.now.net.now))

pub bounds-from-r : goal.bounds-from-r
bounds-from-r c = omega (arith, few c.args.from.now.net.now)

pub overflow_add-total : goal.overflow_add-total
unfolding body_length
overflow_add-total c =
    let l = c.loop-r in
    let s = c.args.from.now in
    let here = arcs_in_word s.net.now s.arcs.now l.r _ s.words (omega (arith, c.loop-r-test.true, c.nodes-r-end.ensures)) c.word_length-total.ensures in
    let sofar = sum_most (arcs_counted s.net.now) (max_nodes * record_length 2) l.r (arcs_counted_most s.net.now) in
    omega (arith, l.invariant, few s.net.now, sofar, here, arcs_counted_most s.net.now l.r)

pub loop-r-preserved : goal.loop-r-preserved
loop-r-preserved c =
    let l = c.loop-r in
    let s = c.args.from.now in
    let here = arcs_in_word s.net.now s.arcs.now l.r _ s.words (omega (arith, c.loop-r-test.true, c.nodes-r-end.ensures)) c.word_length-total.ensures in
    omega (arith, l.invariant, here, sum_next (arcs_counted s.net.now) l.r)

pub returns : goal.returns
returns c =
    let l = c.loop-r in
    let w = c.args.from.now.net.now in
    let e : l.r ≡ (view w).nodes = omega (arith, c.loop-r-test.false, c.nodes-r-end.ensures, l.auto.r-end) in
    l.invariant ∙ ap (sum (arcs_counted w)) e ∙ arcs_all w
