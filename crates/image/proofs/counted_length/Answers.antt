-- `image::counted_length` meets its contract. The loop's invariant: the first and the last record, and the bytes of the receivers passed.
-- Assumes nothing.
use native.Mathlib.Omega.{arith}
use mathlib.Core.Path.{◌≡◌, refl, ap}
use Rattle.memory.specs.Layout.{view}
use Rattle.memory.proofs.Laws.{few}
use Rattle.records.specs.Records.{body_length}
use Rattle.image.specs.Measured.{sum, receiver_bytes}
use Rattle.image.proofs.Sums.{sum_zero, sum_next, sum_most}
use Rattle.image.proofs.Reading.{word_of}
use Rattle.image.proofs.Receivers.{most_receiver, receiver_most}
use Rattle.image.proofs.Parting.{image_counted}
use Rattle.image.proofs.counted_length.Goals as goal

pub loop-r-init : goal.loop-r-init
unfolding body_length
loop-r-init c = omega (arith, sum_zero (receiver_bytes (view c.args.from.now.net.now)))

pub bounds-from-r : goal.bounds-from-r
bounds-from-r c = omega (arith, few c.args.from.now.net.now)

pub receiver_length-total-requires : goal.receiver_length-total-requires
receiver_length-total-requires c = let s = c.args.from.now in word_of s.net.now s.arcs.now _ s.words (omega arith)

pub overflow_add-total : goal.overflow_add-total
unfolding body_length
overflow_add-total c =
    let l = c.loop-r in
    let w = c.args.from.now.net.now in
    let sofar = sum_most (receiver_bytes (view w)) most_receiver l.r (receiver_most (view w)) in
    omega (arith, l.invariant, few w, sofar, c.receiver_length-total.ensures, receiver_most (view w) l.r)

pub loop-r-preserved : goal.loop-r-preserved
loop-r-preserved c =
    let l = c.loop-r in
    omega (arith, l.invariant, c.receiver_length-total.ensures, sum_next (receiver_bytes (view c.args.from.now.net.now)) l.r)

pub returns : goal.returns
returns c =
    let l = c.loop-r in
    let w = c.args.from.now.net.now in
    let n = c.nodes-r-end in
    let whole = image_counted (view w) n.result _ n.ensures refl (few w) in
    let e : l.r ≡ n.result = omega arith in
    omega (arith, l.invariant, whole, ap (sum (receiver_bytes (view w))) e)
