-- `opening::read_records` meets its contract.
-- Assumes nothing.
use mathlib.Core.Path.{ap, ◌∙◌}
use Prim.Native.Nat.{◌+◌}
use native.Mathlib.Omega.{arith}
use Rattle.std.proofs.Common.{None, Ok, Err}
use Rattle.records.specs.Opening.{accepted_opening}
use Rattle.opening.proofs.Loop.{by_answer, at_next}
use Rattle.opening.proofs.read_records.Goals as goal

pub returns-in-Err : goal.returns-in-Err
returns-in-Err c = (by_answer c.loop-fault.invariant c.image_record-record.ensures c.place_event.ensures (Err _) c.in-Err.is).2

pub returns-in-Ok-None : goal.returns-in-Ok-None
returns-in-Ok-None c =
    let e = c.in-Ok-None.is ∙ ap Ok c.in-Ok-None.field-0-is in
    ap (λ x. accepted_opening x (c.loop-fault.at + 1)) (c.place_event.ensures.ended e)
    ∙ (by_answer c.loop-fault.invariant c.image_record-record.ensures c.place_event.ensures (Ok None) e).2

pub overflow_add-at : goal.overflow_add-at
overflow_add-at c =
    let n = at_next c.loop-fault.invariant c.image_record-record.ensures c.place_event.ensures (c.in-Ok-Some.is ∙ ap Ok c.in-Ok-Some.field-0-is) in
    omega (arith, n.1.within)

pub loop-fault-smaller : goal.loop-fault-smaller
loop-fault-smaller c =
    let n = at_next c.loop-fault.invariant c.image_record-record.ensures c.place_event.ensures (c.in-Ok-Some.is ∙ ap Ok c.in-Ok-Some.field-0-is) in
    omega (arith, n.0, n.1.within)

pub loop-fault-preserved : goal.loop-fault-preserved
loop-fault-preserved c = (at_next c.loop-fault.invariant c.image_record-record.ensures c.place_event.ensures (c.in-Ok-Some.is ∙ ap Ok c.in-Ok-Some.field-0-is)).1
