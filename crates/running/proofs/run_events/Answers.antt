-- `running::run_events` meets its contract. The loop's invariant: the rest of the events gives the whole.
-- Assumes nothing.
use mathlib.Core.Path.{refl}
use native.Mathlib.Omega.{arith}
use Rattle.running.proofs.Loop.{record_inside, at_end_lem, at_stop}
use Rattle.running.proofs.run_events.Goals as goal

pub returns-in-Err : goal.returns-in-Err
returns-in-Err c = at_stop _ c.loop-at.invariant (omega arith) c.event_record-record.ensures c.in-Err.ensures.does c.in-Err.fault refl

pub returns : goal.returns
returns c = at_end_lem _ c.loop-at.invariant (omega arith)

pub overflow_add-at : goal.overflow_add-at
overflow_add-at c =
    let r = c.event_record-record in
    omega (arith, record_inside c.args.input.now c.loop-at.at r.result (omega arith) r.ensures, c.well_formed.1.0.0)
