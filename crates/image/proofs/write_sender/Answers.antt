-- `image::write_sender` meets its contract. The loop's invariant: arcs and reports of the receivers passed stand at the fronts.
-- Assumes nothing.
use native.Mathlib.Omega.{arith}
use Prim.Native.Nat.{◌+◌}
use mathlib.Core.Path.{◌≡◌, ap}
use Rattle.memory.specs.Layout.{view}
use Rattle.records.proofs.Each.{each_zero}
use Rattle.filling.proofs.Parts.{wrote_none}
use Rattle.image.specs.Items.{used}
use Rattle.image.specs.Lines.{arc_at, report_at}
use Rattle.image.proofs.Lengths.{next_room, next_wrote}
use Rattle.image.proofs.write_sender.Goals as goal
use Rattle.image.proofs.write_sender.Goals.{in-Some, in_default, in-Some-write_report, in_default-write_report}

pub loop-receiver-init : goal.loop-receiver-init
loop-receiver-init c =
    let x = view c.args.from.now.net.now in
    record {
      arcs = wrote_none c.args.arcs.now (each_zero (arc_at x c.args.sender) 0);
      reports = wrote_none c.args.reports.now (each_zero (report_at x c.args.sender) 0);
    }

pub write_arc-requires-clause-room : goal.write_arc-requires-clause-room
write_arc-requires-clause-room c =
    let l = c.loop-receiver in
    next_room (arc_at (view c.args.from.now.net.now) c.args.sender) l.receiver _ c.loop-receiver-test.true l.invariant.arcs c.requires.arcs_room

pub write_report-requires-clause-room : goal.write_report-requires-clause-room
write_report-requires-clause-room c =
    let l = c.loop-receiver in
    next_room (report_at (view c.args.from.now.net.now) c.args.sender) l.receiver _ c.loop-receiver-test.true l.invariant.reports c.requires.reports_room

pub loop-receiver-preserved : goal.loop-receiver-preserved
loop-receiver-preserved c =
    let l = c.loop-receiver in
    let x = view c.args.from.now.net.now in
    let i : c.match-write_arc.i ≡ l.i + used c.write_arc.result = elim c.match-write_arc.branch [
      | in-Some w ↦ omega (arith, ap used w.in-Some.is)
      | in_default w ↦ omega (arith, ap used w.in_default.is)
    ] in
    let k : c.match-write_report.k ≡ l.k + used c.write_report.result = elim c.match-write_report.branch [
      | in-Some-write_report w ↦ omega (arith, ap used w.in-Some-write_report.is)
      | in_default-write_report w ↦ omega (arith, ap used w.in_default-write_report.is)
    ] in
    record {
      arcs = rw i (next_wrote (arc_at x c.args.sender) l.receiver _ c.loop-receiver-test.true l.invariant.arcs c.requires.arcs_room c.write_arc.ensures);
      reports = rw k (next_wrote (report_at x c.args.sender) l.receiver _ c.loop-receiver-test.true l.invariant.reports c.requires.reports_room c.write_report.ensures);
    }
