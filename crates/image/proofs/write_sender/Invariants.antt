-- `image::write_sender` meets its contract. The loop's invariant: arcs and reports of the receivers passed stand at the fronts.
-- Assumes nothing.
use Rattle.memory.specs.Layout.{view}
use Rattle.records.specs.Image.{each}
use Rattle.filling.specs.Filling.{Wrote}
use Rattle.image.specs.Lines.{arc_at, report_at}
use Rattle.image.proofs.write_sender.Given as goal

abbrev pub invariant-loop-receiver : goal.invariant-loop-receiver
invariant-loop-receiver l = record {
  arcs : Wrote (each (arc_at (view l.from.net.now) l.sender) 0 l.receiver) l.initial.arcs l.arcs l.i;
  reports : Wrote (each (report_at (view l.from.net.now) l.sender) 0 l.receiver) l.initial.reports l.reports l.k;
}
