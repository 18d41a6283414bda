-- `image::write_pairs` meets its contract. The loop's invariant: arcs and reports of the senders passed stand at the fronts.
-- Assumes nothing.
use Rattle.memory.specs.Layout.{view}
use Rattle.records.specs.Image.{each}
use Rattle.filling.specs.Filling.{Wrote}
use Rattle.image.specs.Lines.{arc_at, report_at}
use Rattle.image.proofs.write_pairs.Given as goal

abbrev pub invariant-loop-sender : goal.invariant-loop-sender
invariant-loop-sender l = record {
  arcs : Wrote (each (λ s. each (arc_at (view l.from.net.now) s) 0 (view l.from.net.now).nodes) 0 l.sender) l.initial.arcs l.arcs l.i;
  reports : Wrote (each (λ s. each (report_at (view l.from.net.now) s) 0 (view l.from.net.now).nodes) 0 l.sender) l.initial.reports l.reports l.k;
}
