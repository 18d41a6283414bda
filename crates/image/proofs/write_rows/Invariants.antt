-- `image::write_rows` meets its contract. The loop's invariant: the rows passed stand at the front.
-- Assumes nothing.
use Rattle.memory.specs.Layout.{view}
use Rattle.records.specs.Image.{each}
use Rattle.filling.specs.Filling.{Wrote}
use Rattle.image.specs.Lines.{row_at}
use Rattle.image.proofs.write_rows.Given as goal

abbrev pub invariant-loop-node : goal.invariant-loop-node
invariant-loop-node l = Wrote (each (row_at (view l.net)) 0 l.node) l.initial.out l.out l.at
