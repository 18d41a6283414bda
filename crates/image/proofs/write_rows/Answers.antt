-- `image::write_rows` meets its contract. The loop's invariant: the rows passed stand at the front.
-- Assumes nothing.
use native.Mathlib.Omega.{arith}
use Prim.Native.Nat.{◌+◌}
use mathlib.Core.Path.{◌≡◌, sym, ap}
use Rattle.memory.specs.Layout.{view}
use Rattle.records.specs.Image.{each}
use Rattle.records.proofs.Each.{each_zero}
use Rattle.filling.proofs.Parts.{wrote_none, wrote_as}
use Rattle.image.specs.Items.{used}
use Rattle.image.specs.Lines.{row_at}
use Rattle.image.proofs.Lengths.{next_room, next_ends, next_wrote}
use Rattle.image.proofs.write_rows.Goals as goal
use Rattle.image.proofs.write_rows.Goals.{in-Some, in_default}

pub loop-node-init : goal.loop-node-init
loop-node-init c = wrote_none c.args.out.now (each_zero (row_at (view c.args.net.now)) 0)

pub write_row-requires : goal.write_row-requires
write_row-requires c =
    let l = c.loop-node in
    let x = view c.args.net.now in
    next_room (row_at x) l.node x.nodes (omega (arith, c.loop-node-test.true, c.nodes-node-end.ensures)) l.invariant c.requires

pub overflow_add-at : goal.overflow_add-at
overflow_add-at c =
    let l = c.loop-node in
    let x = view c.args.net.now in
    let ends = next_ends (row_at x) l.node x.nodes (omega (arith, c.loop-node-test.true, c.nodes-node-end.ensures)) l.invariant c.requires c.write_row.ensures in
    omega (arith, ends, ap used c.in-Some.is, c.well_formed)

pub loop-node-preserved : goal.loop-node-preserved
loop-node-preserved c =
    let l = c.loop-node in
    let x = view c.args.net.now in
    let at : c.match-write_row.at ≡ l.at + used c.write_row.result = elim c.match-write_row.branch [
      | in-Some w ↦ omega (arith, ap used w.in-Some.is)
      | in_default w ↦ omega (arith, ap used w.in_default.is)
    ] in
    rw at (next_wrote (row_at x) l.node x.nodes (omega (arith, c.loop-node-test.true, c.nodes-node-end.ensures)) l.invariant c.requires c.write_row.ensures)

pub returns : goal.returns
returns c =
    let l = c.loop-node in
    let x = view c.args.net.now in
    let e : l.node ≡ x.nodes = omega (arith, c.loop-node-test.false, c.nodes-node-end.ensures, l.auto.node-end) in
    wrote_as (ap (each (row_at x) 0) (sym e)) l.invariant
