-- `table::push_lines` meets its contract: a line more each time.
-- Assumes nothing.
use native.Mathlib.Omega.{arith}
use mathlib.Core.List.{append_assoc, append-nil}
use Rattle.memory.specs.Layout.{view}
use Rattle.memory.proofs.Laws.{few}
use Rattle.records.proofs.Each.{each_zero, each_next}
use Rattle.table.specs.Text.{line}
use Rattle.table.proofs.push_lines.Goals as goal

pub loop-node-init : goal.loop-node-init
loop-node-init c = (rw (each_zero (line (view c.args.net.now)) 0, append-nil c.args.text.now.items), omega arith)

pub push_line-requires-clause-room : goal.push_line-requires-clause-room
push_line-requires-clause-room c =
    omega (arith, c.loop-node.invariant.1, c.loop-node-test.true, c.nodes-node-end.ensures, few c.args.net.now)

pub loop-node-preserved : goal.loop-node-preserved
loop-node-preserved c =
    let l = c.loop-node in
    let f = line (view c.args.net.now) in
    (rw (c.push_line.ensures.items, l.invariant.0, each_next f l.node, append_assoc), omega (arith, c.push_line.ensures.most, l.invariant.1))

pub returns-clause-most : goal.returns-clause-most
returns-clause-most c =
    omega (arith, c.loop-node.invariant.1, c.loop-node.auto.node-end, c.nodes-node-end.ensures, few c.args.net.now)
