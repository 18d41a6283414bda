-- `command::push_metrics` meets its contract: a line more each time.
-- Assumes nothing.
use native.Mathlib.Omega.{arith}
use mathlib.Core.Path.{ap, ◌∙◌}
use mathlib.Core.List.{List, ◌++◌, append_assoc, append-nil}
use Prim.Native.Nat.{ℕ}
use lib.ListN.{get_or}
use Rattle.records.proofs.Each.{each_zero, each_next}
use Rattle.command.specs.Saying.{metric_line, node_lines}
use Rattle.command.proofs.push_metrics.Goals as goal

pub loop-node-init : goal.loop-node-init
unfolding node_lines
loop-node-init c =
    (rw (each_zero (λ y. metric_line y (get_or c.args.metrics.now y 0)) 0, append-nil c.args.said.now.items), omega arith)

pub push_metric-requires : goal.push_metric-requires
push_metric-requires c = omega (arith, c.loop-node.invariant.1, c.loop-node-test.true, c.requires.few, c.requires.room)

pub loop-node-preserved : goal.loop-node-preserved
unfolding node_lines
loop-node-preserved c =
    let l = c.loop-node in
    let f : ℕ → List ℕ = λ y. metric_line y (get_or c.args.metrics.now y 0) in
    (rw (c.push_metric.ensures.items, l.invariant.0, each_next f l.node, append_assoc), omega (arith, c.push_metric.ensures.most, l.invariant.1))

pub returns : goal.returns
returns c =
    let l = c.loop-node in
    l.invariant.0 ∙ ap (λ k. c.args.said.now.items ++ node_lines c.args.metrics.now k) (omega (arith, l.auto.node-end, c.loop-node-test.false))
