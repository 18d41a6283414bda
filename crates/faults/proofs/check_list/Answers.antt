-- `faults::check_list` meets its contract: a node that is none, or a list that is not its nodes below n and the node.
-- Assumes nothing.
use mathlib.Core.Path.{◌≡◌, sym, ◌∙◌}
use mathlib.Core.Bool.{true}
use mathlib.Core.Logic.{inl, inr}
use Rattle.network.specs.Faults.{list_fault_of}
use Rattle.faults.proofs.Lists.{whole_is, none_node, other_list, this_list}
use Rattle.faults.proofs.check_list.Goals as goal
use Rattle.faults.proofs.check_list.Goals.{then-n-node-via-then-n-node, then-n-node-via-else-n-node+then-node-ge-MAX_NODES}

pub returns-then-n-node : goal.returns-then-n-node
returns-then-n-node c =
    let a = c.args in
    let far : list_fault_of a.n a.node a.list ≡ true =
    elim c.then-n-node.branch [
      | then-n-node-via-then-n-node w ↦ none_node a.n a.node a.list c.ranges.list.fits (inl w.if-n-node.true)
      | then-n-node-via-else-n-node+then-node-ge-MAX_NODES w ↦ none_node a.n a.node a.list c.ranges.list.fits (inr w.if-node-ge-MAX_NODES.true)
    ] in
    rw far

pub returns-then-joined-list : goal.returns-then-joined-list
returns-then-joined-list c =
    let a = c.args in
    let small = c.if-node-ge-MAX_NODES.false in
    let joined = whole_is a.n a.node a.list small c.below.ensures c.left_out-others.ensures c.joined.ensures in
    rw (this_list a.n a.node a.list c.ranges.list.fits c.if-n-node.false small (sym joined ∙ c.if-joined-list.true))

pub returns : goal.returns
returns c =
    let a = c.args in
    let small = c.if-node-ge-MAX_NODES.false in
    let joined = whole_is a.n a.node a.list small c.below.ensures c.left_out-others.ensures c.joined.ensures in
    rw (other_list a.n a.node a.list c.ranges.list.fits c.if-n-node.false small (λ e. c.if-joined-list.false (joined ∙ e)))
