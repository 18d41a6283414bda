-- `image::receiver_length` meets its contract: its row, and what is counted of arcs and reports.
-- Assumes nothing.
use native.Mathlib.Omega.{arith}
use mathlib.Core.Path.{ap, ◌∙◌}
use Prim.Native.Nat.{◌*◌}
use Rattle.ancestors.specs.Ancestors.{has, count}
use Rattle.ancestors.proofs.Counting.{count_le}
use Rattle.network.specs.Faults.{max_nodes}
use Rattle.memory.specs.Layout.{view}
use Rattle.records.specs.Records.{body_length, record_length}
use Rattle.image.specs.Measured.{holds}
use Rattle.image.proofs.Lengths.{row_at_most}
use Rattle.image.proofs.Receivers.{receiver_counts}
use Rattle.image.proofs.receiver_length.Goals as goal

pub overflow_add-result : goal.overflow_add-result
unfolding body_length
overflow_add-result c =
    let a = c.args in
    omega (arith, c.row_length.ensures, row_at_most (view a.net.now) a.r, c.word_length.ensures, count_le (has a.arcs) max_nodes)

pub overflow_add-result-2 : goal.overflow_add-result-2
unfolding body_length
overflow_add-result-2 c =
    let a = c.args in
    omega (arith, c.row_length.ensures, row_at_most (view a.net.now) a.r, c.word_length.ensures, count_le (has a.arcs) max_nodes)

pub returns : goal.returns
unfolding body_length
returns c =
    let a = c.args in
    let w = a.net.now in
    let arcs = c.word_length.ensures ∙ ap (λ l. count (has l) max_nodes * record_length 2) c.requires in
    let reports = c.held_count.ensures ∙ ap (λ l. count (holds w l a.r) max_nodes) c.requires in
    omega (arith, c.row_length.ensures, arcs, reports, receiver_counts w a.r)
