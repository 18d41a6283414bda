-- `image::fits` meets its contract: in an output as long as the largest image of n nodes every image of n nodes has room.
-- Assumes nothing.
use borrow.Author.Tests.{le-leb}
use native.Mathlib.Omega.{arith}
use mathlib.Core.Path.{sym}
use Rattle.memory.specs.Layout.{view}
use Rattle.memory.proofs.Laws.{few, read_origin}
use Rattle.image.proofs.Parting.{image_by_nodes}
use Rattle.image.proofs.fits.Goals as goal

pub most_bytes-requires-clause-n_le_max_nodes : goal.most_bytes-requires-clause-n_le_max_nodes
most_bytes-requires-clause-n_le_max_nodes c = omega (arith, few c.args.from.now.net.now)

pub returns-then-most_bytes-room : goal.returns-then-most_bytes-room
returns-then-most_bytes-room c =
    let a = c.args in
    let w = a.from.now.net.now in
    let o = c.origin in
    let most = image_by_nodes (view w) c.nodes-n.result o.result c.nodes-n.ensures o.ensures (few w) _ c.if-origin-n.true (read_origin w o.result o.ensures) in
    sym (le-leb _ a.room (omega (arith, most, c.most_bytes.ensures, c.if-most_bytes-room.true)))
