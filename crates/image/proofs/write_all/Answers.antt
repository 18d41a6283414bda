-- `image::write_all` meets its contract: the first record, and what follows it.
-- Assumes nothing.
use native.Mathlib.Omega.{arith}
use mathlib.Core.Path.{refl}
use lib.ListN.{length}
use Rattle.memory.specs.Layout.{view}
use Rattle.memory.proofs.Laws.{few}
use Rattle.filling.proofs.Parts.{wrote_as, wrote_then, room}
use Rattle.image.specs.Lines.{rest_of}
use Rattle.image.proofs.Parting.{image_parts, image_long, header_end}
use Rattle.image.proofs.write_all.Goals as goal

pub put_header-rest-requires : goal.put_header-rest-requires
put_header-rest-requires c =
    let w = c.args.from.now.net.now in
    omega (arith, image_long (view w) c.nodes.result _ c.nodes.ensures refl (few w), c.requires)

pub write_rest-requires : goal.write_rest-requires
write_rest-requires c =
    let w = c.args.from.now.net.now in
    let h = c.put_header-rest.ensures in
    room (length (rest_of (view w))) h (omega (arith, header_end _ _ h, image_long (view w) c.nodes.result _ c.nodes.ensures refl (few w), c.requires))

pub returns : goal.returns
returns c =
    let w = c.args.from.now.net.now in
    wrote_as (image_parts (view w) c.nodes.result c.origin.result c.nodes.ensures c.origin.ensures (few w)) (wrote_then c.put_header-rest.ensures c.write_rest.ensures)
