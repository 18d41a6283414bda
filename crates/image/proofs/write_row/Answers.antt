-- `image::write_row` meets its contract: the route decides.
-- Assumes nothing.
use mathlib.Core.Path.{sym}
use Rattle.image.specs.Items.{route_bytes}
use Rattle.filling.proofs.Parts.{wrote_none, wrote_as, room_as}
use Rattle.image.proofs.Lengths.{row_size}
use Rattle.image.proofs.write_row.Goals as goal

pub returns-in-None : goal.returns-in-None
unfolding route_bytes
returns-in-None c = wrote_none c.args.out.now (sym c.in-None.ensures)

pub put_row-requires : goal.put_row-requires
unfolding route_bytes
put_row-requires c = room_as (sym c.in-Some.ensures) (row_size _ _ _ _) c.requires

pub returns-in-Some : goal.returns-in-Some
unfolding route_bytes
returns-in-Some c = wrote_as (sym c.in-Some.ensures) c.put_row.ensures
