-- `image::row_length` meets its contract: the route decides.
-- Assumes nothing.
use mathlib.Core.Path.{sym, ap, ◌∙◌}
use lib.ListN.{length}
use Rattle.image.specs.Items.{route_bytes}
use Rattle.records.proofs.Sizes.{row_long}
use Rattle.image.proofs.row_length.Goals as goal

pub returns-in-None : goal.returns-in-None
unfolding route_bytes
returns-in-None c = ap length c.in-None.ensures

pub returns-in-Some : goal.returns-in-Some
unfolding route_bytes
returns-in-Some c = sym (row_long _ _ _ _) ∙ ap length c.in-Some.ensures
