-- `image::put_row` meets its contract: eleven bytes, of which eight are numbers.
-- Assumes nothing.
use Rattle.image.proofs.Stores.{stored_row}
use Rattle.image.proofs.put_row.Goals as goal

pub returns : goal.returns
returns c = rw (c.put32-2.ensures, c.put32.ensures) (stored_row _ _ _ _ c.args.out.now c.requires)
