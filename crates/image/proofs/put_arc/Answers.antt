-- `image::put_arc` meets its contract: five bytes, of which two and two are numbers.
-- Assumes nothing.
use Rattle.image.proofs.Stores.{stored_arc}
use Rattle.image.proofs.put_arc.Goals as goal

pub returns : goal.returns
returns c = rw (c.put16-2.ensures, c.put16.ensures, c.from.ensures) (stored_arc _ _ _ c.args.out.now c.requires)
