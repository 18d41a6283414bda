-- `reading::bodied` meets its contract: a whole body is the part that `read` gets.
-- Assumes nothing.
use mathlib.Core.Path.{refl}
use Rattle.std.proofs.lemmas.Fn.{gave_at}
use Rattle.reading.proofs.ByKind.{whole}
use Rattle.reading.proofs.bodied.Goals as goal

pub returns : goal.returns
returns g c k n reads = whole c.args.input.now c.args.at k c.args.size n c.if-input-start.false _ (reads _ _ (gave_at g.F.FnOnce c.read.ensures refl))
