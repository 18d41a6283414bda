-- `ancestors::listed` meets its contract: the bit is read by a shift, and a list has no bit above 31.
-- Assumes nothing.
use mathlib.Core.Path.{sym}
use Rattle.ancestors.proofs.Laws.{has_beyond}
use Rattle.ancestors.proofs.Words.{code_has}
use Rattle.ancestors.proofs.listed.Goals as goal

pub returns-then-node-ge32 : goal.returns-then-node-ge32
returns-then-node-ge32 c = sym (has_beyond 32 c.args.list c.args.node c.ranges.list.fits c.if-node-ge32.true)

pub returns : goal.returns
returns c = code_has c.args.list c.args.node
