-- `ancestors::below` meets its contract: a mask leaves the bits below k.
-- Assumes nothing.
use Rattle.ancestors.proofs.Words.{code_below, all_below}
use Rattle.ancestors.proofs.below.Goals as goal

pub returns-then-k-ge32 : goal.returns-then-k-ge32
returns-then-k-ge32 c = all_below c.args.list c.args.k c.ranges.list.fits c.if-k-ge32.true

pub returns : goal.returns
returns c = code_below c.args.list c.args.k c.if-k-ge32.false
