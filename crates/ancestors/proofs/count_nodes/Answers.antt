-- `ancestors::count_nodes` meets its contract: count-ones is the number of listed nodes.
-- Assumes nothing.
use Rattle.ancestors.proofs.Laws.{ones_count}
use Rattle.ancestors.proofs.count_nodes.Goals as goal

pub returns : goal.returns
returns c = ones_count 32 c.args.list c.ranges.list.fits
