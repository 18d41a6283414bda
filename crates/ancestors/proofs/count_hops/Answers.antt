-- `ancestors::count_hops` meets its contract: hops are the listed nodes less one.
-- Assumes nothing.
use native.Mathlib.Omega.{arith}
use Rattle.ancestors.proofs.Laws.{hops_count}
use Rattle.ancestors.proofs.count_hops.Goals as goal

pub returns : goal.returns
returns c = omega (arith, hops_count 32 c.args.list c.ranges.list.fits, c.count_nodes.ensures)
