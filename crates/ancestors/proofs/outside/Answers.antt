-- `ancestors::outside` meets its contract: the nodes that both lists have are not all of the first.
-- Assumes nothing.
use mathlib.Core.Path.{refl}
use Rattle.ancestors.specs.Ancestors.{inside}
use Rattle.ancestors.proofs.outside.Goals as goal

pub returns : goal.returns
unfolding inside
returns c = refl
