-- `rule::total` meets its contract.
-- Assumes nothing.
use native.Mathlib.Omega.{arith}
use Rattle.network.specs.Words.{cost_of}
use Rattle.rule.proofs.total.Goals as goal

pub returns : goal.returns
unfolding cost_of
returns c = omega arith
