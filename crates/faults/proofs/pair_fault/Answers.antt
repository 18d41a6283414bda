-- `faults::pair_fault` meets its contract, test by test.
-- Assumes nothing.
use Rattle.std.proofs.Common.{arith}
use Rattle.std.proofs.lemmas.Bool.Decides.{nat_tests}
use Rattle.network.specs.Faults.{pair_fault_of}
use Rattle.faults.proofs.pair_fault.Goals as goal

pub returns-then-n-max : goal.returns-then-n-max
unfolding pair_fault_of
returns-then-n-max c = grind (arith, nat_tests)

pub returns : goal.returns
unfolding pair_fault_of
returns c = grind (arith, nat_tests)
