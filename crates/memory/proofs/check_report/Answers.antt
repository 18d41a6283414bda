-- `memory::check_report` meets its contract: a pair without a cost is refused as `arc_cost` says.
-- Assumes nothing.
use native.Mathlib.Omega.{arith}
use Rattle.network.specs.Placing.{place_report_number}
use Rattle.memory.specs.Answers.{read_cost, cost_means}
use Rattle.network.proofs.Answered.{answered_err}
use Rattle.memory.proofs.check_report.Goals as goal

pub returns-in_err-cost : goal.returns-in_err-cost
unfolding place_report_number read_cost cost_means
returns-in_err-cost c = grind (arith, answered_err _ _ c.from_residual.ensures.1, c.in_err-cost.ensures)
