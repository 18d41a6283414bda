-- `memory::place_report` meets its contract: a refusal leaves the words.
-- Assumes nothing.
use Rattle.network.specs.Placing.{place_report_of}
use Rattle.memory.proofs.Placing.{leaves_err}
use Rattle.memory.proofs.place_report.Goals as goal

pub returns-in_err-check_report : goal.returns-in_err-check_report
unfolding place_report_of
returns-in_err-check_report c = leaves_err _ _ _ _ c.args.net.now c.from_residual.ensures.1 c.in_err-check_report.ensures
