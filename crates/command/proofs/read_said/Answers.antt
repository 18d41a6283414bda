-- `command::read_said` meets its contract: the number decides.
-- Assumes nothing.
use mathlib.Core.Path.{sym, ap, ◌∙◌}
use Rattle.command.specs.Saying.{on_output}
use Rattle.command.proofs.Texts.{read_stops, read_prints, said_err}
use Rattle.command.proofs.read_said.Goals as goal

pub returns-in_err-metrics-clause-line : goal.returns-in_err-metrics-clause-line
returns-in_err-metrics-clause-line c =
    said_err _ c.from_residual.result _ c.from_residual.ensures.1 (read_stops c.args.base c.args.n c.args.input.now _ c.in_err-metrics.ensures.number)

pub returns-clause-output : goal.returns-clause-output
returns-clause-output c =
    read_prints c.args.base c.args.n c.args.input.now c.in_ok-metrics.ensures.number (c.deref.ensures.0 ∙ c.in_ok-metrics.ensures.metrics)
    ∙ ap on_output (sym (rw c.new-said.ensures at c.push_metrics.ensures))
