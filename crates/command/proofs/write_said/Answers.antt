-- `command::write_said` meets its contract: the base, and then the length of the input.
-- Assumes nothing.
use native.Mathlib.Omega.{arith}
use mathlib.Core.Path.{sym, ◌∙◌}
use Rattle.text.specs.Text.{max_input}
use Rattle.command.specs.Saying.{refusal_text}
use Rattle.command.proofs.Texts.{write_refused, write_long, write_run, said_err}
use Rattle.command.proofs.write_said.Goals as goal

pub returns-then-base_refused-clause-line : goal.returns-then-base_refused-clause-line
unfolding refusal_text
returns-then-base_refused-clause-line c = write_refused c.args.base c.args.input.now (sym c.base_refused.ensures ∙ c.if-base_refused.true)

pub returns-then-input-gt-MAX_INPUT-clause-line : goal.returns-then-input-gt-MAX_INPUT-clause-line
unfolding refusal_text max_input
returns-then-input-gt-MAX_INPUT-clause-line c =
    write_long c.args.base c.args.input.now (sym c.base_refused.ensures ∙ c.if-base_refused.false) (omega arith)

pub returns-in_err-push_run-clause-line : goal.returns-in_err-push_run-clause-line
unfolding max_input
returns-in_err-push_run-clause-line c =
    said_err _ c.from_residual.result _ c.from_residual.ensures.1
    (rw (write_run c.args.base c.args.input.now (sym c.base_refused.ensures ∙ c.if-base_refused.false) (omega arith)) c.in_err-push_run.ensures.line)

pub returns-clause-output : goal.returns-clause-output
unfolding max_input
returns-clause-output c =
    rw (write_run c.args.base c.args.input.now (sym c.base_refused.ensures ∙ c.if-base_refused.false) (omega arith)) c.in_ok-push_run.ensures.output
