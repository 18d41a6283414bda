-- `command::line_of` meets its contract: each case has its line.
-- Assumes nothing.
use mathlib.Core.Path.{ap}
use Rattle.text.specs.Text.{too_long}
use Rattle.command.specs.Saying.{on_error, refusal_text, usage_text, usage_line}
use Rattle.command.proofs.line_of.Goals as goal

pub returns-in-Usage : goal.returns-in-Usage
unfolding refusal_text usage_text usage_line
returns-in-Usage c = rw c.in-Usage.is (ap on_error c.line.ensures)

pub returns-in-TooLong : goal.returns-in-TooLong
unfolding refusal_text too_long
returns-in-TooLong c = rw c.in-TooLong.is (ap on_error c.line-in-TooLong.ensures)

pub returns-in-Refused : goal.returns-in-Refused
unfolding refusal_text
returns-in-Refused c = rw c.in-Refused.is (ap on_error c.refused.ensures)

pub returns-in-Stopped : goal.returns-in-Stopped
unfolding refusal_text
returns-in-Stopped c = rw c.in-Stopped.is (ap on_error c.stopped.ensures)
