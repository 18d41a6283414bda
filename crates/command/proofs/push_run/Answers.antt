-- `command::push_run` meets its contract: how the run ended decides.
-- Assumes nothing.
use mathlib.Core.Path.{sym, ap, ◌∙◌}
use native.Mathlib.Omega.{arith}
use Rattle.network.specs.Network.{Net}
use Rattle.running.proofs.Finished.{refused, stopped, reached}
use Rattle.response.specs.Messages.{count_fault}
use Rattle.command.specs.Saying.{on_output}
use Rattle.command.proofs.Texts.{run_stops, run_writes, run_count, said_err}
use Rattle.command.proofs.push_run.Goals as goal

pub returns-in_err-run_into-clause-line : goal.returns-in_err-run_into-clause-line
returns-in_err-run_into-clause-line c =
    let s = c.args.input.now in
    said_err _ c.from_residual.result _ c.from_residual.ensures.1
    (run_stops c.args.base s _ (refused s _ _ c.in_err-run_into.ensures))

pub returns-in_err-finished-clause-line : goal.returns-in_err-finished-clause-line
returns-in_err-finished-clause-line c =
    let s = c.args.input.now in
    said_err _ c.from_residual-in_err-finished.result _ c.from_residual-in_err-finished.ensures.1
    (run_stops c.args.base s _ (stopped s _ _ c.in_ok-run_into.ensures _ c.in_err-finished.ensures))

pub push_messages-requires : goal.push_messages-requires
push_messages-requires c = record {
  room = rw c.requires.empty (omega arith);
  base_right = c.requires.base_right;
  count_right = ap (λ (x : Net). count_fault x.nodes) c.run_into.ensures.net ∙ run_count c.args.input.now (λ i. omega (arith, c.type_inv.input i));
}

pub returns-clause-output : goal.returns-clause-output
returns-clause-output c =
    let s = c.args.input.now in
    run_writes c.args.base s (reached s _ _ c.in_ok-run_into.ensures _ c.in_ok-finished.ensures)
    ∙ rw (← c.run_into.ensures.net) (ap on_output (sym (rw c.requires.empty at c.push_messages.ensures)))
