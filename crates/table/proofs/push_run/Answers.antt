-- `table::push_run` meets its contract: how the run ended decides.
-- Assumes nothing.
use mathlib.Core.List.{append_assoc}
use Rattle.table.proofs.Texts.{text_refused, text_ended, text_stopped}
use Rattle.table.proofs.push_run.Goals as goal

pub returns-in-Some : goal.returns-in-Some
returns-in-Some c =
    let run = c.run_into in
    rw (
      text_stopped c.args.input.now c.requires.input_len_bound run.result _ run.ensures c.in-Ok.is c.in-Some.is,
      c.push_stop.ensures,
      c.push_table.ensures.items,
      append_assoc,
    )

pub returns-in_default : goal.returns-in_default
returns-in_default c =
    let run = c.run_into in
    rw (text_ended c.args.input.now c.requires.input_len_bound run.result _ run.ensures c.in-Ok.is c.in_default.is) c.push_table.ensures.items

pub returns-in-Err : goal.returns-in-Err
returns-in-Err c =
    let run = c.run_into in
    rw (text_refused c.args.input.now c.requires.input_len_bound run.result _ run.ensures c.in-Err.is) c.push_stop-in-Err.ensures
