-- `firmware::run_image` meets its contract: the run stops in its image or at an event, or its image is written or does not fit.
-- Assumes nothing.
use Rattle.std.proofs.lemmas.Result.{err_from_is_err_and}
use Rattle.firmware.proofs.Calling.{answers_refused, answers_stopped, answers_image}
use Rattle.firmware.proofs.run_image.Goals as goal

pub returns-in_err-run_into : goal.returns-in_err-run_into
returns-in_err-run_into c =
    let p = err_from_is_err_and c.from_residual.result c.from_residual.ensures.1 in
    rw (p.1, p.2) (answers_refused _ _ c.if-run-gt-MAX_RUN.false _ _ c.in_err-run_into.ensures)

pub returns-in_err-finished : goal.returns-in_err-finished
returns-in_err-finished c =
    let r = c.from_residual-in_err-finished in
    let p = err_from_is_err_and r.result r.ensures.1 in
    rw (p.1, p.2) (answers_stopped _ _ c.if-run-gt-MAX_RUN.false _ _ c.in_ok-run_into.ensures _ c.in_err-finished.ensures)

pub returns : goal.returns
returns c =
    answers_image _ _ c.if-run-gt-MAX_RUN.false _ _ c.in_ok-run_into.ensures _ c.in_ok-finished.ensures _ _ c.write_image.ensures _ c.map_err.ensures.cases
