-- `route::check_start` meets its contract, case by case.
-- Assumes nothing.
use Rattle.std.proofs.lemmas.Result.{err_from_is_err_and}
use Rattle.route.proofs.Answering.{start_refused, start_none, start_routed}
use Rattle.route.proofs.check_start.Goals as goal

pub returns-in_err-row : goal.returns-in_err-row
returns-in_err-row c =
    let p = err_from_is_err_and c.from_residual.result c.from_residual.ensures.1 in
    rw (p.1, p.2) (start_refused _ _ _ c.in_err-row.ensures)

pub returns-in-NoRoute : goal.returns-in-NoRoute
returns-in-NoRoute c = start_none _ _ _ c.in_ok-row.ensures c.in-NoRoute.is

pub returns-in_default : goal.returns-in_default
returns-in_default c = start_routed _ _ _ c.in_ok-row.ensures c.in_default.not-NoRoute
