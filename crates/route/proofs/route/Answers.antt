-- `route::route` meets its contract: each refusal in its order, and the route copied.
-- Assumes nothing.
use Rattle.std.proofs.lemmas.Result.{err_from_is_err_and}
use Rattle.route.proofs.Answering.{answer_start, answer_broken, answer_room, answer_route}
use Rattle.route.proofs.route.Goals as goal

pub returns-in_err-check_start : goal.returns-in_err-check_start
returns-in_err-check_start c =
    let p = err_from_is_err_and c.from_residual.result c.from_residual.ensures.1 in
    rw (p.1, p.2) (answer_start _ _ c.args.out.now _ c.in_err-check_start.ensures)

pub returns-in_default : goal.returns-in_default
returns-in_default c = answer_broken _ _ c.args.out.now c.in_ok-check_start.ensures c.in_default.ensures

pub returns-then-out-nodes : goal.returns-then-out-nodes
returns-then-out-nodes c = answer_room _ _ c.args.out.now c.in_ok-check_start.ensures _ c.in-Some.ensures c.if-out-nodes.true

pub returns : goal.returns
returns c = answer_route _ _ c.args.out.now c.in_ok-check_start.ensures _ c.in-Some.ensures c.if-out-nodes.false _ _ c.copy.ensures
