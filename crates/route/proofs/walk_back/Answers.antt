-- `route::walk_back` meets its contract. The loop's invariant: the walk from the present node on, with room for the nodes left, is the whole walk.
-- Assumes nothing.
use native.Mathlib.Omega.{arith}
use mathlib.Core.Path.{sym, ◌∙◌}
use lib.ListN.{length-set}
use Rattle.route.proofs.Answering.{start_walk, spent_walk, origin_small, relay_small, step_again, step_refused, step_none, step_arrived, step_onward}
use Rattle.route.proofs.walk_back.Goals as goal

pub loop-left-init : goal.loop-left-init
loop-left-init c = (start_walk _ _ c.args.bytes.now c.told-bytes, c.told-bytes)

pub returns-then-listed : goal.returns-then-listed
returns-then-listed c =
    let l = c.loop-left in
    step_again _ _ l.met l.left l.bytes _ l.invariant.0 (omega arith) (sym c.listed.ensures ∙ c.if-listed.true)

pub returns-in_default : goal.returns-in_default
returns-in_default c =
    let l = c.loop-left in
    step_refused _ _ l.met l.left l.bytes _ l.invariant.0 (omega arith) (sym c.listed.ensures ∙ c.if-listed.false) _ c.in_default.ensures

pub returns-in-NoRoute : goal.returns-in-NoRoute
returns-in-NoRoute c =
    let l = c.loop-left in
    step_none _ _ l.met l.left l.bytes _ l.invariant.0 (omega arith) (sym c.listed.ensures ∙ c.if-listed.false) _ c.in-Ok.ensures c.in-NoRoute.is

pub overflow_cast-bytes : goal.overflow_cast-bytes
overflow_cast-bytes c = omega (arith, origin_small c.args.net.now c.loop-left.y _ c.in-Ok.ensures c.in-Origin.is)

pub returns-in-Origin : goal.returns-in-Origin
returns-in-Origin c =
    let l = c.loop-left in
    step_arrived _ _ l.met l.left l.bytes _ l.invariant.0 (omega arith) (sym c.listed.ensures ∙ c.if-listed.false) _ c.in-Ok.ensures
    l.invariant.1 l.auto.left c.in-Origin.is

pub overflow_cast-bytes-in-Relay : goal.overflow_cast-bytes-in-Relay
overflow_cast-bytes-in-Relay c = omega (arith, relay_small c.args.net.now c.loop-left.y _ c.in-Ok.ensures c.in-Relay.is)

pub loop-left-preserved : goal.loop-left-preserved
loop-left-preserved c =
    let l = c.loop-left in (
      step_onward _ _ l.met l.left l.bytes _ l.invariant.0 (omega arith) (sym c.listed.ensures ∙ c.if-listed.false) _ c.in-Ok.ensures
          l.invariant.1 l.auto.left c.in-Relay.is c.joined-met.ensures,
      simp length-set l.invariant.1,
    )

pub returns : goal.returns
returns c = let l = c.loop-left in spent_walk _ l.y l.met l.left _ _ l.invariant.0 (omega arith)
