-- `routing::hear_fours` meets its contract. The loops' invariants: the marks of the senders passed are heard.
-- Assumes nothing.
use native.Mathlib.Omega.{arith}
use Prim.Native.Nat.{◌+◌}
use Rattle.memory.proofs.Laws.{few}
use Rattle.routing.proofs.Hearing.{row_next, row_done}
use Rattle.routing.proofs.hear_fours.Goals as goal

pub loop-k-preserved : goal.loop-k-preserved
loop-k-preserved c =
    let a = c.args in
    let i = c.loop-k.invariant in
    record {
      heard = row_next _ _ _ a.receiver.index a.word (c.loop-s.s + c.loop-k.k) _ _ c.listed-told.ensures (omega arith) i.heard c.hear_arc.ensures;
      nodes = i.nodes;
      fours = i.fours;
      below = i.below;
    }

pub returns : goal.returns
returns c =
    let a = c.args in
    row_done a.net.now _ a.receiver.index a.word c.loop-s.s (omega arith) (omega arith) c.loop-s.invariant.heard

pub returns-2 : goal.returns-2
returns-2 c =
    let a = c.args in
    row_done a.net.now _ a.receiver.index a.word (c.loop-s.s + c.loop-k.k) (omega arith) (omega (arith, few a.net.now)) c.loop-k.invariant.heard
