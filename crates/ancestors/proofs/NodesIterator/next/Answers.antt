-- `ancestors::Nodes` steps as its contract says: the lowest node is answered and taken out, and fewer nodes are left.
-- Assumes nothing.
use native.Mathlib.Omega.{arith}
use Rattle.ancestors.proofs.Walk.{no_step, step_lowest, fewer_left}
use Rattle.ancestors.proofs.NodesIterator.next.Goals as goal

pub returns-then-self-eq0-clause-steps : goal.returns-then-self-eq0-clause-steps
returns-then-self-eq0-clause-steps c = no_step _ c.if-self-eq0.true

pub returns-clause-steps : goal.returns-clause-steps
returns-clause-steps c = step_lowest _ (omega arith) c.if-self-eq0.false _ c.lowest-node.ensures

pub returns-clause-goes : goal.returns-clause-goes
returns-clause-goes c =
    record {
      on = λ finite. (tt, tt, fewer_left _ (omega arith) c.if-self-eq0.false);
      keeps = tt;
      rests = λ finite. tt;
    }
