-- `messages::read_message` meets its contract. The loop's invariant: no entry passed has a wrong field, and their metrics were added.
-- Assumes nothing.
use mathlib.Core.Path.{◌≡◌}
use mathlib.Core.List.{◌++◌}
use Prim.Native.Nat.{◌+◌}
use Rattle.arrayvec.specs.ArrayVec.{array_vec_len}
use Rattle.response.specs.Messages.{first_node}
use Rattle.response.specs.Reading.{message_metrics}
use Rattle.messages.proofs.Reading.{RightBefore}
use Rattle.messages.proofs.read_message.Given as goal

abbrev pub invariant-loop-i : goal.invariant-loop-i
invariant-loop-i l = record {
  right : RightBefore l.given.base (first_node l.k) l.part l.i;
  count : array_vec_len l.metrics ≡ first_node l.k + l.i;
  added : l.metrics.items ≡ l.fn.metrics.items ++ message_metrics l.i l.part;
}
