-- `messages::put_message` meets its contract. The loop's invariant: the header and the entries of the nodes passed stand at the front.
-- Assumes nothing.
use Prim.Native.Nat.{◌+◌, ◌*◌}
use mathlib.Core.Path.{◌≡◌}
use Rattle.filling.specs.Filling.{Wrote}
use Rattle.memory.specs.Layout.{view}
use Rattle.response.specs.Messages.{header_length, entry_length, message, first_node}
use Rattle.messages.specs.Inner.{row_metric_of}
use Rattle.messages.proofs.put_message.Given as goal

abbrev pub invariant-loop-i : goal.invariant-loop-i
invariant-loop-i l = record {
  place : l.at ≡ header_length + l.i * entry_length;
  wrote : Wrote (message l.given.base (row_metric_of (view l.net)) (first_node l.k) l.i) l.fn.out l.out l.at;
}
