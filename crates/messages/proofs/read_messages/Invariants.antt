-- `messages::read_messages` meets its contract. The loop's invariant: no message passed has a wrong field, and their metrics are read.
-- Assumes nothing.
use mathlib.Core.Path.{◌≡◌}
use Rattle.messages.proofs.Reading.{MessagesRight, metrics_before}
use Rattle.messages.proofs.read_messages.Given as goal

abbrev pub invariant-loop-k : goal.invariant-loop-k
invariant-loop-k l = record {
  right : MessagesRight l.given.base l.given.nodes l.bytes l.k;
  read : l.metrics.items ≡ metrics_before l.given.nodes l.bytes l.k;
}
