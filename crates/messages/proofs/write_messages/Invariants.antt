-- `messages::write_messages` meets its contract. The loop's invariant: the messages passed stand at the front.
-- Assumes nothing.
use Rattle.filling.specs.Filling.{Wrote}
use Rattle.memory.specs.Layout.{view}
use Rattle.response.proofs.Sizes.{messages_before}
use Rattle.messages.specs.Inner.{row_metric_of}
use Rattle.messages.proofs.write_messages.Given as goal

abbrev pub invariant-loop-k : goal.invariant-loop-k
invariant-loop-k l = Wrote (messages_before l.given.nodes l.given.base (row_metric_of (view l.net)) l.k) l.fn.out l.out l.at
