-- `messages::put_message` meets its contract: the header, then the entries.
-- Assumes nothing.
use mathlib.Core.Path.{◌∙◌}
use Prim.Native.Nat.{◌+◌}
use native.Mathlib.Omega.{arith}
use Rattle.response.proofs.Sizes.{message_size}
use Rattle.messages.proofs.Writing.{header_put, entry_put}
use Rattle.messages.proofs.put_message.Goals as goal

pub loop-i-init : goal.loop-i-init
loop-i-init c =
    let w = header_put _ _ _ c.args.out.now (omega arith) c.copy-at.ensures in record { place = w.used ∙ message_size _ _ _ 0; wrote = w }

pub loop-i-preserved : goal.loop-i-preserved
loop-i-preserved c =
    let w = entry_put _ _ _ c.args.out.now _ c.loop-i.invariant.wrote (omega arith) c.address.ensures c.row_metric.ensures c.put_entry-at.ensures in
    record { place = w.used ∙ message_size _ _ _ (c.loop-i.i + 1); wrote = w }
