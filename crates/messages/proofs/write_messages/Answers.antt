-- `messages::write_messages` meets its contract: what is given, then the room.
-- Assumes nothing.
use native.Mathlib.Omega.{arith}
use mathlib.Core.Path.{ap, ◌∙◌}
use Prim.Native.Nat.{ℕ}
use Rattle.std.proofs.lemmas.Result.{err_from_is_err_and}
use Rattle.memory.specs.Layout.{view}
use Rattle.response.specs.Messages.{given_then}
use Rattle.response.proofs.Answering.{write_given}
use Rattle.messages.proofs.Writing.{before_none, before_room, before_put, too_short, all_written}
use Rattle.messages.proofs.write_messages.Goals as goal

pub returns-in_err-given : goal.returns-in_err-given
returns-in_err-given c =
    let p = err_from_is_err_and c.from_residual.result c.from_residual.ensures.1 in
    rw (p.1, p.2) (write_given c.args.base (view c.args.net.now) c.args.out.now _ (c.in_err-given.ensures.number ∙ ap (λ (k : ℕ). given_then c.args.base k 0) c.nodes.ensures))

pub returns-then-out-messages_length : goal.returns-then-out-messages_length
returns-then-out-messages_length c =
    let g = c.in_ok-given.ensures in
    too_short c.args.base (view c.args.net.now) c.args.out.now g.given c.nodes.ensures g.number c.messages_length.ensures c.if-out-messages_length.true

pub loop-k-init : goal.loop-k-init
loop-k-init c = before_none _ _ _ _

pub put_message-at-requires-clause-room : goal.put_message-at-requires-clause-room
put_message-at-requires-clause-room c = before_room _ _ _ _ c.loop-k.k (omega (arith, c.message_count-k-end.ensures)) c.loop-k.invariant c.messages_length.ensures c.if-out-messages_length.false

pub loop-k-preserved : goal.loop-k-preserved
loop-k-preserved c = before_put _ _ _ _ c.loop-k.k c.loop-k.invariant c.put_message-at.ensures

pub returns : goal.returns
returns c =
    let g = c.in_ok-given.ensures in
    all_written c.args.base (view c.args.net.now) c.args.out.now g.given c.nodes.ensures g.number c.messages_length.ensures c.if-out-messages_length.false
    (omega (arith, c.message_count-k-end.ensures)) c.loop-k.invariant
