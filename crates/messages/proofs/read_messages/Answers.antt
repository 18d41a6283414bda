-- `messages::read_messages` meets its contract: what is given, then the length, then the fields.
-- Assumes nothing.
use native.Mathlib.Omega.{arith}
use mathlib.Core.Path.{refl, sym, ap, ◌∙◌}
use Prim.Native.Nat.{◌<◌}
use lib.ListN.{length}
use Rattle.network.specs.Answered.{fault_number}
use Rattle.response.specs.Messages.{message_count_of}
use Rattle.response.proofs.Sizes.{before_here}
use Rattle.network.proofs.Answered.{fault_some}
use Rattle.response.specs.Reading.{Reading}
use Rattle.response.proofs.Answering.{read_given}
use Rattle.records.proofs.Each.{each_zero}
use Rattle.network.proofs.Answered.{answered_err}
use Rattle.messages.proofs.Reading.{some_zero, metrics_size, messages_next, metrics_next, wrong_size, wrong_message, number_read, metrics_read}
use Rattle.messages.proofs.read_messages.Goals as goal

pub returns-in_err-given-clause-number : goal.returns-in_err-given-clause-number
returns-in_err-given-clause-number c =
    let f = c.in_err-given.field-0.0 in
    answered_err c.from_residual.result f c.from_residual.ensures.1 ∙
    sym (ap (λ (o : Reading). o.number) (read_given c.args.base c.args.n c.args.bytes.now _ c.in_err-given.ensures.number (fault_some f)))

pub returns-then-bytes-messages_length-clause-number : goal.returns-then-bytes-messages_length-clause-number
returns-then-bytes-messages_length-clause-number c =
    let g = c.in_ok-given.ensures in
    wrong_size c.args.base c.args.n c.args.bytes.now g.given g.number c.messages_length.ensures c.if-bytes-messages_length.true

pub loop-k-init : goal.loop-k-init
loop-k-init c = record { right = some_zero _; read = c.new-metrics.ensures ∙ sym (each_zero _ 0) }

pub read_message-requires-clause-before : goal.read_message-requires-clause-before
read_message-requires-clause-before c =
    let m = c.in_ok-given.given.nodes in
    let h : c.loop-k.k < message_count_of m = omega (arith, c.message_count-k-end.ensures) in
    ap length c.loop-k.invariant.read ∙ metrics_size m c.args.bytes.now c.loop-k.k ∙ before_here m c.loop-k.k h

pub returns-in_err-read_message-clause-number : goal.returns-in_err-read_message-clause-number
returns-in_err-read_message-clause-number c =
    let g = c.in_ok-given.ensures in
    let f = c.in_err-read_message.field-0.0 in
    answered_err c.from_residual-in_err-read_message.result f c.from_residual-in_err-read_message.ensures.1 ∙
    wrong_message c.args.base c.args.n c.args.bytes.now g.given g.number c.messages_length.ensures c.if-bytes-messages_length.false c.loop-k.k (fault_number f)
    (omega (arith, c.message_count-k-end.ensures)) (fault_some f) c.in_err-read_message.ensures.number

pub loop-k-preserved : goal.loop-k-preserved
loop-k-preserved c =
    let l = c.loop-k in
    let e = c.in_ok-read_message.ensures in
    record {
      right = messages_next _ c.args.bytes.now l.k _ e.number refl l.invariant.right;
      read = metrics_next _ c.args.bytes.now l.k e.metrics l.invariant.read;
    }

pub returns-clause-number : goal.returns-clause-number
returns-clause-number c =
    let g = c.in_ok-given.ensures in
    number_read c.args.base c.args.n c.args.bytes.now g.given g.number c.messages_length.ensures c.if-bytes-messages_length.false
    (omega (arith, c.message_count-k-end.ensures)) c.loop-k.invariant.right

pub returns-clause-metrics : goal.returns-clause-metrics
returns-clause-metrics c =
    let g = c.in_ok-given.ensures in
    metrics_read c.args.base c.args.n c.args.bytes.now g.given g.number c.messages_length.ensures c.if-bytes-messages_length.false
    (omega (arith, c.message_count-k-end.ensures)) c.loop-k.invariant.right c.loop-k.invariant.read
