-- `messages::read_message` meets its contract: the header, then the entries.
-- Assumes nothing.
use native.Mathlib.Omega.{arith}
use mathlib.Core.Path.{◌≡◌, sym, ◌∙◌}
use mathlib.Core.List.{append-nil}
use Rattle.records.proofs.Each.{each_zero}
use Rattle.response.specs.Reading.{message_metrics}
use Rattle.messages.proofs.Reading.{some_zero, exit_message, entry_wrong, entry_right, header_wrong, message_right}
use Rattle.messages.proofs.read_message.Goals as goal

pub returns-then-word-ne-HEADER_WORD-clause-number : goal.returns-then-word-ne-HEADER_WORD-clause-number
returns-then-word-ne-HEADER_WORD-clause-number c = rw (header_wrong c.args.given.base _ c.args.part.now _ (λ i. omega (arith, c.type_inv.part i)) (λ e. c.if-word-ne-HEADER_WORD.true (c.word.ensures ∙ e)))

pub loop-i-init : goal.loop-i-init
unfolding message_metrics
loop-i-init c = record { right = some_zero _; count = omega (arith, c.requires.before); added = rw (each_zero _ 0) (sym (append-nil _)) }

pub returns-in_err-metric-clause-number : goal.returns-in_err-metric-clause-number
returns-in_err-metric-clause-number c =
    let g = c.in_err-metric.ensures in
    let e = entry_wrong c.args.given.base _ c.args.part.now c.loop-i.i _ (omega arith) c.address.ensures _ c.loop-i-test.true (sym g.ok_part ∙ c.read_entry.ensures) in
    exit_message c.from_residual.result _ c.read_entry.result c.from_residual.ensures.1 g.value g.ok_part ∙ rw (← c.entry_count-i-end.ensures, e)

pub loop-i-preserved : goal.loop-i-preserved
loop-i-preserved c =
    let l = c.loop-i in
    let e =
    entry_right c.args.given.base _ c.args.part.now l.i _ (omega arith) c.address.ensures c.args.metrics.now.items (sym c.in_ok-metric.ensures.ok_part ∙ c.read_entry.ensures)
    l.invariant.right c.push.ensures.items l.invariant.added in
    record { right = e.0; count = omega arith; added = e.1 }

pub returns-clause-number : goal.returns-clause-number
returns-clause-number c =
    let d : c.loop-i.i ≡ c.entry_count-i-end.result = omega arith in
    rw (message_right c.args.given.base _ c.args.part.now (λ i. omega (arith, c.type_inv.part i)) (sym c.word.ensures ∙ c.if-word-ne-HEADER_WORD.false) c.loop-i.invariant.right (d ∙ c.entry_count-i-end.ensures))
