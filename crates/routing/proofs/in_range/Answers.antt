-- `routing::in_range` meets its contract: a node is below n where its bit is among the bits below n.
-- Assumes nothing.
use mathlib.Core.Path.{sym, ap, ◌∙◌}
use mathlib.Core.Bool.{cond}
use lib.Dec.{ltb}
use borrow.Author.Tests.{ltb-true, ltb-false}
use Rattle.ancestors.specs.Ancestors.{has, cut}
use Rattle.faults.proofs.Range.{has_below, senders_none, senders_are}
use Rattle.routing.proofs.in_range.Goals as goal

pub returns-then-listed : goal.returns-then-listed
returns-then-listed c =
    let a = c.args in
    let below = ltb-true a.receiver a.n (sym (has_below a.n a.receiver c.requires) ∙ ap (λ w. has w a.receiver) (sym c.below-all.ensures) ∙ sym c.listed.ensures ∙ c.if-listed.true) in
    c.left_out.ensures ∙ ap (λ w. cond (ltb a.receiver 32) (cut w a.receiver) w) c.below-all.ensures ∙ senders_are a.n a.receiver below

pub returns : goal.returns
returns c =
    let a = c.args in
    senders_none a.n a.receiver
    (ltb-false a.receiver a.n (sym (has_below a.n a.receiver c.requires) ∙ ap (λ w. has w a.receiver) (sym c.below-all.ensures) ∙ sym c.listed.ensures ∙ c.if-listed.false))
