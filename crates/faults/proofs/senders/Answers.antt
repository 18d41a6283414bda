-- `faults::senders` meets its contract: the bits below n, and out of them the receiver's own.
-- Assumes nothing.
use mathlib.Core.Path.{ap, ◌∙◌}
use mathlib.Core.Bool.{cond}
use lib.Dec.{ltb}
use Rattle.ancestors.specs.Ancestors.{cut}
use Rattle.faults.proofs.Range.{senders_none, senders_are}
use Rattle.faults.proofs.senders.Goals as goal

pub returns-then-n-receiver : goal.returns-then-n-receiver
returns-then-n-receiver c = senders_none c.args.n c.args.receiver c.if-n-receiver.true

pub returns : goal.returns
returns c =
    let a = c.args in
    c.left_out.ensures ∙ ap (λ w. cond (ltb a.receiver 32) (cut w a.receiver) w) c.below.ensures
    ∙ senders_are a.n a.receiver c.if-n-receiver.false
