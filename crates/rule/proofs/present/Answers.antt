-- `rule::present` meets its contract: the bit is read by a shift.
-- Assumes nothing.
use Rattle.ancestors.proofs.Words.{code_has}
use Rattle.rule.proofs.present.Goals as goal

pub returns : goal.returns
returns c = code_has c.args.arcs c.args.sender
