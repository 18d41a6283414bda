-- `ancestors::left_out` meets its contract: the bits shared with a shifted one are taken out.
-- Assumes nothing.
use borrow.Author.Tests.{lt-ltb}
use Rattle.ancestors.proofs.Words.{code_cut}
use Rattle.ancestors.proofs.left_out.Goals as goal

pub returns : goal.returns
returns c = rw (lt-ltb _ _ c.if-node-ge32.false) (code_cut c.args.list c.args.node c.if-node-ge32.false)
