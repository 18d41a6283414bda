-- `ancestors::joined` meets its contract: a shifted one or-ed in.
-- Assumes nothing.
use borrow.Author.Tests.{lt-ltb}
use Rattle.ancestors.proofs.Words.{code_put}
use Rattle.ancestors.proofs.joined.Goals as goal

pub returns : goal.returns
returns c = rw (lt-ltb _ _ c.if-node-ge32.false) (code_put c.args.list c.args.node c.if-node-ge32.false)
