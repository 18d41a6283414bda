-- `routing::renew_row` meets its contract: the chosen row is stored.
-- Assumes nothing.
use borrow.Author.Rules.{rules}
use Rattle.routing.proofs.Renewing.{stored_row}
use Rattle.routing.proofs.renew_row.Goals as goal

pub returns : goal.returns
returns c =
    stored_row c.args.net.now c.args.receiver c.choose_row.result c.unwrap_or-route.result (search rules) c.requires.node c.requires.not_origin
    c.unwrap_or-route.ensures c.choose_row.ensures
