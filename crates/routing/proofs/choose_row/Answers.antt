-- `routing::choose_row` meets its contract: the word of arcs and the parts lent are the words of one receiver.
-- Assumes nothing.
use borrow.Author.Rules.{rules}
use Rattle.routing.proofs.Renewing.{chosen_row}
use Rattle.routing.proofs.choose_row.Goals as goal

pub returns : goal.returns
returns c =
    chosen_row c.args.net.now c.nodes-n.result c.args.receiver c.left_out-arcs.result c.choose-chosen.result _ (search rules) c.nodes-n.ensures c.requires.node
    (search rules) (search rules) c.unwrap_or.ensures
