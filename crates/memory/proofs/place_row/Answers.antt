-- `memory::place_row` meets its contract: a refusal leaves the words.
-- Assumes nothing.
use Rattle.network.specs.Placing.{place_row_of}
use Rattle.memory.proofs.Placing.{leaves_err}
use Rattle.memory.proofs.place_row.Goals as goal

pub returns-in_err-check_row : goal.returns-in_err-check_row
unfolding place_row_of
returns-in_err-check_row c = leaves_err _ _ _ _ c.args.net.now c.from_residual.ensures.1 c.in_err-check_row.ensures
