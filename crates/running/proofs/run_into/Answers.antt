-- `running::run_into` meets its contract: the image, and then the events.
-- Assumes nothing.
use Rattle.running.proofs.Whole.{events_follow}
use Rattle.running.proofs.run_into.Goals as goal

pub returns : goal.returns
returns c = events_follow _ _ _ c.in_ok-used.ensures _ _ c.run_events.ensures
