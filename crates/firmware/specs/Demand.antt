-- Demand 3 of what the C call writes.
-- Assumes nothing.
use Rattle.std.specs.Prelude.{◌≡◌, List, ◌++◌, ℕ, ◌/◌, ◌%◌}
use Rattle.network.specs.Network.{Net}
use Rattle.records.specs.Numbers.{Bytes}
use Rattle.records.specs.Opening.{accepted_opening, open_of}
use Rattle.settling.specs.Calls.{Call, Supposed, rounds_heard, Promises}
use Rattle.settling.specs.RunCalls.{run_calls}
use Rattle.firmware.specs.Calling.{Called, call_of}

-- the output opens, over the bytes answered, to a network of which demand 3's promises hold
pub record OpensPromised (o : Called) (n W heard : ℕ) : Type 0 where
  pub net : Net
  pub opens : open_of o.output ≡ accepted_opening net (o.answer / 32)
  pub promised : Promises n W heard net

-- for every accepted call, every W, and every cut of the run's calls into what comes before and the stretch
abbrev pub CallSettles : Type 0
CallSettles =
    (run out : List ℕ) → Bytes run → (call_of run out).answer % 32 ≡ 0 → (before stretch : List Call) (W : ℕ) → run_calls run ≡ before ++ stretch →
    Supposed (open_of run).net before stretch W →
    OpensPromised (call_of run out) (open_of run).net.nodes W (rounds_heard (open_of run).net before stretch)
