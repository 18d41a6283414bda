-- Demand 3 entire, to be read beside the mission's sentence.
--   a network that an accepted fresh or open call answers: Answered
--   a list of change, grade, round and reading calls, refused ones included: before, stretch
--   W from 1; no change or grade accepted in the stretch; each arc heard in any W successive accepted rounds: Supposed
--   2(n-1)W accepted rounds and rows settled; (n-1)W and labels real: Promised
-- Assumes nothing.
use Rattle.std.specs.Prelude.{◌≡◌, List, ℕ}
use Rattle.network.specs.Network.{Net, fresh_of}
use Rattle.records.specs.Numbers.{Bytes}
use Rattle.records.specs.Opening.{accepted_opening, open_of}
use Rattle.settling.specs.Calls.{Call, Supposed, Promised}

-- an accepted fresh or open call answers x
pub data Answered (x : Net) : Type 0 where
  by_fresh : (n origin : ℕ) → (fresh_of n origin).number ≡ 0 → (fresh_of n origin).net ≡ x → Answered x
  by_open : (bs : List ℕ) (used : ℕ) → Bytes bs → open_of bs ≡ accepted_opening x used → Answered x

-- for every way to cut the list into what comes before and the stretch
abbrev pub Demand3 : Type 0
Demand3 = (x : Net) → Answered x → (before stretch : List Call) (W : ℕ) → Supposed x before stretch W → Promised x before stretch W
