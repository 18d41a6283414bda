-- What a run answers.
-- Assumes nothing.
use Rattle.std.specs.Prelude.{◌≡◌, List, Option, Some, None, Result, Ok, Err, ℕ, is_ok, eqb}
use Rattle.memory.specs.Layout.{view}
use Rattle.records.specs.Opening.{open_of}
use Rattle.records.specs.Running.{run_of}
use Rattle.records.specs.Stopped.{stop_number, stop_place}
use Rattle.records.specs.declared.Stop.{Stop}
use Rattle.running.specs.declared.Run.{Run}

-- the refusal at which a run stopped, in its image or at an event
abbrev pub run_stop : Result Run Stop → Option Stop
run_stop (Ok e) = e.stop
run_stop (Err s) = Some s

-- the accepted rounds; 0 with its image refused
abbrev pub run_rounds : Result Run Stop → ℕ
run_rounds (Ok e) = e.rounds
run_rounds (Err s) = 0

-- the rounds of a run whose events came to their end, or its refusal
abbrev pub finished_in : ℕ → Option Stop → Result ℕ Stop
finished_in rounds None = Ok rounds
finished_in rounds (Some s) = Err s

unfoldable pub finished_of : Run → Result ℕ Stop
finished_of e = finished_in e.rounds e.stop

-- the run of the input s ends with the answer e and the network of the words
pub record Ends (s : List ℕ) (e : Result Run Stop) (words : List ℕ) : Type 0 where
  pub number : stop_number (run_stop e) ≡ (run_of s).number
  pub place : stop_place (run_stop e) ≡ (run_of s).place
  pub rounds : run_rounds e ≡ (run_of s).rounds
  pub opened : is_ok e ≡ eqb (open_of s).number 0
  pub net : view words ≡ (run_of s).net
