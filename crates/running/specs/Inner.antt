-- What the private functions ask and answer.
-- Assumes nothing.
use Rattle.std.specs.Prelude.{◌≡◌, List, ℕ, ◌+◌, ◌≤◌, length, drop}
use Rattle.network.specs.Network.{Net}
use Rattle.memory.specs.Layout.{view}
use Rattle.records.specs.Records.{record_length, body_of}
use Rattle.records.specs.Running.{Running, read_events}
use Rattle.records.specs.Stopped.{stop_number, stop_place}
use Rattle.records.specs.declared.Event.{Event}
use Rattle.records.specs.declared.Event.TheVariants.{Round}
use Rattle.running.specs.declared.Run.{Run}

-- the body of a round whose record lies at `at`
abbrev pub marks_at : ℕ → List ℕ → List ℕ
marks_at at s = body_of 5 (drop (at + 1) s)

-- a round's record lies inside the input
abbrev pub Inside : Event → ℕ → List ℕ → Type 0
Inside e at s = e ≡ Round → at + record_length 5 ≤ length s

-- the events of the input s from the place `at` on
abbrev pub events_from : List ℕ → Net → ℕ → Running
events_from s x at = read_events (length s) x 0 at (drop at s)

-- the run whose events ended with the answer e and the words ys
unfoldable pub ran : Run → List ℕ → Running
ran e ys = record { number = stop_number e.stop; place = stop_place e.stop; rounds = e.rounds; net = view ys }
