-- Document 01, "Records": a run, which is an image and then events to the input's end.
-- Assumes nothing.
use Rattle.std.specs.Prelude.{cond, List, [], ◌∷◌, ℕ, zero, suc, ◌+◌, eqb, length, drop}
use Rattle.network.specs.Network.{Net, Outcome, outcome}
use Rattle.network.specs.Answered.{fault_number}
use Rattle.network.specs.Change.{change_of}
use Rattle.network.specs.Round.{round_of, full_round_of}
use Rattle.records.specs.Numbers.{words_in}
use Rattle.records.specs.Records.{as_event, body_of, record_of}
use Rattle.records.specs.Opening.{Opening, open_of}
use Rattle.records.specs.declared.ArcChange.TheVariants.{Set, Removed}
use Rattle.records.specs.declared.Event.{Event}
use Rattle.records.specs.declared.Event.TheVariants.{End, Header, Change, Row, Report, Round, FullRound, Refusal}
use Rattle.records.specs.declared.Record.{Record}

-- what an event with the body b does to x; a round's body is 32 words of marks; other kinds were refused as 2 when the record was read
unfoldable pub event_done : Net → List ℕ → Event → Outcome
event_done x b (Change (Set s r c)) = change_of x s r c
event_done x b (Change (Removed s r)) = change_of x s r 0
event_done x b Round = round_of x (words_in 32 b)
event_done x b FullRound = full_round_of x
event_done x b (Refusal f p) = outcome (fault_number f) x x
event_done x b End = outcome 2 x x
event_done x b (Header n o) = outcome 2 x x
event_done x b (Row y d p l) = outcome 2 x x
event_done x b (Report s r d l) = outcome 2 x x

-- the rounds of an accepted event: kinds 5 and 6 are rounds
unfoldable pub rounds_in : Event → ℕ
rounds_in Round = 1
rounds_in FullRound = 1
rounds_in (Change c) = 0
rounds_in (Refusal e p) = 0
rounds_in End = 0
rounds_in (Header n o) = 0
rounds_in (Row y d p l) = 0
rounds_in (Report s r d l) = 0

-- what a run answers: number and place of the refusal at which it stopped, or 0 and 0; the accepted rounds; its network
pub record Running : Type 0 where
  pub number : ℕ
  pub place : ℕ
  pub rounds : ℕ
  pub net : Net

-- after an event on x at the place `at`, with the outcome o: refused, the run stops and earlier events stay done
unfoldable pub after_event : (Net → Running) → ℕ → ℕ → Outcome → Running
after_event go at rounds o = cond (eqb o.number 0) (go o.net) (record { number = o.number; place = at; rounds = rounds; net = o.net })

-- the events of the bytes bs, which begin at the place `at`, to the input's end; at most k of them
unfoldable pub read_events : ℕ → Net → ℕ → ℕ → List ℕ → Running
read_events zero x rounds at bs = record { number = 0; place = 0; rounds = rounds; net = x }
read_events (suc k) x rounds at [] = record { number = 0; place = 0; rounds = rounds; net = x }
read_events (suc k) x rounds at (kind ∷ b) =
    let r : Record = record_of as_event at (kind ∷ b) in
    after_event (λ z. read_events k z (rounds + rounds_in r.event) (at + r.used) (drop r.used (kind ∷ b))) at rounds (event_done x (body_of kind b) r.event)

-- with its image refused a run answers as opening does, with 0 rounds; an event has at least one byte
unfoldable pub run_from : List ℕ → Opening → Running
run_from bs o =
    cond (eqb o.number 0) (read_events (length bs) o.net 0 o.used (drop o.used bs))
    (record { number = o.number; place = o.place; rounds = 0; net = o.net })

-- a run
unfoldable pub run_of : List ℕ → Running
run_of bs = run_from bs (open_of bs)
