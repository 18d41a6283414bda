-- Document 01, "Records": the events of a run as calls, and demand 3 of what a run answers.
-- Assumes nothing.
use Rattle.std.specs.Prelude.{◌≡◌, cond, List, [], ◌∷◌, ◌++◌, ℕ, zero, suc, ◌+◌, eqb, ltb, length, drop}
use Rattle.network.specs.Network.{Net}
use Rattle.records.specs.Numbers.{Bytes, num8, num16, words_in}
use Rattle.records.specs.Records.{body_length, record_length, as_event, allowed, body_of}
use Rattle.records.specs.Opening.{open_of}
use Rattle.records.specs.Running.{run_of}
use Rattle.settling.specs.Calls.{Call, change, grade, round, full_round, called, accepted, after, rounds, Supposed, rounds_heard, Promises}

-- ---- events as they stand in the bytes

-- the call that an event of kind k with the body b is: 2 a change, 5 a round, 6 a round with every arc heard, 7 a grade
unfoldable pub event_call : ℕ → List ℕ → Call
event_call k b =
    cond (eqb k 2) (change (num8 b 0) (num8 b 1) (num16 b 2))
    (cond (eqb k 5) (round (words_in 32 b))
    (cond (eqb k 6) full_round
    (grade (num8 b 0) (num8 b 1) (num8 b 2))))

-- the events of some bytes: none left; a record that is no event, with its number and place; or a call with its record's place, and the
-- events after it
pub data Events : Type 0 where
  ended : Events
  malformed : ℕ → ℕ → Events
  event : ℕ → Call → Events → Events

-- the events of the bytes bs, which begin at the place `at`, to the input's end; at most k of them; 2 for a kind not allowed, then 1 for a
-- short body
unfoldable pub events_in : ℕ → ℕ → List ℕ → Events
events_in zero at bs = ended
events_in (suc k) at [] = ended
events_in (suc k) at (kind ∷ b) =
    cond (allowed as_event kind)
    (cond (ltb (length b) (body_length kind)) (malformed 1 at)
    (event at (event_call kind (body_of kind b)) (events_in k (at + record_length kind) (drop (record_length kind) (kind ∷ b)))))
    (malformed 2 at)

-- the events of a run: what follows its image; an event has at least one byte
unfoldable pub run_events_of : List ℕ → Events
run_events_of bs = events_in (length bs) (open_of bs).used (drop (open_of bs).used bs)

-- ---- a run as calls

-- the calls that events are on x, in order, up to the first refused one, and that one
unfoldable pub calls_of : Net → Events → List Call
calls_of x ended = []
calls_of x (malformed e p) = []
calls_of x (event p c es) = c ∷ cond (accepted x c) (calls_of (called x c).net es) []

-- number and place of a refusal, or 0 and 0
pub record Stop : Type 0 where
  pub number : ℕ
  pub place : ℕ

-- where events on x stop: at the first refused call, at a record that is no event, or nowhere
unfoldable pub stop_of : Net → Events → Stop
stop_of x ended = record { number = 0; place = 0 }
stop_of x (malformed e p) = record { number = e; place = p }
stop_of x (event p c es) = cond (accepted x c) (stop_of (called x c).net es) (record { number = (called x c).number; place = p })

-- the calls of a run, on the network that its image opens to
abbrev pub run_calls : List ℕ → List Call
run_calls bs = calls_of (open_of bs).net (run_events_of bs)

-- what a run answers, by its calls: the network after them, their accepted rounds, and where they stop
pub record RanAs (bs : List ℕ) : Type 0 where
  pub net_is : (run_of bs).net ≡ after (open_of bs).net (run_calls bs)
  pub rounds_are : (run_of bs).rounds ≡ length (rounds (open_of bs).net (run_calls bs))
  pub number_is : (run_of bs).number ≡ (stop_of (open_of bs).net (run_events_of bs)).number
  pub place_is : (run_of bs).place ≡ (stop_of (open_of bs).net (run_events_of bs)).place

-- every run whose image is accepted; refused, a run answers as opening does, with 0 rounds
abbrev pub RunIsCalls : Type 0
RunIsCalls = (bs : List ℕ) → (open_of bs).number ≡ 0 → RanAs bs

-- demand 3 of a run: for all bytes whose image is accepted, every W, and every cut of the run's calls into what comes before and the stretch,
-- the promises hold of the network that the run answers
abbrev pub RunSettles : Type 0
RunSettles =
    (bs : List ℕ) → Bytes bs → (open_of bs).number ≡ 0 → (before stretch : List Call) (W : ℕ) → run_calls bs ≡ before ++ stretch →
    Supposed (open_of bs).net before stretch W →
    Promises (open_of bs).net.nodes W (rounds_heard (open_of bs).net before stretch) (run_of bs).net
