-- Demand 3 of document 01's own run: its calls as its bytes give them, and every row settled at its end.
-- Assumes nothing.
use mathlib.Core.Path.{◌≡◌, refl}
use mathlib.Core.Bool.{Bool, true, false, ◌&&◌}
use mathlib.Core.List.{List, [], ◌∷◌, ◌++◌}
use Prim.Native.Nat.{ℕ, zero, suc}
use native.Mathlib.Omega.{arith}
use lib.Dec.{ltb}
use borrow.Author.Tests.{ltb-true}
use lib.Count.{ones}
use Rattle.ancestors.specs.Ancestors.{has, put}
use Rattle.ancestors.proofs.Cases.{and_both}
use Rattle.network.specs.Faults.{size_fault, node_fault, pair_fault_of, cost_fault, grade_fault, first_number}
use Rattle.network.specs.Network.{Net, set_at, set_pair, with_cost, with_row, with_held, outcome, fresh_net, fresh_number, fresh_of}
use Rattle.network.specs.Round.{report, hear, offer, list_of, goes_before, against, winner, row_by, choice, renew_to, renew, some, every_arc, full_round_of, round as play_round}
use Rattle.network.specs.Change.{changed, change_number, change_of, grade_cost_of, grade_number, grade_of}
use Rattle.records.specs.Numbers.{Bytes, num8, num16, num32}
use Rattle.records.specs.Records.{body_length, body_of, arc_change, event_of, allowed, bodied, record_of}
use Rattle.records.specs.Opening.{arc_rank, order_number, arc_number, judged, placed, read_records_of, started, headed, open_of}
use Rattle.records.specs.Running.{run_of}
use Rattle.records.proofs.Opened.{open_within}
use Rattle.settling.specs.Calls.{Call, change, full_round, called, accepted, after, marks_then, rounds, AllSettled, rounds_heard}
use Rattle.settling.specs.Field.{field_run}
use Rattle.settling.specs.RunCalls.{event_call, events_in, run_events_of, calls_of, run_calls}
use Rattle.settling.proofs.CallLaws.{after_within}
use Rattle.settling.proofs.Computed.{still, unheard, missed, supposed_by}
use Rattle.settling.proofs.RunCalls.{run_settles}

-- the run's calls: four full rounds and the arcs between 0 and 1 removed; then six full rounds
abbrev before : List Call
before = full_round ∷ full_round ∷ full_round ∷ full_round ∷ change 0 1 0 ∷ change 1 0 0 ∷ []

abbrev stretch : List Call
stretch = full_round ∷ full_round ∷ full_round ∷ full_round ∷ full_round ∷ full_round ∷ []

-- the network that its image opens to
abbrev opened_net : Net
opened_net = (open_of (field_run 6)).net

-- every number of a list is a byte
unfoldable small : List ℕ → Bool
small [] = true
small (b ∷ bs) = ltb b 256 && small bs

bytes_by : (bs : List ℕ) → small bs ≡ true → Bytes bs
unfolding small
bytes_by [] e i = omega arith
bytes_by (b ∷ bs) e zero = ltb-true b 256 (and_both (ltb b 256) (small bs) e).0
bytes_by (b ∷ bs) e (suc i) = bytes_by bs (and_both (ltb b 256) (small bs) e).1 i

-- what is computed of the run
record Facts : Type 0 where
  bytes : small (field_run 6) ≡ true
  opened : (open_of (field_run 6)).number ≡ 0
  calls : run_calls (field_run 6) ≡ before ++ stretch
  still : still (after opened_net before) stretch ≡ true
  heard : missed (after opened_net before).nodes 1 (after opened_net before).cost (rounds (after opened_net before) stretch) ≡ false
  nodes : opened_net.nodes ≡ 4
  count : rounds_heard opened_net before stretch ≡ 6

facts : Facts
unfolding has put size_fault node_fault pair_fault_of cost_fault grade_fault set_at set_pair with_cost with_row with_held outcome fresh_net fresh_number fresh_of
    ones report hear offer list_of goes_before against winner row_by choice renew_to renew some every_arc full_round_of play_round changed change_number change_of grade_cost_of
    grade_number grade_of num8 num16 num32 body_length body_of arc_change event_of allowed bodied record_of arc_rank order_number first_number arc_number judged
    placed read_records_of started headed open_of called accepted after marks_then rounds event_call events_in run_events_of calls_of still unheard missed small
facts = record { bytes = refl; opened = refl; calls = refl; still = refl; heard = refl; nodes = refl; count = refl }

-- with every arc heard in every round, six rounds are 2 (n - 1): every row of the network that the run answers is settled
pub field_settles : AllSettled (run_of (field_run 6)).net
field_settles =
    let by = bytes_by (field_run 6) facts.bytes in
    let w = after_within opened_net (open_within (field_run 6) by) before in
    (run_settles (field_run 6) by facts.opened before stretch 1 facts.calls
    (supposed_by opened_net before stretch 1 (omega arith) w facts.still facts.heard)).settled (omega (arith, facts.count, facts.nodes))
