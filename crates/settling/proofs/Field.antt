-- The cases of document 01's four-node field, computed: one theorem over the list of them.
-- Assumes nothing.
use mathlib.Core.Path.{refl}
use lib.Count.{ones}
use Rattle.ancestors.specs.Ancestors.{has, put}
use Rattle.network.specs.Faults.{size_fault, node_fault, pair_fault_of, cost_fault, grade_fault, first_number}
use Rattle.network.specs.Network.{set_at, set_pair, with_cost, with_row, with_held, outcome, fresh_net, fresh_number, fresh_of}
use Rattle.network.specs.Round.{report, hear, offer, list_of, goes_before, against, winner, row_by, choice, renew_to, renew, every_arc, full_round_of, round}
use Rattle.network.specs.Change.{changed, change_number, change_of, grade_cost_of, grade_number, grade_of}
use Rattle.records.specs.Numbers.{num8, num16, num32}
use Rattle.records.specs.Records.{body_length, body_of, arc_change, event_of, allowed, bodied, record_of}
use Rattle.records.specs.Opening.{arc_rank, order_number, arc_number, judged, placed, read_records_of, started, headed, open_of}
use Rattle.records.specs.Running.{event_done, rounds_in, after_event, read_events, run_from, run_of}
use Rattle.settling.specs.Field.{cases, Hold}

pub field_cases : Hold cases
unfolding has put size_fault node_fault pair_fault_of cost_fault grade_fault set_at set_pair with_cost with_row with_held outcome fresh_net fresh_number fresh_of
    ones report hear offer list_of goes_before against winner row_by choice renew_to renew every_arc full_round_of round changed change_number change_of grade_cost_of
    grade_number grade_of num8 num16 num32 body_length body_of arc_change event_of allowed bodied record_of arc_rank order_number first_number arc_number judged
    placed read_records_of started headed open_of event_done rounds_in after_event read_events run_from run_of
field_cases = refl
