-- A field of four nodes with wrong rows and reports, lost reports and refused calls, of which demand 3's premises hold.
-- Assumes nothing.
use mathlib.Core.Path.{◌≡◌, refl}
use mathlib.Core.Bool.{true, false}
use mathlib.Core.List.{List, [], ◌∷◌, ◌++◌, append-nil}
use Prim.Native.Nat.{ℕ, ◌*◌, ◌-◌, ◌≤◌}
use native.Mathlib.Omega.{arith}
use lib.ListN.{length, replicate}
use lib.Count.{ones}
use Rattle.ancestors.specs.Ancestors.{has, put}
use Rattle.network.specs.Faults.{size_fault, node_fault, pair_fault_of, cost_fault, grade_fault, origin_fault, row_label_fault, report_label_fault, predecessor_fault, list_fault_of, arc_fault, row_form_number, report_form_number}
use Rattle.network.specs.Network.{via, Net, set_at, set_pair, with_cost, with_row, with_held, outcome, fresh_net, fresh_number, fresh_of, Within}
use Rattle.network.specs.Placing.{place_row_number, place_row_of, place_report_number, place_report_of}
use Rattle.network.specs.Round.{report, hear, offer, list_of, goes_before, against, winner, row_by, choice, renew_to, renew, marked, some, stray_mark, idle_mark, round_number, round_of, every_arc, full_round_of, round as play_round}
use Rattle.network.specs.Change.{changed, change_number, change_of, grade_cost_of, grade_number, grade_of}
use Rattle.network.proofs.Keeping.{fresh_within, change_within, place_row_within, place_report_within}
use Rattle.records.specs.Image.{image}
use Rattle.records.proofs.Acceptance.{reopening}
use Rattle.records.proofs.ImageBytes.{image_bytes}
use Rattle.settling.specs.Calls.{Call, change, grade, round, full_round, route, write_image_of, called, accepted, after, marks_then, rounds, AllSettled, Supposed, at_end, rounds_heard}
use Rattle.settling.specs.Demand.{Answered, by_open}
use Rattle.settling.proofs.CallLaws.{after_within}
use Rattle.settling.proofs.Computed.{still, unheard, missed, supposed_by}
use Rattle.settling.proofs.Theorem.{demand3}

-- document 01's four-node field but for the arc from 1 to 0, built by calls, with no routes
abbrev arcs : Net
arcs =
    let a = (change_of (change_of (fresh_of 4 0).net 0 1 1).net 0 3 4).net in
    let b = (change_of (change_of (change_of a 1 2 1).net 2 1 1).net 2 3 1).net in
    (change_of (change_of b 3 0 4).net 3 2 1).net

-- and with two wrong rows, each the other's predecessor, and a wrong report of the origin
unfoldable pub example_net : Net
example_net = (place_report_of (place_row_of (place_row_of arcs 1 3 2 6).net 2 2 1 6).net 0 3 9 1).net

-- the arc from 0 to 1 goes; a cost above 65,535 is refused
unfoldable pub before : List Call
before = full_round ∷ change 0 1 0 ∷ change 0 3 70000 ∷ []

-- word r has bit s: marks on one half of the arcs, and on the other half
abbrev half : List ℕ
half = 0 ∷ 4 ∷ 8 ∷ 1 ∷ replicate 28 0

abbrev rest : List ℕ
rest = 8 ∷ 0 ∷ 2 ∷ 4 ∷ replicate 28 0

-- twelve accepted rounds; among them, all refused, a mark on a pair without an arc, marks of one word, a loop, a grade above 15, a route into
-- no output, and an image into no output; and a route that is written
unfoldable pub stretch : List Call
stretch =
    round half ∷ round rest ∷ round (0 ∷ 1 ∷ replicate 30 0) ∷ round half ∷ full_round ∷ round half ∷ change 1 1 5 ∷ round rest ∷ full_round ∷
    round (4 ∷ []) ∷ round rest ∷ route 1 [] ∷ round half ∷ grade 1 2 16 ∷ round rest ∷ write_image_of [] ∷ round half ∷ round rest ∷ route 3 (0 ∷ 0 ∷ []) ∷ []

pub example_within : Within example_net
unfolding example_net
example_within =
    let a = change_within _ (change_within _ (fresh_within 4 0) 0 1 1) 0 3 4 in
    let b = change_within _ (change_within _ (change_within _ a 1 2 1) 2 1 1) 2 3 1 in
    let c = change_within _ (change_within _ b 3 0 4) 3 2 1 in
    place_report_within _ (place_row_within _ (place_row_within _ c 1 3 2 6) 2 2 1 6) 0 3 9 1

-- what is computed of the field and its calls
record Facts : Type 0 where
  still : still (after example_net before) stretch ≡ true
  heard : missed (after example_net before).nodes 2 (after example_net before).cost (rounds (after example_net before) stretch) ≡ false
  count : rounds_heard example_net before stretch ≡ 2 * (example_net.nodes - 1) * 2
  -- node 1's route goes by 3 and 2
  row_one : (at_end example_net before stretch).row 1 ≡ via 6 2 15

facts : Facts
unfolding example_net before stretch has put size_fault node_fault pair_fault_of cost_fault grade_fault origin_fault row_label_fault report_label_fault
    predecessor_fault list_fault_of arc_fault row_form_number report_form_number set_at set_pair with_cost with_row with_held outcome fresh_net fresh_number
    fresh_of place_row_number place_row_of place_report_number place_report_of ones report hear offer list_of goes_before against winner row_by choice renew_to
    renew marked some stray_mark idle_mark round_number round_of every_arc full_round_of play_round changed change_number change_of grade_cost_of
    grade_number grade_of called accepted after marks_then rounds still unheard missed
facts = record { still = refl; heard = refl; count = refl; row_one = refl }

pub supposed_example : Supposed example_net before stretch 2
supposed_example = supposed_by example_net before stretch 2 (omega arith) (after_within example_net example_within before) facts.still facts.heard

pub example_rounds : 2 * (example_net.nodes - 1) * 2 ≤ rounds_heard example_net before stretch
example_rounds = omega (arith, facts.count)

-- its image opens to it
pub example_answered : Answered example_net
example_answered =
    let i = image example_net in
    by_open (i ++ []) (length i) (rw (append-nil i) (image_bytes example_net)) (reopening example_net example_within [])

-- demand 3 then says that every row is settled, here with label 6 at node 1
pub example_settled : AllSettled (at_end example_net before stretch)
example_settled = (demand3 example_net example_answered before stretch 2 supposed_example).settled example_rounds

pub example_row : (at_end example_net before stretch).row 1 ≡ via 6 2 15
example_row = facts.row_one
