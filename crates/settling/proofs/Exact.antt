-- The rounds from which rows are settled cannot be lowered by one: chains of four and of two nodes whose last row is not settled after one round
-- less.
-- Assumes nothing.
use mathlib.Core.Path.{◌≡◌, refl, subst}
use mathlib.Core.Bool.{true, false}
use mathlib.Core.List.{List, [], ◌∷◌}
use Prim.Native.Nat.{ℕ, ◌-◌, ◌<◌}
use native.Mathlib.Omega.{arith}
use lib.Count.{ones}
use lib.ListN.{replicate}
use Rattle.ancestors.specs.Ancestors.{has, put}
use Rattle.network.specs.Faults.{size_fault, node_fault, pair_fault_of, cost_fault, origin_fault, row_label_fault, predecessor_fault, list_fault_of, row_form_number}
use Rattle.network.specs.Network.{none, Net, set_at, set_pair, with_cost, with_row, with_held, outcome, fresh_net, fresh_number, fresh_of, Within}
use Rattle.network.specs.Placing.{place_row_number, place_row_of}
use Rattle.network.specs.Round.{report, hear, offer, list_of, goes_before, against, winner, row_by, choice, renew_to, renew, marked, some, stray_mark, idle_mark, round_number, round_of, every_arc, full_round_of, round as play_round}
use Rattle.network.specs.Change.{changed, change_number, change_of}
use Rattle.network.proofs.Keeping.{fresh_within, change_within, place_row_within}
use Rattle.settling.specs.Settled.{Walk, here, along, Settled}
use Rattle.settling.specs.Calls.{Call, round, full_round, called, accepted, after, marks_then, rounds, AllSettled, at_end, rounds_heard}
use Rattle.settling.specs.Bounds.{settled_from, TooFew, NoSooner}
use Rattle.settling.proofs.Unique.{settled_none}
use Rattle.settling.proofs.Bounds.{no_sooner_by}
use Rattle.settling.proofs.Computed.{still, unheard, missed, too_few_by}

-- a row without a route where a walk leads is not settled
unsettled : (x : Net) (y k d : ℕ) → y < x.nodes → x.row y ≡ none → Walk x.cost x.origin y k d → AllSettled x → ⊥
unsettled x y k d b e w all = settled_none x.cost x.origin (subst (λ v. Settled x.cost x.origin y v) e (all y b)) k d w

-- the origin 0, an arc of cost 1,000 from 0 to 1, arcs of cost 1 between 1 and 2 and between 2 and 3, no reports, and no routes but a false one at 3:
-- label 1 and a list of 3 alone
unfoldable pub false_chain : Net
false_chain =
    let a = (change_of (change_of (change_of (fresh_of 4 0).net 0 1 1000).net 1 2 1).net 2 1 1).net in
    (place_row_of (change_of (change_of a 2 3 1).net 3 2 1).net 3 1 0 8).net

-- a round without marks
abbrev silent : Call
silent = round (replicate 32 0)

-- every second round is full, from the first on
unfoldable pub chain_stretch : List Call
chain_stretch = full_round ∷ silent ∷ full_round ∷ silent ∷ full_round ∷ silent ∷ full_round ∷ silent ∷ []

-- two nodes with an arc of cost 1, and a round without marks
unfoldable pub pair_net : Net
pair_net = (change_of (fresh_of 2 0).net 0 1 1).net

unfoldable pub pair_stretch : List Call
pair_stretch = silent ∷ []

chain_within : Within false_chain
unfolding false_chain
chain_within =
    let a = change_within _ (change_within _ (change_within _ (fresh_within 4 0) 0 1 1000) 1 2 1) 2 1 1 in
    place_row_within _ (change_within _ (change_within _ a 2 3 1) 3 2 1) 3 1 0 8

pair_within : Within pair_net
unfolding pair_net
pair_within = change_within _ (fresh_within 2 0) 0 1 1

-- what is computed of a field x and a stretch with W = 2: after it the row of y has no route, where a walk of k arcs and cost d leads
record Facts (x : Net) (stretch : List Call) (y k d : ℕ) : Type 0 where
  still : still x stretch ≡ true
  heard : missed x.nodes 2 x.cost (rounds x stretch) ≡ false
  count : rounds_heard x [] stretch ≡ settled_from x.nodes 2 - 1
  below : y < (at_end x [] stretch).nodes
  no_route_lem : (at_end x [] stretch).row y ≡ none
  walk : Walk (at_end x [] stretch).cost (at_end x [] stretch).origin y k d

chain_facts : Facts false_chain chain_stretch 3 3 1002
unfolding false_chain chain_stretch has put ones size_fault node_fault pair_fault_of cost_fault origin_fault row_label_fault predecessor_fault list_fault_of
    row_form_number set_at set_pair with_cost with_row with_held outcome fresh_net fresh_number fresh_of place_row_number place_row_of report hear offer list_of goes_before
    against winner row_by choice renew_to renew marked some stray_mark idle_mark round_number round_of every_arc full_round_of play_round changed change_number
    change_of called accepted after marks_then rounds still unheard missed settled_from
chain_facts =
    record {
      still = refl;
      heard = refl;
      count = refl;
      below = omega arith;
      no_route_lem = refl;
      walk = along {s = 2} {y = 3} (along {s = 1} {y = 2} (along {s = 0} {y = 1} here (omega arith)) (omega arith)) (omega arith);
    }

pair_facts : Facts pair_net pair_stretch 1 1 1
unfolding pair_net pair_stretch has put ones size_fault pair_fault_of cost_fault set_pair with_cost with_held outcome fresh_net fresh_number fresh_of report
    hear offer list_of goes_before against winner row_by choice renew_to renew marked some stray_mark idle_mark round_number round_of play_round changed
    change_number change_of called accepted after marks_then rounds still unheard missed settled_from
pair_facts =
    record {
      still = refl;
      heard = refl;
      count = refl;
      below = omega arith;
      no_route_lem = refl;
      walk = along {s = 0} {y = 1} here (omega arith);
    }

-- such facts are too few rounds
too_few : (x : Net) (stretch : List Call) (y k d : ℕ) → Within x → Facts x stretch y k d → TooFew settled_from AllSettled x [] stretch 2
too_few x stretch y k d within f =
    too_few_by settled_from AllSettled x stretch 2 (omega arith) within f.still f.heard f.count
    (unsettled (at_end x [] stretch) y k d f.below f.no_route_lem f.walk)

-- with four nodes 8 rounds are too few, with two nodes 1
pub exact : TooFew settled_from AllSettled false_chain [] chain_stretch 2
exact = too_few false_chain chain_stretch 3 3 1002 chain_within chain_facts

pub exact_pair : TooFew settled_from AllSettled pair_net [] pair_stretch 2
exact_pair = too_few pair_net pair_stretch 1 1 1 pair_within pair_facts

pub settled_no_sooner : NoSooner settled_from AllSettled
settled_no_sooner = no_sooner_by exact
