-- (n - 1) W accepted rounds cannot be lowered by one: a field of three nodes whose labels are not all real after one round less.
-- Assumes nothing.
use mathlib.Core.Path.{◌≡◌, refl, subst}
use mathlib.Core.Bool.{Bool, true, false, cond, ◌&&◌}
use mathlib.Core.List.{List, [], ◌∷◌}
use Prim.Native.Nat.{ℕ, ◌*◌, ◌-◌, ◌<◌, ◌≤◌}
use native.Mathlib.Nat.{mul-le-mul_right}
use native.Mathlib.Omega.{arith}
use lib.Dec.{eqb}
use lib.ListN.{replicate}
use lib.Count.{ones}
use Rattle.ancestors.specs.Ancestors.{has, put}
use Rattle.network.specs.Faults.{size_fault, pair_fault_of, cost_fault, report_label_fault, list_fault_of, arc_fault, report_form_number}
use Rattle.network.specs.Network.{via, Net, set_pair, with_cost, with_held, outcome, fresh_net, fresh_number, fresh_of, Within}
use Rattle.network.specs.Placing.{place_report_number, place_report_of}
use Rattle.network.specs.Round.{report, hear, offer, list_of, goes_before, against, winner, row_by, choice, renew_to, renew, marked, some, stray_mark, idle_mark, round_number, round_of, round as play_round}
use Rattle.network.specs.Change.{changed, change_number, change_of}
use Rattle.network.proofs.Limits.{within_size, within_arc}
use Rattle.network.proofs.Keeping.{fresh_within, change_within, place_report_within}
use Rattle.settling.specs.Settled.{Real, relay_label}
use Rattle.settling.specs.Calls.{Call, round, called, accepted, after, marks_then, rounds, AllReal, at_end, rounds_heard}
use Rattle.settling.specs.Bounds.{real_from, TooFew, NoSooner}
use Rattle.settling.proofs.Routes.{ArcEnds, route_cost, route_short}
use Rattle.settling.proofs.CallLaws.{after_within}
use Rattle.settling.proofs.Bounds.{no_sooner_by}
use Rattle.settling.proofs.Computed.{still, unheard, missed, too_few_by}

-- where every arc costs at most c, no real route costs more than (n - 1) c
pub too_dear : (n c : ℕ) (cost : ℕ → ℕ → ℕ) (origin y d p l : ℕ) → ArcEnds n origin cost → ((s r : ℕ) → cost s r ≤ c) → (n - 1) * c < d →
    Real cost origin y (via d p l) → ⊥
too_dear n c cost origin y d p l ends low h (relay_label {k = k} r) =
    let few : k ≤ n - 1 = omega (arith, route_short cost origin n ends r) in
    omega (arith, route_cost cost origin c low r, mul-le-mul_right c few)

-- the origin 0, arcs from 0 to 1 and from 1 to 2 of cost 1, no routes, and a wrong report held over the first arc: label 7
unfoldable pub chain_net : Net
chain_net = (place_report_of (change_of (change_of (fresh_of 3 0).net 0 1 1).net 1 2 1).net 0 1 7 1).net

-- three rounds: only the second marks arcs, and it marks both
unfoldable pub stretch : List Call
stretch = round (replicate 32 0) ∷ round (0 ∷ 1 ∷ 2 ∷ replicate 29 0) ∷ round (replicate 32 0) ∷ []

field_within : Within chain_net
unfolding chain_net
field_within = place_report_within _ (change_within _ (change_within _ (fresh_within 3 0) 0 1 1) 1 2 1) 0 1 7 1

either_le : (b : Bool) (i j c : ℕ) → i ≤ c → j ≤ c → cond b i j ≤ c
either_le true i j c h k = h
either_le false i j c h k = k

-- what is computed of the field and its rounds
record Facts : Type 0 where
  still : still chain_net stretch ≡ true
  heard : missed chain_net.nodes 2 chain_net.cost (rounds chain_net stretch) ≡ false
  count : rounds_heard chain_net [] stretch ≡ real_from chain_net.nodes 2 - 1
  nodes : (at_end chain_net [] stretch).nodes ≡ 3
  low : (s r : ℕ) → (at_end chain_net [] stretch).cost s r ≤ 1
  -- the wrong label went on to node 2
  row_two : (at_end chain_net [] stretch).row 2 ≡ via 9 1 7

facts : Facts
unfolding chain_net stretch has put size_fault pair_fault_of cost_fault report_label_fault list_fault_of arc_fault report_form_number set_pair with_cost with_held
    outcome fresh_net fresh_number fresh_of place_report_number place_report_of ones report hear offer list_of goes_before against winner row_by choice renew_to
    renew marked some stray_mark idle_mark round_number round_of play_round changed change_number change_of called accepted after marks_then
    rounds still unheard missed
facts =
    record {
      still = refl;
      heard = refl;
      count = refl;
      nodes = refl;
      low = λ s r. either_le (eqb s 1 && eqb r 2) 1 _ 1 (omega arith) (either_le (eqb s 0 && eqb r 1) 1 0 1 (omega arith) (omega arith));
      row_two = refl;
    }

unreal_end : AllReal (at_end chain_net [] stretch) → ⊥
unfolding after
unreal_end all =
    too_dear 3 1 z.cost z.origin 2 9 1 7 ends facts.low (omega arith)
    (subst (Real z.cost z.origin 2) facts.row_two (all 2 (omega (arith, facts.nodes))))
  where
    z : Net
    z = at_end chain_net [] stretch

    w : Within z
    w = after_within chain_net field_within stretch

    ends : ArcEnds 3 z.origin z.cost
    ends =
        record {
          origin_node = omega (arith, facts.nodes, within_size z w);
          sender_node = λ s y arc. omega (arith, facts.nodes, (within_arc z w s y arc).0);
          receiver_node = λ s y arc. omega (arith, facts.nodes, (within_arc z w s y arc).1);
        }

pub tight : TooFew real_from AllReal chain_net [] stretch 2
tight = too_few_by real_from AllReal chain_net stretch 2 (omega arith) field_within facts.still facts.heard facts.count unreal_end

pub no_sooner : NoSooner real_from AllReal
no_sooner = no_sooner_by tight
