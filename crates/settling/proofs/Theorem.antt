-- Demand 3 entire, and the sharper bound.
-- Assumes nothing.
use mathlib.Core.Path.{◌≡◌, sym, subst}
use mathlib.Core.List.{List}
use Prim.Native.Nat.{ℕ, ◌*◌, ◌-◌, ◌≤◌}
use native.Mathlib.Omega.{arith}
use lib.ListN.{length, get_or}
use Rattle.network.specs.Network.{Net, Within}
use Rattle.network.proofs.Keeping.{fresh_within}
use Rattle.records.specs.Numbers.{Bytes}
use Rattle.records.specs.Opening.{open_of}
use Rattle.records.proofs.Acceptance.{acceptance}
use Rattle.records.proofs.Opened.{open_accepted}
use Rattle.settling.specs.Calls.{Call, after, Stretch, rounds, unmarked, HeardWithin, AllSettled, AllReal, rounds_heard, Settling}
use Rattle.settling.specs.Bounds.{settled_from, SettlingSooner}
use Rattle.settling.specs.Demand.{Answered, by_fresh, by_open, Demand3}
use Rattle.settling.proofs.Rounds.{rounds_real, rounds_settled}
use Rattle.settling.proofs.Bounds.{settled_before}
use Rattle.settling.proofs.CallLaws.{after_nodes, after_within}
use Rattle.settling.proofs.Stretches.{after_rounds, stretch_after, stretch_rounds}

module _ (x : Net) (within : Within x) (cs : List Call) (W : ℕ) (positive : 1 ≤ W) (still : Stretch x cs)
    (heard : HeardWithin W x.cost (rounds x cs)) where
  -- a stretch of (n - 1) W rounds ends with every label a real route's cost
  stretch_real : (x.nodes - 1) * W ≤ length (rounds x cs) → AllReal (after x cs)
  unfolding after_rounds
  stretch_real a =
      subst AllReal (sym (stretch_after still))
      (rounds_real (λ t. get_or (rounds x cs) t unmarked) (λ t. after_rounds t (rounds x cs) x) (length (rounds x cs)) (stretch_rounds still within)
      W positive heard a)

  -- a stretch of `settled_from` rounds ends with every row settled
  stretch_settled : settled_from x.nodes W ≤ length (rounds x cs) → AllSettled (after x cs)
  unfolding after_rounds
  stretch_settled a =
      subst AllSettled (sym (stretch_after still))
      (rounds_settled (λ t. get_or (rounds x cs) t unmarked) (λ t. after_rounds t (rounds x cs) x) (length (rounds x cs)) (stretch_rounds still within)
      W positive heard a)

-- rows are settled sooner than demand 3 says
pub settling_sooner : SettlingSooner
settling_sooner x within before stretch W s a =
    stretch_settled (after x before) (after_within x within before) stretch W s.positive s.still s.heard
    (subst (λ (n : ℕ). settled_from n W ≤ rounds_heard x before stretch) (sym (after_nodes x before)) a)

-- every network within limits settles
pub settling : Settling
settling x within before stretch W s =
    record {
      settled = λ a. settling_sooner x within before stretch W s (omega (arith, settled_before x.nodes W s.positive));
      real = λ a. stretch_real (after x before) (after_within x within before) stretch W s.positive s.still s.heard
          (subst (λ (n : ℕ). (n - 1) * W ≤ rounds_heard x before stretch) (sym (after_nodes x before)) a);
    }

-- a network that an accepted fresh or open call answers is within limits
answered_within : (x : Net) → Answered x → Within x
answered_within x (by_fresh n o ok e) = subst Within e (fresh_within n o)
answered_within x (by_open bs used bytes e) = ((acceptance bs bytes x used).0 e).within

-- an opening with number 0 answers its network
pub open_answers : (bs : List ℕ) → Bytes bs → (open_of bs).number ≡ 0 → Answered (open_of bs).net
open_answers bs bytes e = by_open bs (open_of bs).used bytes (open_accepted bs e)

-- demand 3
pub demand3 : Demand3
demand3 x answered before stretch W s = settling x (answered_within x answered) before stretch W s
