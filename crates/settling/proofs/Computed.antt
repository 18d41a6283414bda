-- From tests that compute over a concrete list of calls to what demand 3 supposes of it, and to too few rounds.
-- Assumes nothing.
use mathlib.Core.Path.{◌≡◌, ◌∙◌}
use mathlib.Core.Bool.{Bool, true, false, not, ◌&&◌, and_comm}
use mathlib.Core.List.{List, [], ◌∷◌}
use Prim.Native.Nat.{ℕ, ◌+◌, ◌-◌, ◌<◌, ◌≤◌}
use native.Mathlib.Omega.{arith}
use lib.Dec.{ltb, leb}
use lib.ListN.{length, get_or}
use borrow.Author.Tests.{lt-ltb, le-leb, not-true, not-false}
use Rattle.ancestors.proofs.Cases.{and_both}
use Rattle.network.specs.Network.{Net, Within}
use Rattle.network.specs.Round.{Marks, some}
use Rattle.network.proofs.Limits.{within_arc}
use Rattle.network.proofs.Marking.{some_not, some_find}
use Rattle.settling.specs.Calls.{Call, called, accepted, alters, after, Stretch, end, step, rounds, unmarked, HeardWithin, Supposed, at_end, rounds_heard}
use Rattle.settling.specs.Bounds.{TooFew}

-- no change or grade call is accepted
unfoldable pub still : Net → List Call → Bool
still x [] = true
still x (c ∷ cs) = not (alters c && accepted x c) && still (called x c).net cs

pub stretch_by : (x : Net) (cs : List Call) → still x cs ≡ true → Stretch x cs
unfolding still
stretch_by x [] e = end
stretch_by x (c ∷ cs) e =
    let k = and_both (not (alters c && accepted x c)) (still (called x c).net cs) e in
    step (and_comm (accepted x c) (alters c) ∙ not-true (alters c && accepted x c) k.0) (stretch_by (called x c).net cs k.1)

-- the arc from s to r is not heard in the W rounds from the i-th on
unfoldable pub unheard : ℕ → List Marks → ℕ → ℕ → ℕ → Bool
unheard W ms s r i = leb (i + W) (length ms) && not (some (λ j. get_or ms (i + j) unmarked s r) W)

-- some arc among n nodes is not heard in some W successive rounds
unfoldable pub missed : ℕ → ℕ → (ℕ → ℕ → ℕ) → List Marks → Bool
missed n W cost ms = some (λ s. some (λ r. ltb 0 (cost s r) && some (unheard W ms s r) (length ms)) n) n

module _ (n W : ℕ) (cost : ℕ → ℕ → ℕ) (ms : List Marks) (positive : 1 ≤ W) (nodes : (s r : ℕ) → 0 < cost s r → (s < n) × (r < n)) where
  window_heard : (s r i : ℕ) → i + W ≤ length ms → unheard W ms s r i ≡ false → (j : ℕ) × (i ≤ j) × (j < i + W) × (get_or ms j unmarked s r ≡ true)
  unfolding unheard
  window_heard s r i h e =
      let t : not (some (λ j. get_or ms (i + j) unmarked s r) W) ≡ false = rw (le-leb (i + W) (length ms) h) at e in
      let b = some_find (λ j. get_or ms (i + j) unmarked s r) W (not-false (some (λ j. get_or ms (i + j) unmarked s r) W) t) in
      (i + b.0, omega arith, omega (arith, b.1), b.2)

  pub heard_by : missed n W cost ms ≡ false → HeardWithin W cost ms
  unfolding missed
  heard_by e s r i arc h =
      let ends = nodes s r arc in
      let senders = some_not (λ s. some (λ r. ltb 0 (cost s r) && some (unheard W ms s r) (length ms)) n) n s e ends.0 in
      let pair = some_not (λ r. ltb 0 (cost s r) && some (unheard W ms s r) (length ms)) n r senders ends.1 in
      let windows : some (unheard W ms s r) (length ms) ≡ false = rw (lt-ltb 0 (cost s r) arc) at pair in
      window_heard s r i h (some_not (unheard W ms s r) (length ms) i windows (omega arith))

-- both tests give what demand 3 supposes
pub supposed_by : (x : Net) (before stretch : List Call) (W : ℕ) → 1 ≤ W → Within (after x before) → still (after x before) stretch ≡ true →
    missed (after x before).nodes W (after x before).cost (rounds (after x before) stretch) ≡ false → Supposed x before stretch W
supposed_by x before stretch W positive w a b =
    record {
      positive = positive;
      still = stretch_by (after x before) stretch a;
      heard = heard_by (after x before).nodes W (after x before).cost (rounds (after x before) stretch) positive
          (λ s r arc. let e = within_arc (after x before) w s r arc in (e.0, e.1)) b;
    }

-- and with one round less than a bound, after which a promise does not hold, too few
pub too_few_by : (bound : ℕ → ℕ → ℕ) (Promise : Net → Type 0) (x : Net) (stretch : List Call) (W : ℕ) → 1 ≤ W → Within x →
    still x stretch ≡ true → missed x.nodes W x.cost (rounds x stretch) ≡ false → rounds_heard x [] stretch ≡ bound x.nodes W - 1 →
    (Promise (at_end x [] stretch) → ⊥) → TooFew bound Promise x [] stretch W
unfolding after
too_few_by bound Promise x stretch W positive within a b count fails =
    record { within = within; supposed = supposed_by x [] stretch W positive within a b; count = count; fails = fails }
