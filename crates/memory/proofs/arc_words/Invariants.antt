-- `memory::arc_words` meets its contract. The loop's invariant: the words of the nodes passed are their arcs.
-- Assumes nothing.
use Prim.Native.Nat.{ℕ, ◌-◌, ◌<◌, ◌≤◌}
use mathlib.Core.Path.{◌≡◌}
use mathlib.Core.List.{List}
use lib.ListN.{length, get_or}
use Rattle.network.specs.Network.{Net}
use Rattle.network.specs.Arcs.{arcs_to}
use Rattle.memory.specs.Layout.{view}
use Rattle.memory.proofs.arc_words.Given as goal

-- the arcs of the nodes below r, in their places, and nothing from r on
abbrev pub Passed : Net → List ℕ → ℕ → Type 0
Passed x words r = ((k : ℕ) → k < r → get_or words k 0 ≡ arcs_to x k) × ((k : ℕ) → r ≤ k → k < 32 → get_or words k 0 ≡ 0)

abbrev pub invariant-loop-r : goal.invariant-loop-r
invariant-loop-r l = Passed (view l.net) l.words l.r × (length l.words ≡ 32) × (l.r ≤ l.n) × (l.n ≤ 32)

abbrev pub decreases-loop-r : goal.decreases-loop-r
decreases-loop-r l = l.n - l.r
