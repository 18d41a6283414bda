-- `bench::put_metrics` meets its contract. The loops' invariant: what is in the places passed stands from the third word on.
-- Assumes nothing.
use Prim.Native.Nat.{ℕ, ◌+◌, ◌≤◌}
use mathlib.Core.List.{List}
use lib.ListN.{length, set, take}
use Rattle.filling.specs.Filling.{Added}
use Rattle.bench.specs.Handed.{places}
use Rattle.bench.proofs.put_metrics.Given as goal

-- the words out after the first two, of which y places are filled
abbrev Placed : List ℕ → List ℕ → List ℕ → ℕ → Type 0
Placed ms e out y = Added (take y (places ms)) (set (set e 0 0) 1 (length ms)) out 2 (y + 2)

abbrev pub invariant-loop-y : goal.invariant-loop-y
invariant-loop-y l = Placed l.metrics l.fn.out l.out l.y

abbrev pub invariant-loop-y-2 : goal.invariant-loop-y-2
invariant-loop-y-2 l = Placed l.metrics l.fn.out l.out l.y × (length l.metrics ≤ l.y)
