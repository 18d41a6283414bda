-- The front of a list: numbers that a pattern can name, so that stores at literal places compute.
-- Assumes nothing.
use mathlib.Core.List.{List, [], ◌∷◌}
use Prim.Native.Nat.{ℕ, zero, suc, ◌≤◌}
use native.Mathlib.Omega.{arith}
use lib.ListN.{length}

-- a list of at least k numbers
pub data Front : ℕ → List ℕ → Type 0 where
  none : {e : List ℕ} → Front zero e
  more : {k a : ℕ} {e : List ℕ} → Front k e → Front (suc k) (a ∷ e)

pub front : (k : ℕ) (e : List ℕ) → k ≤ length e → Front k e
front zero e h = none
front (suc k) [] h = absurd (omega arith)
front (suc k) (a ∷ e) h = more (front k e (omega arith))
