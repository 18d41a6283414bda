-- The route call by its cases: its number, and what it writes.
-- Assumes nothing.
use mathlib.Core.Path.{◌≡◌}
use mathlib.Core.Bool.{true, false}
use mathlib.Core.Logic.{◌≢◌}
use mathlib.Core.List.{List, ◌++◌}
use Prim.Native.Nat.{ℕ, ◌<◌, ◌≤◌}
use lib.ListN.{length, drop}
use borrow.Author.Tests.{lt-ltb, le-ltb, ne_eqb}
use Rattle.network.specs.Faults.{node_fault, first_number}
use Rattle.network.specs.Network.{Net}
use Rattle.network.specs.Route.{broken, reached, walk_back_of, route_nodes, unrouted, start_number_of, walk_number, route_number, route_of}
use Rattle.network.proofs.Effects.{writing_refused, writing_accepted}

-- ---- the number

module _ (x : Net) (y room : ℕ) where
  -- before the walk
  pub route_start : start_number_of x y ≢ 0 → route_number x y room ≡ start_number_of x y
  unfolding route_number first_number
  route_start h = rw (ne_eqb (start_number_of x y) 0 h)

  pub route_three : node_fault x.nodes y ≡ true → route_number x y room ≡ 3
  unfolding route_number start_number_of first_number
  route_three f = rw f

  pub route_eight : node_fault x.nodes y ≡ false → unrouted (x.row y) ≡ true → route_number x y room ≡ 8
  unfolding route_number start_number_of first_number
  route_eight f u = rw (f, u)

  -- after it
  module _ (passed : start_number_of x y ≡ 0) where
    pub route_nine : walk_back_of x y ≡ broken → route_number x y room ≡ 9
    unfolding route_number first_number walk_number
    route_nine w = rw (passed, w)

    module _ (route : List ℕ) (w : walk_back_of x y ≡ reached route) where
      pub route_six : room < length route → route_number x y room ≡ 6
      unfolding route_number first_number walk_number
      route_six h = rw (passed, w, lt-ltb room (length route) h)

      pub route_free : length route ≤ room → route_number x y room ≡ 0
      unfolding route_number first_number walk_number
      route_free h = rw (passed, w, le-ltb room (length route) h)

-- ---- what is written

module _ (x : Net) (y : ℕ) (out : List ℕ) where
  pub route_refused : (k : ℕ) → route_number x y (length out) ≡ k → k ≢ 0 → route_of x y out ≡ record { number = k; used = 0; output = out }
  unfolding route_of
  route_refused k e h = rw e (writing_refused k (route_nodes (walk_back_of x y)) out h)

  pub route_written : (route : List ℕ) → route_number x y (length out) ≡ 0 → walk_back_of x y ≡ reached route →
      route_of x y out ≡ record { number = 0; used = length route; output = route ++ drop (length route) out }
  unfolding route_of route_nodes
  route_written route e w = rw (e, w) (writing_accepted route out)
