-- Document 01, the route call of "Records": the nodes from the origin to a named node, by following predecessors back.
-- Assumes nothing.
use Rattle.std.specs.Prelude.{◌≡◌, Bool, true, false, cond, ℕ, zero, suc, ◌<◌, ◌≤◌, ltb, length}
use mathlib.Core.List.{List, [], ◌∷◌, ◌++◌, Memᴰ}
use Rattle.ancestors.specs.Ancestors.{has, put}
use Rattle.network.specs.Faults.{max_nodes, node_fault, first_number}
use Rattle.network.specs.Network.{Row, none, root, via, Net}
use Rattle.network.specs.Writing.{Writing, writing}

-- y's row; what is not a node has no route
unfoldable pub route_row : Net → ℕ → Row
route_row x y = cond (node_fault x.nodes y) none (x.row y)

-- the walk along predecessors: it reached the origin over these nodes, the origin first, or it met a node without a route or one already met
pub data Walked : Type 0 where
  broken : Walked
  reached : List ℕ → Walked

-- the walk at y, whose row is given: it goes on at the predecessor
unfoldable pub walk_at : (ℕ → Walked) → ℕ → List ℕ → Row → Walked
walk_at onward y route none = broken
walk_at onward y route (root l) = reached (y ∷ route)
walk_at onward y route (via d p l) = onward p

-- the walk from y on, over at most k nodes; `met` lists the nodes met before y, and `route` leads from there to the named node
unfoldable pub walk : ℕ → Net → ℕ → ℕ → List ℕ → Walked
walk zero x y met route = broken
walk (suc k) x y met route = cond (has met y) broken (walk_at (λ p. walk k x p (put met y) (y ∷ route)) y route (route_row x y))

-- the walk back from a named node; no walk meets more than the most nodes without meeting one twice
unfoldable pub walk_back_of : Net → ℕ → Walked
walk_back_of x y = walk max_nodes x y 0 []

-- the nodes of a walk that reached the origin
unfoldable pub route_nodes : Walked → List ℕ
route_nodes broken = []
route_nodes (reached route) = route

-- a row without a route
unfoldable pub unrouted : Row → Bool
unrouted none = true
unrouted (root l) = false
unrouted (via d p l) = false

-- before the walk: 3 for a node not below n, then 8 for a node without a route
unfoldable pub start_number_of : Net → ℕ → ℕ
start_number_of x y = cond (node_fault x.nodes y) 3 (cond (unrouted (x.row y)) 8 0)

-- then 9 for a walk that does not reach the origin, then 6 for an output shorter than the route
unfoldable pub walk_number : ℕ → Walked → ℕ
walk_number room broken = 9
walk_number room (reached route) = cond (ltb room (length route)) 6 0

-- for a route: 3, 8, 9, 6
unfoldable pub route_number : Net → ℕ → ℕ → ℕ
route_number x y room = first_number (start_number_of x y) (walk_number room (walk_back_of x y))

-- accepted, the nodes from the origin to y, one byte each
unfoldable pub route_of : Net → ℕ → List ℕ → Writing
route_of x y out = writing (route_number x y (length out)) (route_nodes (walk_back_of x y)) out

-- ---- the walk with no bound on its nodes

-- the walk from y, with the nodes met before and the route from there on, comes to w
pub data Walks (x : Net) : ℕ → ℕ → List ℕ → Walked → Type 0 where
  -- at a node already met
  again : {y met : ℕ} {route : List ℕ} → has met y ≡ true → Walks x y met route broken
  -- at a node without a route
  lost : {y met : ℕ} {route : List ℕ} → has met y ≡ false → route_row x y ≡ none → Walks x y met route broken
  -- at the origin
  arrived : {y met : ℕ} {route : List ℕ} (l : ℕ) → has met y ≡ false → route_row x y ≡ root l → Walks x y met route (reached (y ∷ route))
  -- by way of the predecessor
  onward : {y met : ℕ} {route : List ℕ} {w : Walked} (d p l : ℕ) → has met y ≡ false → route_row x y ≡ via d p l →
      Walks x p (put met y) (y ∷ route) w → Walks x y met route w

-- ---- what a route is

-- a route to y: it begins at a node with the origin's row, ends with y, and has at most n nodes, all below n
pub record RouteTo (x : Net) (y : ℕ) (route : List ℕ) : Type 0 where
  pub first : (o l : ℕ) × (rest : List ℕ) × (route ≡ o ∷ rest) × (x.row o ≡ root l)
  pub last : (front : List ℕ) × (route ≡ front ++ y ∷ [])
  pub short : length route ≤ x.nodes
  pub below : (a : ℕ) → Memᴰ a route → a < x.nodes
