-- Document 01, "The network": rows, held reports, networks, the fresh network, and the limits.
-- Assumes nothing.
use Rattle.std.specs.Prelude.{◌≡◌, false, cond, ◌&&◌, ℕ, ◌<◌, ◌≤◌, eqb}
use Rattle.ancestors.specs.Ancestors.{own}
use Rattle.network.specs.Faults.{max_cost, size_fault, node_fault, pair_fault_of, row_fault_of, report_fault_of}

-- a node's row: no route; the origin's, of label 0 and no predecessor, with its list; or label, predecessor and list
pub data Row : Type 0 where
  none : Row
  root : ℕ → Row
  via : ℕ → ℕ → ℕ → Row

-- a held report: empty, or label and list
pub data Report : Type 0 where
  empty : Report
  told : ℕ → ℕ → Report

-- what no call on a network changes
pub record Frame : Type 0 where
  pub nodes : ℕ
  pub origin : ℕ

-- a network; costs and held reports go by sender, then receiver, and cost 0 is no arc
pub record Net : Type 0 where
  pub nodes : ℕ
  pub origin : ℕ
  pub cost : ℕ → ℕ → ℕ
  pub row : ℕ → Row
  pub held : ℕ → ℕ → Report

-- f with the value v at y
unfoldable pub set_at : {A : Type 0} → (ℕ → A) → ℕ → A → ℕ → A
set_at f y v a = cond (eqb a y) v (f a)

-- f with the value v at the pair s, r
unfoldable pub set_pair : {A : Type 0} → (ℕ → ℕ → A) → ℕ → ℕ → A → ℕ → ℕ → A
set_pair f s r v a b = cond (eqb a s && eqb b r) v (f a b)

-- x with other costs, rows or held reports
abbrev pub with_costs : Net → (ℕ → ℕ → ℕ) → Net
with_costs x f = record { nodes = x.nodes; origin = x.origin; cost = f; row = x.row; held = x.held }

abbrev pub with_rows : Net → (ℕ → Row) → Net
with_rows x f = record { nodes = x.nodes; origin = x.origin; cost = x.cost; row = f; held = x.held }

abbrev pub with_reports : Net → (ℕ → ℕ → Report) → Net
with_reports x f = record { nodes = x.nodes; origin = x.origin; cost = x.cost; row = x.row; held = f }

-- x with another cost, row or held report
unfoldable pub with_cost : Net → ℕ → ℕ → ℕ → Net
with_cost x s r c = with_costs x (set_pair x.cost s r c)

unfoldable pub with_row : Net → ℕ → Row → Net
with_row x y w = with_rows x (set_at x.row y w)

unfoldable pub with_held : Net → ℕ → ℕ → Report → Net
with_held x s r h = with_reports x (set_pair x.held s r h)

-- what a call answers and leaves: a number, 0 where it is accepted, and the network after it
pub record Outcome : Type 0 where
  pub number : ℕ
  pub net : Net

-- accepted, the call gives the network next; refused, it leaves x
unfoldable pub outcome : ℕ → Net → Net → Outcome
outcome k next x = record { number = k; net = cond (eqb k 0) next x }

-- ---- the fresh network

-- no arcs, and no routes but the origin's
unfoldable pub fresh_net : ℕ → ℕ → Net
fresh_net n origin =
    record {
      nodes = n;
      origin = origin;
      cost = λ s r. 0;
      row = λ y. cond (eqb y origin) (root (own origin)) none;
      held = λ s r. empty;
    }

-- 3 for bad numbers
unfoldable pub fresh_number : ℕ → ℕ → ℕ
fresh_number n origin = cond (size_fault n origin) 3 0

-- refused, the call gives the fresh network of one node
unfoldable pub fresh_of : ℕ → ℕ → Outcome
fresh_of n origin = outcome (fresh_number n origin) (fresh_net n origin) (fresh_net 1 0)

-- ---- within limits
pub record Within (x : Net) : Type 0 where
  -- n is 1 to 32, and the origin is below n
  pub size : size_fault x.nodes x.origin ≡ false
  -- an arc is an ordered pair of different nodes
  pub arc_pair : (s r : ℕ) → 0 < x.cost s r → pair_fault_of x.nodes s r ≡ false
  -- with a cost of at most 65,535
  pub arc_cost : (s r : ℕ) → x.cost s r ≤ max_cost
  -- the origin's row is always label 0, no predecessor, its own bit
  pub origin_row : x.row x.origin ≡ root (own x.origin)
  -- and no other node has such a row
  pub origin_only : (y l : ℕ) → x.row y ≡ root l → y ≡ x.origin
  -- a row with a route is a node's
  pub row_node : (y d p l : ℕ) → x.row y ≡ via d p l → node_fault x.nodes y ≡ false
  -- and has no fault listed under 5
  pub row_form : (y d p l : ℕ) → x.row y ≡ via d p l → row_fault_of x.nodes x.origin y d p l ≡ false
  -- nor has a held report, so that a pair without an arc holds none
  pub report_form : (s r d l : ℕ) → x.held s r ≡ told d l → report_fault_of x.nodes (x.cost s r) s d l ≡ false
