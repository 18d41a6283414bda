-- What it says in numbers that a network is within limits, and its limits in parts.
-- Assumes nothing.
use mathlib.Core.Path.{◌≡◌}
use mathlib.Core.Bool.{true, false}
use mathlib.Core.Logic.{◌≢◌}
use Prim.Native.Nat.{ℕ, ◌^◌, ◌<◌, ◌≤◌}
use Rattle.ancestors.specs.Ancestors.{has, own}
use Rattle.network.specs.Faults.{max_cost, max_label, node_fault, pair_fault_of, row_fault_of, report_fault_of}
use Rattle.network.specs.Network.{Row, root, via, Report, told, Net, Within}
use Rattle.network.proofs.Effects.{Stays, nodes_stay, origin_stay}
use Rattle.network.proofs.FaultLaws.{size_says, node_says, pair_says, row_says, report_says}

pub within_size : (x : Net) → Within x → (1 ≤ x.nodes) × (x.nodes ≤ 32) × (x.origin < x.nodes)
within_size x w = size_says x.nodes x.origin w.size

-- an arc leads from one node to another
pub within_arc : (x : Net) → Within x → (s r : ℕ) → 0 < x.cost s r → (s < x.nodes) × (r < x.nodes) × (s ≢ r)
within_arc x w s r h = pair_says x.nodes s r (w.arc_pair s r h)

-- y's row of label d, predecessor p and list l
pub record RowWithin (x : Net) (y d p l : ℕ) : Type 0 where
  pub node : y < x.nodes
  pub relay : y ≢ x.origin
  pub positive : 0 < d
  pub label : d ≤ max_label
  pub below : p < x.nodes
  pub other : p ≢ y
  pub bits : l < 2 ^ x.nodes
  pub own : has l y ≡ true

pub within_row : (x : Net) → Within x → (y d p l : ℕ) → x.row y ≡ via d p l → RowWithin x y d p l
within_row x w y d p l e =
    let f = row_says x.nodes x.origin y d p l (w.row_form y d p l e) in
    record {
      node = node_says x.nodes y (w.row_node y d p l e);
      relay = f.relay;
      positive = f.positive;
      label = f.label;
      below = f.below;
      other = f.other;
      bits = f.bits;
      own = f.own;
    }

-- the report of label d and list l that the arc from s to r holds
pub record ReportWithin (x : Net) (s r d l : ℕ) : Type 0 where
  pub arc : 0 < x.cost s r
  pub label : d ≤ max_label
  pub bits : l < 2 ^ x.nodes
  pub own : has l s ≡ true

pub within_report : (x : Net) → Within x → (s r d l : ℕ) → x.held s r ≡ told d l → ReportWithin x s r d l
within_report x w s r d l e =
    let f = report_says x.nodes (x.cost s r) s d l (w.report_form s r d l e) in
    record { arc = f.arc; label = f.label; bits = f.bits; own = f.own }

-- ---- the limits in parts: of arcs, of rows and of held reports

pub record ArcLimits (n : ℕ) (cost : ℕ → ℕ → ℕ) : Type 0 where
  pub pair : (s r : ℕ) → 0 < cost s r → pair_fault_of n s r ≡ false
  pub small : (s r : ℕ) → cost s r ≤ max_cost

pub record RowLimits (n o : ℕ) (row : ℕ → Row) : Type 0 where
  pub origin_row : row o ≡ root (own o)
  pub origin_only : (y l : ℕ) → row y ≡ root l → y ≡ o
  pub node : (y d p l : ℕ) → row y ≡ via d p l → node_fault n y ≡ false
  pub form : (y d p l : ℕ) → row y ≡ via d p l → row_fault_of n o y d p l ≡ false

abbrev pub ReportLimits : ℕ → (ℕ → ℕ → ℕ) → (ℕ → ℕ → Report) → Type 0
ReportLimits n cost held = (s r d l : ℕ) → held s r ≡ told d l → report_fault_of n (cost s r) s d l ≡ false

-- a network within limits has them
pub arc_limits : {x : Net} → Within x → ArcLimits x.nodes x.cost
arc_limits w = record { pair = w.arc_pair; small = w.arc_cost }

pub row_limits : {x : Net} → Within x → RowLimits x.nodes x.origin x.row
row_limits w = record { origin_row = w.origin_row; origin_only = w.origin_only; node = w.row_node; form = w.row_form }

-- and one that has them, with the frame of a network within limits, is within limits
pub within_by : (x z : Net) → Within x → Stays x z → ArcLimits x.nodes z.cost → RowLimits x.nodes x.origin z.row →
    ReportLimits x.nodes z.cost z.held → Within z
within_by x z w e a r h =
    let n = nodes_stay e in
    let o = origin_stay e in
    record {
      size = rw (n, o) w.size;
      arc_pair = λ s t k. rw n (a.pair s t k);
      arc_cost = a.small;
      origin_row = rw o r.origin_row;
      origin_only = λ y l q. rw o (r.origin_only y l q);
      row_node = λ y d p l q. rw n (r.node y d p l q);
      row_form = λ y d p l q. rw (n, o) (r.form y d p l q);
      report_form = λ s t d l q. rw n (h s t d l q);
    }
