-- What the calls answer: number and values of each answer, and the memory after a call.
-- Assumes nothing.
use Rattle.std.specs.Prelude.{◌≡◌, cond, List, Option, Some, None, Result, Ok, Err, ℕ}
use Rattle.ancestors.specs.Ancestors.{hops}
use Rattle.network.specs.Faults.{node_fault, pair_fault_of}
use Rattle.network.specs.Network.{Row, none, root, via, Report, empty, told, Net, Outcome}
use Rattle.network.specs.Arcs.{arcs_to}
use Rattle.memory.specs.Layout.{view}
use Rattle.network.specs.Answered.{fault_number}
use Rattle.network.specs.declared.Fault.{Fault}
use Rattle.network.specs.declared.HeldReport.{HeldReport}
use Rattle.memory.specs.declared.RowRead.{RowRead}
use Rattle.memory.specs.declared.RowRead.TheVariants as R

-- the call answered k and left the words `exit` where `entry` stood; refused, they are the same
pub record Leaves (o : Outcome) (k : ℕ) (entry exit : List ℕ) : Type 0 where
  pub number : k ≡ o.number
  pub net : view exit ≡ o.net
  pub same : (k ≡ 0 → ⊥) → exit ≡ entry

-- the call answered k and the words
pub record Starts (o : Outcome) (k : ℕ) (words : List ℕ) : Type 0 where
  pub number : k ≡ o.number
  pub net : view words ≡ o.net

-- ---- a row as it is read: number, row, hops

pub record RowAnswer : Type 0 where
  pub number : ℕ
  pub row : Row
  pub hops : ℕ

-- hops are the number of ones in the list less one
unfoldable pub row_hops : Row → ℕ
row_hops none = 0
row_hops (root l) = hops l
row_hops (via d p l) = hops l

-- 3 for a node not below n
unfoldable pub read_row : Net → ℕ → RowAnswer
read_row x y =
    cond (node_fault x.nodes y) (record { number = 3; row = none; hops = 0 }) (record { number = 0; row = x.row y; hops = row_hops (x.row y) })

-- number, row and hops of each answer
unfoldable pub row_means : Result RowRead Fault → RowAnswer
row_means (Err f) = record { number = fault_number f; row = none; hops = 0 }
row_means (Ok R.NoRoute) = record { number = 0; row = none; hops = 0 }
row_means (Ok (R.Origin l h)) = record { number = 0; row = root l; hops = h }
row_means (Ok (R.Relay w h)) = record { number = 0; row = via w.label w.predecessor w.list; hops = h }

-- ---- an arc's cost as it is read, 0 where there is none

pub record CostAnswer : Type 0 where
  pub number : ℕ
  pub cost : ℕ

-- 3 for a node not below n, or sender equal to receiver
unfoldable pub read_cost : Net → ℕ → ℕ → CostAnswer
read_cost x s r = cond (pair_fault_of x.nodes s r) (record { number = 3; cost = 0 }) (record { number = 0; cost = x.cost s r })

-- the number and the cost of each answer
unfoldable pub cost_means : Result ℕ Fault → CostAnswer
cost_means (Ok c) = record { number = 0; cost = c }
cost_means (Err f) = record { number = fault_number f; cost = 0 }

-- ---- a receiver's arcs as a word

pub record ArcsAnswer : Type 0 where
  pub number : ℕ
  pub arcs : ℕ

-- 3 for a receiver not below n
unfoldable pub read_arcs : Net → ℕ → ArcsAnswer
read_arcs x r = cond (node_fault x.nodes r) (record { number = 3; arcs = 0 }) (record { number = 0; arcs = arcs_to x r })

-- the number and the word of each answer
unfoldable pub arcs_means : Result ℕ Fault → ArcsAnswer
arcs_means (Ok w) = record { number = 0; arcs = w }
arcs_means (Err f) = record { number = fault_number f; arcs = 0 }

-- ---- a held report as it is read

pub record HeldAnswer : Type 0 where
  pub number : ℕ
  pub held : Report

-- 3 for a node not below n, or sender equal to receiver
unfoldable pub read_held_of : Net → ℕ → ℕ → HeldAnswer
read_held_of x s r = cond (pair_fault_of x.nodes s r) (record { number = 3; held = empty }) (record { number = 0; held = x.held s r })

-- number and report of each answer
unfoldable pub held_means : Result (Option HeldReport) Fault → HeldAnswer
held_means (Err f) = record { number = fault_number f; held = empty }
held_means (Ok None) = record { number = 0; held = empty }
held_means (Ok (Some h)) = record { number = 0; held = told h.label h.list }
