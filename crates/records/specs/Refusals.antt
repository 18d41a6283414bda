-- Request Two, stated: a record of an image is refused exactly where it was before.
-- Assumes nothing.
use Rattle.std.specs.Prelude.{◌≡◌, cond, ℕ}
use Rattle.network.specs.Faults.{node_fault, pair_fault_of, row_fault_of, report_fault_of, first_number}
use Rattle.network.specs.Form.{as_before}
use Rattle.network.specs.Network.{Net}
use Rattle.records.specs.Opening.{row_rank, report_rank, order_number, row_number_of, report_number_of}

pub record RefusedAsBefore : Type 0 where
  -- a row, before: 3, then 4, then 5 for a fault of form
  pub row : (x : Net) (next y d p l : ℕ) → as_before (row_number_of x next y d p l) ≡
      first_number (cond (node_fault x.nodes y) 3 0) (first_number (order_number next (row_rank y)) (cond (row_fault_of x.nodes x.origin y d p l) 5 0))
  -- a report, before: 3, then 4, then 5 for a fault of form
  pub report : (x : Net) (next s r d l : ℕ) → as_before (report_number_of x next s r d l) ≡
      first_number (cond (pair_fault_of x.nodes s r) 3 0) (first_number (order_number next (report_rank s r)) (cond (report_fault_of x.nodes (x.cost s r) s d l) 5 0))
