-- Document 01, "Records": a row or a report of an image, placed in a network. Order (4) stands between 3 and the numbers of form and is the
-- reader's.
-- Assumes nothing.
use Rattle.std.specs.Prelude.{cond, ℕ}
use Rattle.network.specs.Faults.{node_fault, pair_fault_of, row_form_number, report_form_number}
use Rattle.network.specs.Network.{via, told, Net, with_row, with_held, Outcome, outcome}

-- a row: 3 for a node not below n, then the number of its form
unfoldable pub place_row_number : Net → ℕ → ℕ → ℕ → ℕ → ℕ
place_row_number x y d p l = cond (node_fault x.nodes y) 3 (row_form_number x.nodes x.origin y d p l)

-- accepted, y has that row
unfoldable pub place_row_of : Net → ℕ → ℕ → ℕ → ℕ → Outcome
place_row_of x y d p l = outcome (place_row_number x y d p l) (with_row x y (via d p l)) x

-- a report: 3 for a bad pair, then the number of its form
unfoldable pub place_report_number : Net → ℕ → ℕ → ℕ → ℕ → ℕ
place_report_number x s r d l = cond (pair_fault_of x.nodes s r) 3 (report_form_number x.nodes (x.cost s r) s d l)

-- accepted, the arc holds that report
unfoldable pub place_report_of : Net → ℕ → ℕ → ℕ → ℕ → Outcome
place_report_of x s r d l = outcome (place_report_number x s r d l) (with_held x s r (told d l)) x
