-- The records of an image by node and by pair of nodes, all of a kind, and all but the first.
-- Assumes nothing.
use Rattle.std.specs.Prelude.{cond, List, [], ◌++◌, ℕ}
use Rattle.network.specs.Faults.{node_fault, pair_fault_of}
use Rattle.network.specs.Network.{Net}
use Rattle.records.specs.Records.{end_record}
use Rattle.records.specs.Image.{each, arc_bytes, row_bytes, report_bytes}

-- the record of x's arc from s to r, of y's row, and of the report from s to r; none where x has none
unfoldable pub arc_at : Net → ℕ → ℕ → List ℕ
arc_at x s r = cond (pair_fault_of x.nodes s r) [] (arc_bytes s r (x.cost s r))

unfoldable pub row_at : Net → ℕ → List ℕ
row_at x y = cond (node_fault x.nodes y) [] (row_bytes y (x.row y))

unfoldable pub report_at : Net → ℕ → ℕ → List ℕ
report_at x s r = cond (pair_fault_of x.nodes s r) [] (report_bytes s r (x.held s r))

-- all of x's arcs, its rows and its reports
abbrev pub all_arcs : Net → List ℕ
all_arcs x = each (λ s. each (arc_at x s) 0 x.nodes) 0 x.nodes

abbrev pub all_rows : Net → List ℕ
all_rows x = each (row_at x) 0 x.nodes

abbrev pub all_reports : Net → List ℕ
all_reports x = each (λ s. each (report_at x s) 0 x.nodes) 0 x.nodes

-- an image without its first record
unfoldable pub rest_of : Net → List ℕ
rest_of x = all_arcs x ++ ((all_rows x ++ all_reports x) ++ end_record)
