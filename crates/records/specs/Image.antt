-- Document 01, "Records": the image of a network, and image writing.
-- Assumes nothing.
use Rattle.std.specs.Prelude.{cond, List, [], ◌++◌, ℕ, zero, suc, ◌+◌, ◌*◌, ◌-◌, eqb, ltb, length}
use Rattle.network.specs.Faults.{max_nodes, node_fault, pair_fault_of}
use Rattle.network.specs.Network.{Row, none, root, via, Report, empty, told, Net}
use Rattle.network.specs.Writing.{Writing, writing}
use Rattle.records.specs.Records.{record_length, end_record, header_record_of, arc_record_of, row_record_of, report_record_of}

-- the bytes f k, f (k + 1) and on, of d numbers, one after another
unfoldable pub each : (ℕ → List ℕ) → ℕ → ℕ → List ℕ
each f k zero = []
each f k (suc d) = f k ++ each f (suc k) d

-- the record of an arc of cost c, if there is one
unfoldable pub arc_bytes : ℕ → ℕ → ℕ → List ℕ
arc_bytes s r c = cond (eqb c 0) [] (arc_record_of s r c)

-- the record of a row, if it has a route and is not the origin's
unfoldable pub row_bytes : ℕ → Row → List ℕ
row_bytes y none = []
row_bytes y (root l) = []
row_bytes y (via d p l) = row_record_of y d p l

-- the record of a held report, if it is not empty
unfoldable pub report_bytes : ℕ → ℕ → Report → List ℕ
report_bytes s r empty = []
report_bytes s r (told d l) = report_record_of s r d l

-- over the nodes of x, ascending
unfoldable pub by_node : Net → (ℕ → List ℕ) → List ℕ
by_node x f = each (λ y. cond (node_fault x.nodes y) [] (f y)) 0 max_nodes

-- over the ordered pairs of different nodes of x, ascending by sender then receiver
unfoldable pub by_pair : Net → (ℕ → ℕ → List ℕ) → List ℕ
by_pair x f = each (λ s. each (λ r. cond (pair_fault_of x.nodes s r) [] (f s r)) 0 max_nodes) 0 max_nodes

-- an image is kind 1, all arcs, all rows with a route except the origin's, all non-empty held reports, kind 0
unfoldable pub image : Net → List ℕ
image x =
    header_record_of x.nodes x.origin ++
    (by_pair x (λ s r. arc_bytes s r (x.cost s r)) ++
    (by_node x (λ y. row_bytes y (x.row y)) ++
    (by_pair x (λ s r. report_bytes s r (x.held s r)) ++ end_record)))

-- ---- the largest image

-- how many ordered pairs of different nodes the most nodes have
abbrev pub max_pairs : ℕ
max_pairs = max_nodes * (max_nodes - 1)

-- the bytes of an image of the header, an arc and a report for each pair, so many rows, and the end
unfoldable pub full_image : ℕ → ℕ
full_image rows =
    record_length 1 +
    (max_pairs * record_length 2 +
    (rows * record_length 3 +
    (max_pairs * record_length 4 + record_length 0)))

-- the most bytes of an image: a row for each node but the origin
unfoldable pub max_image : ℕ
max_image = full_image (max_nodes - 1)

-- ---- image writing

-- 6 for an output shorter than the image
unfoldable pub image_number : Net → ℕ → ℕ
image_number x room = cond (ltb room (length (image x))) 6 0

-- accepted, the image
unfoldable pub image_of : Net → List ℕ → Writing
image_of x out = writing (image_number x (length out)) (image x) out
