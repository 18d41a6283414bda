-- The record at each rank of image order, ranks 0 to 2,079: arcs, rows, reports. An image is these records one after another.
-- Assumes nothing.
use mathlib.Core.Path.{◌≡◌, refl, sym, ap, ◌∙◌}
use mathlib.Core.Bool.{cond}
use mathlib.Core.List.{List, [], ◌++◌, append_assoc}
use Prim.Native.Nat.{ℕ, ◌+◌, ◌-◌, ◌/◌, ◌%◌, ◌<◌}
use native.Mathlib.Omega.{arith}
use lib.Dec.{ltb}
use borrow.Author.Tests.{lt-ltb, le-ltb}
use Rattle.network.specs.Faults.{pair_count, max_nodes, node_fault, pair_fault_of}
use Rattle.network.specs.Network.{Net}
use Rattle.records.specs.Records.{end_record, header_record_of}
use Rattle.records.specs.Image.{each, arc_bytes, row_bytes, report_bytes, by_node, by_pair, image}
use Rattle.records.specs.Opening.{first_row, first_report, rank_count}
use Rattle.records.proofs.Each.{each_same, each_split, each_shift, each_pair}

-- f of the pair numbered k, by sender then receiver, if it is one of different nodes
unfoldable pub of_pair : ℕ → (ℕ → ℕ → List ℕ) → ℕ → List ℕ
of_pair n f k = cond (pair_fault_of n (k / 32) (k % 32)) [] (f (k / 32) (k % 32))

-- f of y, if it is a node
unfoldable pub of_node : ℕ → (ℕ → List ℕ) → ℕ → List ℕ
of_node n f y = cond (node_fault n y) [] (f y)

-- the bytes of the record of rank k, none where the network has no such record
unfoldable pub rank_bytes : Net → ℕ → List ℕ
rank_bytes x k =
    cond (ltb k first_row) (of_pair x.nodes (λ s r. arc_bytes s r (x.cost s r)) k)
    (cond (ltb k first_report) (of_node x.nodes (λ y. row_bytes y (x.row y)) (k - first_row))
    (of_pair x.nodes (λ s r. report_bytes s r (x.held s r)) (k - first_report)))

-- the bytes of x's arc, row and report by the number of the pair or node
abbrev pub arc_ranked : Net → ℕ → List ℕ
arc_ranked x = of_pair x.nodes (λ s r. arc_bytes s r (x.cost s r))

abbrev pub row_ranked : Net → ℕ → List ℕ
row_ranked x = of_node x.nodes (λ y. row_bytes y (x.row y))

abbrev pub report_ranked : Net → ℕ → List ℕ
report_ranked x = of_pair x.nodes (λ s r. report_bytes s r (x.held s r))

-- ranks below 1,024 are arcs, the next 32 rows, and the others reports
pub rank_arc : (x : Net) (k : ℕ) → k < first_row → rank_bytes x k ≡ arc_ranked x k
unfolding rank_bytes
rank_arc x k h = rw (lt-ltb k first_row h)

pub rank_row : (x : Net) (y : ℕ) → y < 32 → rank_bytes x (first_row + y) ≡ row_ranked x y
unfolding rank_bytes
rank_row x y h =
    let e : first_row + y - first_row ≡ y = omega arith in
    rw (le-ltb (first_row + y) first_row (omega arith), lt-ltb (first_row + y) first_report (omega arith), e)

pub rank_report : (x : Net) (k : ℕ) → rank_bytes x (first_report + k) ≡ report_ranked x k
unfolding rank_bytes
rank_report x k =
    let e : first_report + k - first_report ≡ k = omega arith in
    rw (le-ltb (first_report + k) first_row (omega arith), le-ltb (first_report + k) first_report (omega arith), e)

-- pairs and nodes in order, by their numbers
pair_ranks : (x : Net) (f : ℕ → ℕ → List ℕ) → by_pair x f ≡ each (of_pair x.nodes f) 0 pair_count
unfolding by_pair of_pair
pair_ranks x f = each_pair (λ s r. cond (pair_fault_of x.nodes s r) [] (f s r)) 0 max_nodes

node_ranks : (x : Net) (f : ℕ → List ℕ) → by_node x f ≡ each (of_node x.nodes f) 0 max_nodes
unfolding by_node of_node
node_ranks x f = refl

-- an image is the records of all ranks in three parts
pub image_ranks : (x : Net) → image x ≡ header_record_of x.nodes x.origin ++
    (each (rank_bytes x) 0 pair_count ++ (each (rank_bytes x) first_row max_nodes ++ (each (rank_bytes x) first_report pair_count ++ end_record)))
unfolding image
image_ranks x =
    let a : by_pair x (λ s r. arc_bytes s r (x.cost s r)) ≡ each (rank_bytes x) 0 pair_count =
    pair_ranks x (λ s r. arc_bytes s r (x.cost s r)) ∙ each_same (arc_ranked x) (rank_bytes x) 0 pair_count (λ k _ h. sym (rank_arc x k h)) in
    let b : by_node x (λ y. row_bytes y (x.row y)) ≡ each (rank_bytes x) first_row max_nodes =
    node_ranks x (λ y. row_bytes y (x.row y)) ∙ each_same (row_ranked x) (λ y. rank_bytes x (first_row + y)) 0 max_nodes (λ y _ h. sym (rank_row x y h)) ∙
    each_shift (rank_bytes x) first_row 0 max_nodes in
    let c : by_pair x (λ s r. report_bytes s r (x.held s r)) ≡ each (rank_bytes x) first_report pair_count =
    pair_ranks x (λ s r. report_bytes s r (x.held s r)) ∙ each_same (report_ranked x) (λ k. rank_bytes x (first_report + k)) 0 pair_count (λ k _ _. sym (rank_report x k)) ∙
    each_shift (rank_bytes x) first_report 0 pair_count in
    rw (a, b, c)

-- and so those of all 2,080 ranks
pub image_whole : (x : Net) → image x ≡ header_record_of x.nodes x.origin ++ (each (rank_bytes x) 0 rank_count ++ end_record)
image_whole x =
    let p = each_split (rank_bytes x) 0 pair_count (max_nodes + pair_count) in
    let q = each_split (rank_bytes x) first_row max_nodes pair_count in
    image_ranks x ∙
    ap (λ (l : List ℕ). header_record_of x.nodes x.origin ++ l)
    (sym (ap (λ (l : List ℕ). l ++ end_record) (p ∙ ap (λ (l : List ℕ). each (rank_bytes x) 0 pair_count ++ l) q) ∙
    append_assoc (each (rank_bytes x) 0 pair_count) (each (rank_bytes x) first_row max_nodes ++ each (rank_bytes x) first_report pair_count) end_record ∙
    ap (λ (l : List ℕ). each (rank_bytes x) 0 pair_count ++ l) (append_assoc (each (rank_bytes x) first_row max_nodes) (each (rank_bytes x) first_report pair_count) end_record)))
