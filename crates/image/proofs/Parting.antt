-- An image in parts: the records of the nodes below n, line by line.
-- Assumes nothing.
use mathlib.Core.Path.{◌≡◌, sym, ap, ◌∙◌}
use mathlib.Core.Bool.{cond}
use mathlib.Core.List.{List, [], ◌++◌, append_assoc, append-nil}
use Prim.Native.Nat.{ℕ, ◌+◌, ◌*◌, ◌-◌, ◌<◌, ◌≤◌}
use native.Mathlib.Omega.{arith}
use lib.ListN.{length, length-append}
use Rattle.network.specs.Faults.{max_nodes, node_fault, pair_fault_of}
use Rattle.network.specs.Network.{root, Net}
use Rattle.network.proofs.FaultLaws.{node_bad, node_free, sender_bad, receiver_bad, pair_same}
use Rattle.records.specs.Records.{body_length, record_length, end_record, header_record_of}
use Rattle.records.specs.Image.{each, arc_bytes, row_bytes, report_bytes, by_node, by_pair, image}
use Rattle.records.proofs.Each.{each_same, each_split, each_none}
use Rattle.records.proofs.Sizes.{end_long, header_long, each_gap, pairs_gap}
use Rattle.filling.specs.Filling.{Wrote}
use Rattle.image.specs.Lines.{arc_at, row_at, report_at, all_arcs, all_rows, all_reports, rest_of}
use Rattle.image.specs.Measured.{sum, receiver_bytes, most_bytes_of}
use Rattle.image.proofs.Sums.{sum_same, sum_add, sum_swap}
use Rattle.image.proofs.Lengths.{arc_at_most, row_at_most, report_at_most, each_sum}

-- without the numbers from n on, which have no bytes
each_cut : (f : ℕ → List ℕ) (n d : ℕ) → n ≤ d → ((i : ℕ) → n ≤ i → f i ≡ []) → each f 0 d ≡ each f 0 n
each_cut f n d h g =
    let e : n + (d - n) ≡ d = omega arith in
    sym (ap (each f 0) e) ∙ each_split f 0 n (d - n) ∙
    ap (λ (l : List ℕ). each f 0 n ++ l) (each_none f (0 + n) (d - n) (λ i p q. g i (omega arith))) ∙ append-nil (each f 0 n)

-- of two numbers
pairs_cut : (f : ℕ → ℕ → List ℕ) (n d : ℕ) → n ≤ d → ((s r : ℕ) → n ≤ s → f s r ≡ []) → ((s r : ℕ) → n ≤ r → f s r ≡ [])
    → each (λ s. each (f s) 0 d) 0 d ≡ each (λ s. each (f s) 0 n) 0 n
pairs_cut f n d h a b =
    each_same (λ s. each (f s) 0 d) (λ s. each (f s) 0 n) 0 d (λ s _ _. each_cut (f s) n d h (b s)) ∙
    each_cut (λ s. each (f s) 0 n) n d h (λ s g. each_none (f s) 0 n (λ r _ _. a s r g))

-- their lengths, by receiver
pairs_long : (f : ℕ → ℕ → List ℕ) (n d : ℕ) → n ≤ d → ((s r : ℕ) → n ≤ r → f s r ≡ [])
    → length (each (λ s. each (f s) 0 d) 0 d) ≡ sum (λ r. sum (λ s. length (f s r)) d) n
pairs_long f n d h b =
    each_sum (λ s. each (f s) 0 d) d ∙
    sum_same (λ s. length (each (f s) 0 d)) (λ s. sum (λ r. length (f s r)) n) d (λ s. ap length (each_cut (f s) n d h (b s)) ∙ each_sum (f s) n) ∙
    sum_swap (λ s r. length (f s r)) d n

-- nothing at a sender, a receiver or a node that is not below n
module _ (n : ℕ) (l : ℕ → ℕ → List ℕ) (s r : ℕ) where
  sender_none : n ≤ s → cond (pair_fault_of n s r) [] (l s r) ≡ []
  sender_none h = rw (sender_bad n s r h)

  receiver_none : n ≤ r → cond (pair_fault_of n s r) [] (l s r) ≡ []
  receiver_none h = rw (receiver_bad n s r h)

node_none : (n y : ℕ) (l : List ℕ) → n ≤ y → cond (node_fault n y) [] l ≡ []
node_none n y l h = rw (node_bad n y h)

-- the length of what follows the first record
pub rest_long : (x : Net) → length (rest_of x) ≡ length (all_arcs x) + (length (all_rows x) + length (all_reports x) + record_length 0)
unfolding rest_of body_length
rest_long x = simp (length-append, end_long)

module _ (x : Net) (n o : ℕ) (nodes : n ≡ x.nodes) (origin : o ≡ x.origin) (few : x.nodes ≤ max_nodes) where
  -- the first record, and the others by the nodes below n
  pub image_parts : image x ≡ header_record_of n o ++ rest_of x
  unfolding image by_pair by_node arc_at row_at report_at rest_of
  image_parts =
      let m = x.nodes in
      let arc : ℕ → ℕ → List ℕ = λ s r. arc_bytes s r (x.cost s r) in
      let report : ℕ → ℕ → List ℕ = λ s r. report_bytes s r (x.held s r) in
      let a = pairs_cut (arc_at x) m max_nodes few (sender_none m arc) (receiver_none m arc) in
      let b = each_cut (row_at x) m max_nodes few (λ y. node_none m y (row_bytes y (x.row y))) in
      let c = pairs_cut (report_at x) m max_nodes few (sender_none m report) (receiver_none m report) in
      rw (nodes, origin, a, b, c) (simp append_assoc)

  -- their lengths
  pub image_long : length (image x) ≡ record_length 1 + length (rest_of x)
  unfolding body_length
  image_long = ap length image_parts ∙ simp (length-append, header_long)

  -- by receiver
  pub image_counted : length (image x) ≡ record_length 1 + record_length 0 + sum (receiver_bytes x) n
  unfolding image by_pair by_node arc_at row_at report_at receiver_bytes body_length
  image_counted =
      let m = x.nodes in
      let arc : ℕ → ℕ → List ℕ = λ s r. arc_bytes s r (x.cost s r) in
      let report : ℕ → ℕ → List ℕ = λ s r. report_bytes s r (x.held s r) in
      let arcs : ℕ → ℕ = λ r. sum (λ s. length (arc_at x s r)) max_nodes in
      let reports : ℕ → ℕ = λ r. sum (λ s. length (report_at x s r)) max_nodes in
      let a : length (by_pair x arc) ≡ sum arcs m = pairs_long (arc_at x) m max_nodes few (receiver_none m arc) in
      let b : length (by_node x (λ y. row_bytes y (x.row y))) ≡ sum (λ y. length (row_at x y)) m =
      ap length (each_cut (row_at x) m max_nodes few (λ y. node_none m y (row_bytes y (x.row y)))) ∙ each_sum (row_at x) m in
      let c : length (by_pair x report) ≡ sum reports m = pairs_long (report_at x) m max_nodes few (receiver_none m report) in
      let p : sum (receiver_bytes x) m ≡ sum (λ y. length (row_at x y)) m + (sum arcs m + sum reports m) =
      sum_add (λ y. length (row_at x y)) (λ r. arcs r + reports r) m ∙ ap (λ (k : ℕ). sum (λ y. length (row_at x y)) m + k) (sum_add arcs reports m) in
      let all : length (image x) ≡ length (header_record_of m x.origin) + (length (by_pair x arc) + (length (by_node x (λ y. row_bytes y (x.row y))) + (length (by_pair x report) + length end_record))) =
      simp length-append in
      rw nodes (omega (arith, all, a, b, c, p, header_long m x.origin, end_long))

  -- with the origin among them, which has the origin's row
  pub image_by_nodes : (l : ℕ) → o < n → x.row o ≡ root l → length (image x) ≤ most_bytes_of n
  unfolding most_bytes_of arc_at row_at report_at row_bytes body_length
  image_by_nodes l h e =
      let m = x.nodes in
      let free = node_free m o (omega arith) in
      let a : length (all_arcs x) ≤ m * (m - 1) * record_length 2 = pairs_gap (arc_at x) (record_length 2) m (λ s. rw (pair_same m s)) (arc_at_most x) in
      let b : length (all_rows x) ≤ record_length 3 * (m - 1) = each_gap (row_at x) (record_length 3) m o (omega arith) (rw (free, e)) (row_at_most x) in
      let c : length (all_reports x) ≤ m * (m - 1) * record_length 4 = pairs_gap (report_at x) (record_length 4) m (λ s. rw (pair_same m s)) (report_at_most x) in
      rw nodes (omega (arith, image_long, rest_long x, a, b, c))

-- the bytes of the arcs, by receiver
pub arcs_long : (x : Net) → x.nodes ≤ max_nodes → length (all_arcs x) ≡ sum (λ r. sum (λ s. length (arc_at x s r)) max_nodes) x.nodes
unfolding arc_at
arcs_long x few =
    let m = x.nodes in
    let arc : ℕ → ℕ → List ℕ = λ s r. arc_bytes s r (x.cost s r) in
    ap length (sym (pairs_cut (arc_at x) m max_nodes few (sender_none m arc) (receiver_none m arc))) ∙ pairs_long (arc_at x) m max_nodes few (receiver_none m arc)

-- where the first record ends
pub header_end : (n o : ℕ) {a : ℕ} {e y : List ℕ} → Wrote (header_record_of n o) e y a → a ≡ record_length 1
unfolding body_length
header_end n o h = h.used ∙ header_long n o
