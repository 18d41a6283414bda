-- Lengths of records, and of records one after another.
-- Assumes nothing.
use mathlib.Core.Path.{◌≡◌, refl, sym, ap, ◌∙◌}
use mathlib.Core.List.{List, ◌++◌}
use Prim.Native.Nat.{ℕ, zero, suc, ◌+◌, ◌*◌, ◌-◌, ◌<◌, ◌≤◌}
use native.Mathlib.Nat.{mul-le-mul}
use native.Mathlib.Omega.{arith}
use lib.ListN.{length, take, drop, length-append}
use Rattle.network.specs.Faults.{max_nodes, node_fault, pair_fault_of}
use Rattle.network.specs.Network.{Net}
use Rattle.records.specs.Image.{each, arc_bytes, row_bytes, report_bytes, max_pairs, full_image, max_image}
use Rattle.records.specs.Records.{body_length, record_length, arc_record_of, row_record_of, report_record_of}
use Rattle.records.proofs.Each.{each_split, each_zero, each_next}
use Rattle.records.proofs.Sizes.{arc_long, row_long, report_long, arc_most, row_most, report_most, kept_most}
use Rattle.image.specs.Lines.{arc_at, row_at, report_at}
use Rattle.image.specs.Measured.{sum, most_bytes_of}
use Rattle.filling.specs.Filling.{Wrote}
use Rattle.filling.proofs.Parts.{wrote_as, room, wrote_then}
use Rattle.image.proofs.Sums.{sum_zero, sum_next}

-- the lengths of records
pub arc_size : (s r c : ℕ) → length (arc_record_of s r c) ≡ record_length 2
unfolding body_length
arc_size s r c = arc_long s r c

pub row_size : (y d p l : ℕ) → length (row_record_of y d p l) ≡ record_length 3
unfolding body_length
row_size y d p l = row_long y d p l

pub report_size : (s r d l : ℕ) → length (report_record_of s r d l) ≡ record_length 4
unfolding body_length
report_size s r d l = report_long s r d l

-- what there is of an arc, a row or a report is one record at most
module _ (x : Net) where
  pub arc_at_most : (s r : ℕ) → length (arc_at x s r) ≤ record_length 2
  unfolding arc_at
  arc_at_most s r = kept_most (record_length 2) (pair_fault_of x.nodes s r) (arc_bytes s r (x.cost s r)) (arc_most s r (x.cost s r))

  pub row_at_most : (y : ℕ) → length (row_at x y) ≤ record_length 3
  unfolding row_at
  row_at_most y = kept_most (record_length 3) (node_fault x.nodes y) (row_bytes y (x.row y)) (row_most y (x.row y))

  pub report_at_most : (s r : ℕ) → length (report_at x s r) ≤ record_length 4
  unfolding report_at
  report_at_most s r = kept_most (record_length 4) (pair_fault_of x.nodes s r) (report_bytes s r (x.held s r)) (report_most s r (x.held s r))

-- the ordered pairs of at most 32 nodes
pub pairs_few : (n : ℕ) → n ≤ max_nodes → n * (n - 1) ≤ max_pairs
pairs_few n h =
    let others : n - 1 ≤ max_nodes - 1 = omega arith in
    mul-le-mul h others

-- the most bytes of an image of 32 nodes are those of the largest image
pub most_largest : most_bytes_of max_nodes ≡ max_image
unfolding most_bytes_of max_image full_image body_length
most_largest = refl

module _ (f : ℕ → List ℕ) where
  -- one number is among d
  pub each_among : (i d : ℕ) → i < d → length (each f 0 i) + length (f i) ≤ length (each f 0 d)
  each_among i d h =
      let e : (i + 1) + (d - (i + 1)) ≡ d = omega arith in
      let p = ap length (sym (ap (each f 0) e) ∙ each_split f 0 (i + 1) (d - (i + 1))) in
      omega (
        arith,
        p,
        length-append (each f 0 (i + 1)) (each f (0 + (i + 1)) (d - (i + 1))),
        ap length (each_next f i),
        length-append (each f 0 i) (f i),
      )

  -- the sum of the lengths
  pub each_sum : (k : ℕ) → length (each f 0 k) ≡ sum (λ i. length (f i)) k
  each_sum zero = ap length (each_zero f 0) ∙ sym (sum_zero (λ i. length (f i)))
  each_sum (suc k) =
      let e : suc k ≡ k + 1 = omega arith in
      rw e (omega (arith, each_sum k, ap length (each_next f k), length-append (each f 0 k) (f k), sum_next (λ i. length (f i)) k))

-- the records of the numbers below i stand at the front, and there is room for those below n
module _ (f : ℕ → List ℕ) (i n : ℕ) (below : i < n) {out x : List ℕ} {at : ℕ} (front : Wrote (each f 0 i) out x at) (fits : length (each f 0 n) ≤ length out) where
  -- the next one has room after them
  enough : at + length (f i) ≤ length out
  enough = omega (arith, front.used, fits, each_among f i n below)

  pub next_room : length (f i) ≤ length (take (length x - at) (drop at x))
  next_room = room (length (f i)) front enough

  module _ {y : List ℕ} {r : ℕ} (wrote : Wrote (f i) (take (length x - at) (drop at x)) y r) where
    pub next_ends : at + r ≤ length out
    next_ends = omega (arith, wrote.used, enough)

    pub next_wrote : Wrote (each f 0 (i + 1)) out (take at x ++ (y ++ drop (length x - at) (drop at x))) (at + r)
    next_wrote = wrote_as (each_next f i) (wrote_then front wrote)
