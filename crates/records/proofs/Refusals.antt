-- Request Two: a record of an image is refused exactly where it was before.
-- Assumes nothing.
use mathlib.Core.Path.{◌≡◌, refl}
use mathlib.Core.Bool.{Bool, true, false, cond}
use Prim.Native.Nat.{ℕ}
use lib.Dec.{ltb}
use Rattle.network.specs.Faults.{node_fault, pair_fault_of, first_number}
use Rattle.network.specs.Form.{as_before}
use Rattle.network.proofs.Form.{place_row_before, place_report_before}
use Rattle.records.specs.Opening.{row_rank, report_rank, order_number, row_number_of, report_number_of}
use Rattle.records.specs.Refusals.{RefusedAsBefore}

-- a record's tests: 3, 4, then the number k with which it is placed, which tests 3 again and was b before
tested : (range order : Bool) (k b : ℕ) → as_before k ≡ cond range 3 b →
    as_before (first_number (cond range 3 0) (first_number (cond order 4 0) k)) ≡ first_number (cond range 3 0) (first_number (cond order 4 0) b)
unfolding as_before first_number
tested true order k b e = refl
tested false true k b e = refl
tested false false k b e = e

pub refused_as_before : RefusedAsBefore
unfolding row_number_of report_number_of order_number
refused_as_before =
    record {
      row = λ x next y d p l. tested (node_fault x.nodes y) (ltb (row_rank y) next) _ _ (place_row_before x y d p l);
      report = λ x next s r d l. tested (pair_fault_of x.nodes s r) (ltb (report_rank s r) next) _ _ (place_report_before x s r d l);
    }
