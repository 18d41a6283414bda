-- An image is a list of bytes.
-- Assumes nothing.
use mathlib.Core.Bool.{Bool, true, false, cond}
use mathlib.Core.List.{List, [], ◌∷◌, ◌++◌}
use Prim.Native.Nat.{ℕ, zero, suc, ◌/◌}
use native.Mathlib.Omega.{arith}
use lib.Dec.{eqb}
use Rattle.network.specs.Faults.{node_fault, pair_fault_of}
use Rattle.network.specs.Network.{Row, none, root, via, Report, empty, told, Net}
use Rattle.records.specs.Numbers.{Bytes, be8, be16, be32}
use Rattle.records.specs.Records.{end_record, header_record_of, arc_record_of, row_record_of, report_record_of}
use Rattle.records.specs.Image.{each, arc_bytes, row_bytes, report_bytes, by_node, by_pair, image}

-- the same as a record, so that the list can be read off the type
record Small (l : List ℕ) : Type 0 where
  at : Bytes l

none_bytes : Small []
none_bytes = record { at = λ i. omega arith }

append_bytes : (a b : List ℕ) → Bytes a → Bytes b → Bytes (a ++ b)
append_bytes [] b ha hb i = hb i
append_bytes (k ∷ a) b ha hb zero = ha zero
append_bytes (k ∷ a) b ha hb (suc i) = append_bytes a b (λ j. ha (suc j)) hb i

both_bytes : {a b : List ℕ} → Small a → Small b → Small (a ++ b)
both_bytes {a} {b} p q = record { at = append_bytes a b p.at q.at }

-- ---- numbers

be8_small : (x : ℕ) → Bytes (be8 x)
unfolding be8
be8_small x zero = omega arith
be8_small x (suc i) = omega arith

be8_bytes : (x : ℕ) → Small (be8 x)
be8_bytes x = record { at = be8_small x }

be16_bytes : (x : ℕ) → Small (be16 x)
unfolding be16
be16_bytes x = both_bytes (be8_bytes (x / 256)) (be8_bytes x)

be32_bytes : (x : ℕ) → Small (be32 x)
unfolding be32
be32_bytes x = both_bytes (be16_bytes (x / 65536)) (be16_bytes x)

-- a byte before others
byte_then_lem : (x : ℕ) {l : List ℕ} → Small l → Small (be8 x ++ l)
byte_then_lem x h = both_bytes (be8_bytes x) h

-- ---- records

arc_bytes_lem : (s r c : ℕ) → Small (arc_bytes s r c)
unfolding arc_bytes arc_record_of
arc_bytes_lem s r c = go (eqb c 0)
  where
    go : (t : Bool) → Small (cond t [] (arc_record_of s r c))
    go true = none_bytes
    go false = byte_then_lem 2 (byte_then_lem s (byte_then_lem r (be16_bytes c)))

row_bytes_lem : (y : ℕ) (w : Row) → Small (row_bytes y w)
unfolding row_bytes row_record_of
row_bytes_lem y none = none_bytes
row_bytes_lem y (root l) = none_bytes
row_bytes_lem y (via d p l) =
    byte_then_lem 3 (byte_then_lem y (both_bytes (be32_bytes d) (byte_then_lem p (be32_bytes l))))

report_bytes_lem : (s r : ℕ) (h : Report) → Small (report_bytes s r h)
unfolding report_bytes report_record_of
report_bytes_lem s r empty = none_bytes
report_bytes_lem s r (told d l) = byte_then_lem 4 (byte_then_lem s (byte_then_lem r (both_bytes (be32_bytes d) (be32_bytes l))))

-- ---- the image

each_bytes : (f : ℕ → List ℕ) (k d : ℕ) → ((i : ℕ) → Small (f i)) → Small (each f k d)
unfolding each
each_bytes f k zero h = none_bytes
each_bytes f k (suc d) h = both_bytes (h k) (each_bytes f (suc k) d h)

test_bytes : (t : Bool) (l : List ℕ) → Small l → Small (cond t [] l)
test_bytes true l h = none_bytes
test_bytes false l h = h

node_bytes : (x : Net) (f : ℕ → List ℕ) → ((y : ℕ) → Small (f y)) → Small (by_node x f)
unfolding by_node
node_bytes x f h = each_bytes _ 0 32 (λ y. test_bytes (node_fault x.nodes y) (f y) (h y))

pair_bytes : (x : Net) (f : ℕ → ℕ → List ℕ) → ((s r : ℕ) → Small (f s r)) → Small (by_pair x f)
unfolding by_pair
pair_bytes x f h = each_bytes _ 0 32 (λ s. each_bytes _ 0 32 (λ r. test_bytes (pair_fault_of x.nodes s r) (f s r) (h s r)))

image_small : (x : Net) → Small (image x)
unfolding image header_record_of end_record
image_small x =
    both_bytes (byte_then_lem 1 (byte_then_lem x.nodes (be8_bytes x.origin)))
    (both_bytes (pair_bytes x (λ s r. arc_bytes s r (x.cost s r)) (λ s r. arc_bytes_lem s r (x.cost s r)))
    (both_bytes (node_bytes x (λ y. row_bytes y (x.row y)) (λ y. row_bytes_lem y (x.row y)))
    (both_bytes (pair_bytes x (λ s r. report_bytes s r (x.held s r)) (λ s r. report_bytes_lem s r (x.held s r))) (be8_bytes 0))))

pub image_bytes : (x : Net) → Bytes (image x)
image_bytes x = (image_small x).at
