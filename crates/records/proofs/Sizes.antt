-- Lengths: of each record, and of an image at most `max_image`, which is 16,217 bytes.
-- Assumes nothing.
use mathlib.Core.Path.{◌≡◌, refl, sym, ap, ◌∙◌}
use mathlib.Core.Bool.{Bool, true, false, cond}
use mathlib.Core.List.{List, [], ◌++◌}
use Prim.Native.Nat.{ℕ, suc, ◌+◌, ◌*◌, ◌-◌, ◌<◌, ◌≤◌}
use native.Mathlib.Omega.{arith}
use lib.Dec.{eqb}
use lib.ListN.{length, length-append}
use Rattle.ancestors.specs.Ancestors.{own}
use Rattle.network.specs.Faults.{max_nodes, pair_fault_of, node_fault}
use Rattle.network.specs.Network.{Row, none, root, via, Report, empty, told, Net, Within}
use Rattle.network.proofs.FaultLaws.{pair_same}
use Rattle.network.proofs.Limits.{within_size}
use Rattle.records.specs.Numbers.{be8, be16, be32}
use Rattle.records.specs.Records.{body_length, record_length, end_record, header_record_of, arc_record_of, row_record_of, report_record_of}
use Rattle.records.specs.Image.{each, arc_bytes, row_bytes, report_bytes, by_node, by_pair, image, max_pairs, full_image, max_image}
use Rattle.records.proofs.Each.{each_split, each_most}

-- ---- records

pub end_long : length end_record ≡ 1
unfolding end_record be8
end_long = refl

pub header_long : (n o : ℕ) → length (header_record_of n o) ≡ 3
unfolding header_record_of be8
header_long n o = refl

pub arc_long : (s r c : ℕ) → length (arc_record_of s r c) ≡ 5
unfolding arc_record_of be16 be8
arc_long s r c = refl

pub row_long : (y d p l : ℕ) → length (row_record_of y d p l) ≡ 11
unfolding row_record_of be32 be16 be8
row_long y d p l = refl

pub report_long : (s r d l : ℕ) → length (report_record_of s r d l) ≡ 11
unfolding report_record_of be32 be16 be8
report_long s r d l = refl

-- ---- what the parts of an image have at most

pub arc_most : (s r c : ℕ) → length (arc_bytes s r c) ≤ record_length 2
unfolding arc_bytes body_length
arc_most s r c = go (eqb c 0)
  where
    go : (b : Bool) → length (cond b [] (arc_record_of s r c)) ≤ record_length 2
    go true = omega arith
    go false = omega (arith, arc_long s r c)

pub row_most : (y : ℕ) (w : Row) → length (row_bytes y w) ≤ record_length 3
unfolding row_bytes body_length
row_most y none = omega arith
row_most y (root l) = omega arith
row_most y (via d p l) = omega (arith, row_long y d p l)

pub report_most : (s r : ℕ) (h : Report) → length (report_bytes s r h) ≤ record_length 4
unfolding report_bytes body_length
report_most s r empty = omega arith
report_most s r (told d l) = omega (arith, report_long s r d l)

-- bytes that a test may leave out
pub kept_most : (m : ℕ) (b : Bool) (l : List ℕ) → length l ≤ m → length (cond b [] l) ≤ m
kept_most m true l h = omega arith
kept_most m false l h = h

-- a first number without bytes
each_front : (f : ℕ → List ℕ) (o k : ℕ) → f o ≡ [] → each f o (suc k) ≡ each f (suc o) k
unfolding each
each_front f o k e = ap (λ (l : List ℕ). l ++ each f (suc o) k) e

-- d numbers of which one, o, has no bytes
pub each_gap : (f : ℕ → List ℕ) (m d o : ℕ) → o < d → f o ≡ [] → ((i : ℕ) → length (f i) ≤ m) → length (each f 0 d) ≤ m * (d - 1)
each_gap f m d o h e b =
    let p : o + suc (d - 1 - o) ≡ d = omega arith in
    let z : 0 + o ≡ o = omega arith in
    let q = ap length (sym (ap (each f 0) p) ∙ each_split f 0 o (suc (d - 1 - o)) ∙ ap (λ (k : ℕ). each f 0 o ++ each f k (suc (d - 1 - o))) z) in
    let r = length-append (each f 0 o) (each f o (suc (d - 1 - o))) in
    let s = each_most f m 0 o (λ i _ _. b i) in
    let t = each_most f m (suc o) (d - 1 - o) (λ i _ _. b i) in
    let u = ap length (each_front f o (d - 1 - o) e) in
    let v : m * o + m * (d - 1 - o) ≡ m * (d - 1) = parts m o (d - 1 - o) (d - 1) (omega arith) in
    omega arith
  where
    parts : (m a b c : ℕ) → a + b ≡ c → m * a + m * b ≡ m * c
    parts m a b c h = rw (← h) (omega arith)

-- d numbers by d numbers, without bytes for a number and itself
pub pairs_gap : (f : ℕ → ℕ → List ℕ) (m d : ℕ) → ((s : ℕ) → f s s ≡ []) → ((s r : ℕ) → length (f s r) ≤ m)
    → length (each (λ s. each (f s) 0 d) 0 d) ≤ d * (d - 1) * m
pairs_gap f m d e b =
    let lines = each_most (λ s. each (f s) 0 d) (m * (d - 1)) 0 d (λ s _ h. each_gap (f s) m d s (omega arith) (e s) (b s)) in
    omega (arith, lines, turned m (d - 1) d)
  where
    turned : (a b c : ℕ) → a * b * c ≡ c * b * a
    turned a b c = omega arith

-- a node is not paired with itself
pairs_most : (x : Net) (f : ℕ → ℕ → List ℕ) (m : ℕ) → ((s r : ℕ) → length (f s r) ≤ m) → length (by_pair x f) ≤ max_pairs * m
unfolding by_pair
pairs_most x f m h =
    pairs_gap (λ s r. cond (pair_fault_of x.nodes s r) [] (f s r)) m max_nodes (λ s. rw (pair_same x.nodes s))
    (λ s r. kept_most m (pair_fault_of x.nodes s r) (f s r) (h s r))

module _ (x : Net) where
  -- the rows written, and that of y
  abbrev rows : List ℕ
  rows = by_node x (λ y. row_bytes y (x.row y))

  abbrev row_of : ℕ → List ℕ
  row_of y = cond (node_fault x.nodes y) [] (row_bytes y (x.row y))

  row_of_most : (y : ℕ) → length (row_of y) ≤ record_length 3
  row_of_most y = kept_most (record_length 3) (node_fault x.nodes y) (row_bytes y (x.row y)) (row_most y (x.row y))

  -- the origin's is not written
  rows_most : (l : ℕ) → x.origin < max_nodes → x.row x.origin ≡ root l → length rows ≤ record_length 3 * (max_nodes - 1)
  unfolding by_node row_bytes
  rows_most l h e =
      each_gap row_of (record_length 3) max_nodes x.origin h
      (none_there (node_fault x.nodes x.origin) (ap (row_bytes x.origin) e)) row_of_most
    where
      none_there : (b : Bool) → row_bytes x.origin (x.row x.origin) ≡ [] → cond b [] (row_bytes x.origin (x.row x.origin)) ≡ []
      none_there true e = refl
      none_there false e = e

  -- an image of not more than k rows
  image_rows : (k : ℕ) → length rows ≤ record_length 3 * k → length (image x) ≤ full_image k
  unfolding image full_image body_length
  image_rows k f =
      let arcs = by_pair x (λ s r. arc_bytes s r (x.cost s r)) in
      let reports = by_pair x (λ s r. report_bytes s r (x.held s r)) in
      let a = length-append (header_record_of x.nodes x.origin) (arcs ++ (rows ++ (reports ++ end_record))) in
      let b = length-append arcs (rows ++ (reports ++ end_record)) in
      let c = length-append rows (reports ++ end_record) in
      let d = length-append reports end_record in
      let e = pairs_most x (λ s r. arc_bytes s r (x.cost s r)) (record_length 2) (λ s r. arc_most s r (x.cost s r)) in
      let g = pairs_most x (λ s r. report_bytes s r (x.held s r)) (record_length 4) (λ s r. report_most s r (x.held s r)) in
      omega (arith, a, b, c, d, e, f, g, header_long x.nodes x.origin, end_long)

  -- of any network at all
  pub image_any : length (image x) ≤ full_image max_nodes
  unfolding by_node
  image_any = image_rows max_nodes (each_most row_of (record_length 3) 0 max_nodes (λ y _ _. row_of_most y))

  -- of one with the origin among the most nodes and with the origin's row
  pub image_bound : (l : ℕ) → x.origin < max_nodes → x.row x.origin ≡ root l → length (image x) ≤ max_image
  unfolding max_image
  image_bound l h o = image_rows (max_nodes - 1) (rows_most l h o)

  -- as in every network within limits
  pub image_most : Within x → length (image x) ≤ max_image
  image_most w =
      let size = within_size x w in
      image_bound (own x.origin) (omega (arith, size.1, size.2)) w.origin_row

-- ---- the bounds, computed

pub largest_image : max_image ≡ 16217
unfolding max_image full_image body_length
largest_image = refl

pub largest_any : full_image max_nodes ≡ 16228
unfolding full_image body_length
largest_any = refl
