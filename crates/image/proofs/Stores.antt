-- Bytes stored one by one at the front of a part, in the order of the record writers.
-- Assumes nothing.
use mathlib.Core.Path.{◌≡◌, refl}
use mathlib.Core.List.{List, [], ◌∷◌, ◌++◌}
use Prim.Native.Nat.{ℕ, ◌+◌, ◌/◌, ◌%◌, ◌≤◌}
use native.Mathlib.Omega.{arith}
use lib.ListN.{length, set, take, drop}
use Rattle.records.specs.Numbers.{be8, be16, be32}
use Rattle.records.specs.Records.{body_length, record_length, arc_record_of, row_record_of, report_record_of}
use Rattle.filling.specs.Filling.{Wrote}
use Rattle.filling.proofs.Fronts.{Front, none, more, front}

-- three bytes
module _ (a b c : ℕ) where
  three : {e : List ℕ} → Front 3 e → Wrote (a ∷ b ∷ c ∷ []) e (set (set (set e 0 a) 1 b) 2 c) 3
  three (more (more (more none))) = record { used = refl; left = refl }

  pub stored_three : (e : List ℕ) → 3 ≤ length e → Wrote (a ∷ b ∷ c ∷ []) e (set (set (set e 0 a) 1 b) 2 c) 3
  stored_three e h = three (front 3 e h)

-- a number of four bytes stored from a place on, and one of two
abbrev put : ℕ → ℕ → List ℕ → List ℕ
put at x e = take at e ++ (be32 x ++ drop (at + 4) e)

abbrev put2 : ℕ → ℕ → List ℕ → List ℕ
put2 at x e = take at e ++ (be16 x ++ drop (at + 2) e)

-- in two bytes by its low sixteen bits
pub low_bytes : (x : ℕ) → (x % 65536) / 256 % 256 ∷ (x % 65536) % 256 ∷ [] ≡ be16 x
unfolding be16 be8
low_bytes x =
    let high : (x % 65536) / 256 % 256 ≡ x / 256 % 256 = omega arith in
    let low : (x % 65536) % 256 ≡ x % 256 = omega arith in
    rw (high, low)

-- kind and node as one number of two bytes
kind_and_node : (a : ℕ) → be16 (512 + a % 256) ≡ (2 ∷ a % 256 ∷ [])
unfolding be16 be8
kind_and_node a =
    let kind : (512 + a % 256) / 256 % 256 ≡ 2 = omega arith in
    let node : (512 + a % 256) % 256 ≡ a % 256 = omega arith in
    rw (kind, node)

-- five bytes, of which the first two and the last two are numbers
module _ (a b c : ℕ) where
  five : {e : List ℕ} → Front 5 e → Wrote (arc_record_of a b c) e (put2 3 c (set (2 ∷ a % 256 ∷ drop 2 e) 2 (b % 256))) 5
  unfolding arc_record_of be16 be8
  five (more (more (more (more (more none))))) = record { used = refl; left = refl }

  pub stored_arc : (e : List ℕ) → record_length 2 ≤ length e → Wrote (arc_record_of a b c) e (put2 3 c (set (put2 0 (512 + a % 256) e) 2 (b % 256))) 5
  unfolding body_length
  stored_arc e h = rw (kind_and_node a) (five (front 5 e h))

-- eleven bytes, of which eight are numbers of four
module _ (a b c d : ℕ) where
  row : {e : List ℕ} → Front 11 e → Wrote (row_record_of a b c d) e (put 7 d (set (put 2 b (set (set e 0 3) 1 (a % 256))) 6 (c % 256))) 11
  unfolding row_record_of be32 be16 be8
  row (more (more (more (more (more (more (more (more (more (more (more none))))))))))) = record { used = refl; left = refl }

  report : {e : List ℕ} → Front 11 e → Wrote (report_record_of a b c d) e (put 7 d (put 3 c (set (set (set e 0 4) 1 (a % 256)) 2 (b % 256)))) 11
  unfolding report_record_of be32 be16 be8
  report (more (more (more (more (more (more (more (more (more (more (more none))))))))))) = record { used = refl; left = refl }

  module _ (e : List ℕ) where
    pub stored_row : record_length 3 ≤ length e → Wrote (row_record_of a b c d) e (put 7 d (set (put 2 b (set (set e 0 3) 1 (a % 256))) 6 (c % 256))) 11
    unfolding body_length
    stored_row h = row (front 11 e h)

    pub stored_report : record_length 4 ≤ length e → Wrote (report_record_of a b c d) e (put 7 d (put 3 c (set (set (set e 0 4) 1 (a % 256)) 2 (b % 256)))) 11
    unfolding body_length
    stored_report h = report (front 11 e h)
