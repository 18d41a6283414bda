-- The fields of an entry and of a header, as bytes and back, and metrics within their limits.
-- Assumes nothing.
use mathlib.Core.Path.{◌≡◌, refl, sym, ap, ◌∙◌}
use mathlib.Core.Bool.{false, ◌||◌}
use mathlib.Core.List.{List, [], ◌∷◌, ◌++◌}
use Prim.Native.Nat.{ℕ, suc, ◌+◌, ◌*◌, ◌/◌, ◌^◌, ◌<◌, ◌≤◌}
use native.Mathlib.Numerals.{add-one}
use native.Mathlib.Omega.{arith}
use lib.ListN.{length, take, drop, get_or}
use lib.Seq.{drop-cons, drop-drop}
use borrow.Rule.Slice.PartMut.{put_mid}
use Rattle.std.specs.Int.{to_be_bytes, w32}
use Rattle.std.proofs.lemmas.Bool.Decides.{nat_tests}
use Rattle.ancestors.specs.Ancestors.{hops}
use Rattle.network.specs.Network.{Row, none, root, via}
use Rattle.records.specs.Numbers.{Bytes, be8, be16, be32, num8, num16, num32}
use Rattle.records.proofs.NumberLaws.{be16_of, be32_of, num32_of}
use Rattle.filling.specs.Filling.{Wrote, copied}
use Rattle.filling.proofs.Parts.{wrote_none, wrote_as}
use Rattle.filling.proofs.Copying.{copied_none, copied_all}
use Rattle.response.specs.Messages.{infinity, hops_metric_of, metric, mask, entry, entry_length, header, header_length}
use Rattle.response.specs.Reading.{differs, metric_fault, entry_fault, entry_metric, header_fault}
use Rattle.response.proofs.Pieces.{take_next}
use Rattle.response.proofs.Sizes.{entry_size}

-- ---- metrics

pub metric_says : (m : ℕ) → metric_fault m ≡ false → (1 ≤ m) × (m ≤ infinity)
unfolding metric_fault
metric_says m e = (grind (arith, nat_tests), grind (arith, nat_tests))

hops_right : (h : ℕ) → metric_fault (hops_metric_of h) ≡ false
unfolding hops_metric_of metric_fault
hops_right h = grind (arith, nat_tests)

-- a row's metric is 1 to 16
pub metric_right : (w : Row) → metric_fault (metric w) ≡ false
unfolding metric metric_fault
metric_right none = refl
metric_right (root l) = hops_right (hops l)
metric_right (via d p l) = hops_right (hops l)

-- ---- numbers in their places

module _ (b : List ℕ) where
  two_at : (i : ℕ) → i + 2 ≤ length b → take 2 (drop i b) ≡ get_or b i 0 ∷ get_or b (i + 1) 0 ∷ []
  two_at i h =
      let p : i < length b = omega arith in
      let q : suc i < length b = omega arith in
      rw (add-one i, drop-cons b i 0 p, drop-cons b (suc i) 0 q)

  module _ (bytes : Bytes b) where
    be16_at : (i : ℕ) → i + 2 ≤ length b → be16 (num16 b i) ≡ take 2 (drop i b)
    unfolding num16 num8
    be16_at i h = be16_of (get_or b i 0) (get_or b (i + 1) 0) (bytes i) (bytes (i + 1)) ∙ sym (two_at i h)

    be32_at : (i : ℕ) → i + 4 ≤ length b → be32 (num32 b i) ≡ take 4 (drop i b)
    unfolding num32 num16 num8
    be32_at i h =
        let j = i + 2 in
        be32_of (get_or b i 0) (get_or b (i + 1) 0) (get_or b j 0) (get_or b (j + 1) 0) (bytes i) (bytes (i + 1)) (bytes j) (bytes (j + 1)) ∙
        rw (take_next 2 2 b i, two_at i (omega arith), two_at j (omega arith))

    low : (i : ℕ) → num16 b i < 65536
    unfolding num16 num8
    low i = omega (arith, bytes i, bytes (i + 1))

    pub low32 : (i : ℕ) → num32 b i < 2 ^ 32
    unfolding num32
    low32 i = omega (arith, low i, low (i + 2))

-- ---- an entry

module _ (a : ℕ) (b : List ℕ) where
  -- its fields but the metric are right
  pub record Fields : Type 0 where
    pub family : num16 b 0 ≡ 2
    pub tag : num16 b 2 ≡ 0
    pub address : num32 b 4 ≡ a
    pub mask : num32 b 8 ≡ mask
    pub next_hop : num32 b 12 ≡ 0

  -- no field is wrong
  pub entry_says : entry_fault a b ≡ false → Fields × (metric_fault (entry_metric b) ≡ false)
  unfolding entry_fault entry_metric
  entry_says e = (
    record {
      family = grind (arith, nat_tests);
      tag = grind (arith, nat_tests);
      address = grind (arith, nat_tests);
      mask = grind (arith, nat_tests);
      next_hop = grind (arith, nat_tests);
    },
    grind (arith, nat_tests),
  )

  -- with these fields the metric decides
  pub entry_by : Fields → entry_fault a b ≡ metric_fault (entry_metric b)
  unfolding entry_fault entry_metric
  entry_by f = grind (arith, nat_tests)

  -- by its numbers of four bytes
  pub entry_words : Bytes b
      → entry_fault a b ≡ (differs (num32 b 0) 131072 || (differs (num32 b 4) a || (differs (num32 b 8) mask || (differs (num32 b 12) 0 || metric_fault (num32 b 16)))))
  unfolding entry_fault num32
  entry_words bytes = let l = low b bytes 2 in grind (arith, nat_tests)

  -- the bytes of such an entry
  pub entry_back : Bytes b → entry_length ≤ length b → Fields → take entry_length b ≡ entry a (entry_metric b)
  unfolding entry entry_metric
  entry_back bytes long f =
      let p = ap be16 (sym f.family) ∙ be16_at b bytes 0 (omega arith) in
      let q = ap be16 (sym f.tag) ∙ be16_at b bytes 2 (omega arith) in
      let r = ap be32 (sym f.address) ∙ be32_at b bytes 4 (omega arith) in
      let s = ap be32 (sym f.mask) ∙ be32_at b bytes 8 (omega arith) in
      let t = ap be32 (sym f.next_hop) ∙ be32_at b bytes 12 (omega arith) in
      let u = be32_at b bytes 16 (omega arith) in
      rw (p, q, r, s, t, u)
      (take_next 2 18 b 0 ∙ ap (λ l. take 2 b ++ l)
      (take_next 2 16 b 2 ∙ ap (λ l. take 2 (drop 2 b) ++ l)
      (take_next 4 12 b 4 ∙ ap (λ l. take 4 (drop 4 b) ++ l)
      (take_next 4 8 b 8 ∙ ap (λ l. take 4 (drop 8 b) ++ l)
      (take_next 4 4 b 12)))))

-- the bytes of an entry of a small metric, one by one
small32 : (m : ℕ) → m < 256 → be32 m ≡ 0 ∷ 0 ∷ 0 ∷ m ∷ []
small32 m h =
    let e : m ≡ (0 * 256 + 0) * 65536 + (0 * 256 + m) = omega arith in
    ap be32 e ∙ be32_of 0 0 0 m (omega arith) (omega arith) (omega arith) h

abbrev entry_front : ℕ → List ℕ → List ℕ
entry_front a t = 0 ∷ 2 ∷ 0 ∷ 0 ∷ (to_be_bytes w32 a ++ (255 ∷ 255 ∷ 255 ∷ 255 ∷ 0 ∷ 0 ∷ 0 ∷ 0 ∷ t))

front : (a : ℕ) (t : List ℕ) → be16 2 ++ (be16 0 ++ (be32 a ++ (be32 mask ++ (be32 0 ++ t)))) ≡ entry_front a t
unfolding be32 be16 be8
front a t =
    let p : a / 65536 / 256 ≡ a / 16777216 = omega arith in
    rw p

entry_bytes : (a m : ℕ) → m < 256 → entry a m ≡ entry_front a (0 ∷ 0 ∷ 0 ∷ m ∷ [])
unfolding entry
entry_bytes a m h = front a (be32 m) ∙ ap (entry_front a) (small32 m h)

-- an entry stored at the front of an output: four bytes, the address, and the rest
module _ (a m : ℕ) (e : List ℕ) where
  pub entry_stored : {x y z : List ℕ} → x ≡ 0 ∷ 2 ∷ 0 ∷ 0 ∷ [] → y ≡ to_be_bytes w32 a → z ≡ 255 ∷ 255 ∷ 255 ∷ 255 ∷ 0 ∷ 0 ∷ 0 ∷ 0 ∷ 0 ∷ 0 ∷ 0 ∷ m ∷ []
      → m < 256 → entry_length ≤ length e → Wrote (copied (entry a m) e) e (put_mid 8 12 (put_mid 4 4 (x ++ drop 4 e) y) z) entry_length
  entry_stored p q r h room =
      let d : drop 12 (drop 4 (drop 4 e)) ≡ drop entry_length e = drop-drop 12 4 (drop 4 e) ∙ drop-drop 16 4 e in
      rw (p, q, r) (wrote_as (copied_all (entry a m) e (omega (arith, entry_size a m)) ∙ entry_bytes a m h)
      (record { used = refl; left = ap (λ l. entry_front a (0 ∷ 0 ∷ 0 ∷ m ∷ l)) d }))

  pub entry_unstored : length e < entry_length → Wrote (copied (entry a m) e) e e 0
  entry_unstored h = wrote_none e (copied_none (entry a m) e (omega (arith, entry_size a m)))

-- an entry that was written, whatever follows it
module _ (a m : ℕ) (r : List ℕ) (word : a < 2 ^ 32) (right : metric_fault m ≡ false) where
  small : m < 4294967296
  small = omega (arith, metric_says m right)

  pub written_metric : entry_metric (entry a m ++ r) ≡ m
  unfolding entry_metric entry num32 num16 num8 be32 be16 be8
  written_metric = num32_of m small

  pub written_entry : entry_fault a (entry a m ++ r) ≡ false
  unfolding entry num32 num16 num8 be32 be16 be8
  written_entry =
      entry_by a (entry a m ++ r) (record { family = refl; tag = refl; address = num32_of a word; mask = refl; next_hop = refl }) ∙ rw written_metric right

-- ---- a header

module _ (b : List ℕ) where
  pub record Header : Type 0 where
    pub command : num8 b 0 ≡ 2
    pub version : num8 b 1 ≡ 2
    pub zeros : num16 b 2 ≡ 0

  pub header_says : header_fault b ≡ false → Header
  unfolding header_fault
  header_says e = record { command = grind (arith, nat_tests); version = grind (arith, nat_tests); zeros = grind (arith, nat_tests) }

  pub header_back : Bytes b → header_length ≤ length b → Header → take header_length b ≡ header
  unfolding header be8 num8
  header_back bytes long h =
      take_next 2 2 b 0 ∙ rw (two_at b 0 (omega arith), ← be16_at b bytes 2 (omega arith), h.zeros, h.command, h.version)

  -- as one number of four bytes
  pub header_word : Bytes b → header_fault b ≡ differs (num32 b 0) 33685504
  unfolding header_fault num32 num16 num8
  header_word bytes =
      let p = bytes 0 in
      let q = bytes 1 in
      let r = bytes 2 in
      let s = bytes 3 in
      grind (arith, nat_tests)

pub written_header : (r : List ℕ) → header_fault (header ++ r) ≡ false
unfolding header header_fault num16 num8 be16 be8
written_header r = refl
