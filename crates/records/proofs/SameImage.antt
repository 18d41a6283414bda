-- A network within limits is decided by its size and the bytes of its ranks.
-- Assumes nothing.
use mathlib.Core.Path.{◌≡◌, refl, sym, ap, ◌∙◌}
use mathlib.Core.Bool.{true, false}
use mathlib.Core.List.{List, [], ◌∷◌}
use mathlib.Core.Logic.{◌⊎◌, inl, inr, ◌≢◌}
use Prim.Native.Nat.{ℕ, ◌%◌, ◌^◌, ◌<◌, ◌≤◌}
use native.Mathlib.Omega.{arith}
use lib.Pow.{pow_mono}
use Rattle.ancestors.specs.Ancestors.{own}
use Rattle.ancestors.proofs.Cases.{bool_cases, eq_or_ne, le_or_lt, never}
use Rattle.network.specs.Faults.{pair_fault_of}
use Rattle.network.specs.Network.{Row, none, root, via, Report, empty, told, Net, Within}
use Rattle.network.proofs.Effects.{Stays, nodes_stay, origin_stay, same_net}
use Rattle.network.proofs.FaultLaws.{node_free, pair_says}
use Rattle.network.proofs.Limits.{within_size, within_row, within_report}
use Rattle.records.specs.Numbers.{be8, be16, be32, num8, num16, num32}
use Rattle.records.specs.Records.{arc_record_of, row_record_of, report_record_of}
use Rattle.records.specs.Image.{arc_bytes, row_bytes, report_bytes}
use Rattle.records.specs.Opening.{rank_count, arc_rank, row_rank, report_rank}
use Rattle.records.proofs.Ranks.{rank_bytes}
use Rattle.records.proofs.NumberLaws.{num16_of, num32_of}
use Rattle.records.proofs.PlacedRecords.{pair_rank_small, arc_here, row_here, report_here, arc_some, arc_none}

-- ---- small numbers

-- a list of a network's nodes is a word
pub list_small : (n l : ℕ) → n ≤ 32 → l < 2 ^ n → l < 4294967296
list_small n l h b =
    let p : 2 ^ n ≤ 2 ^ 32 = pow_mono h in
    omega arith

-- ---- what the bytes of a rank say

record_cost : (s r c : ℕ) → c < 65536 → num16 (arc_record_of s r c) 3 ≡ c
unfolding arc_record_of be16 be8 num16 num8
record_cost s r c h = num16_of c h

cost_in : (s r c : ℕ) → c < 65536 → (c ≡ 0) ⊎ (c ≢ 0) → num16 (arc_bytes s r c) 3 ≡ c
unfolding num16 num8
cost_in s r c h (inl e) = ap (λ (b : List ℕ). num16 b 3) (arc_none s r c e) ∙ sym e
cost_in s r c h (inr n) = ap (λ (b : List ℕ). num16 b 3) (arc_some s r c n) ∙ record_cost s r c h

-- the row and the report that bytes say
row_in : List ℕ → Row
row_in [] = none
row_in (k ∷ b) = via (num32 b 1) (num8 b 5) (num32 b 6)

report_in : List ℕ → Report
report_in [] = empty
report_in (k ∷ b) = told (num32 b 2) (num32 b 6)

row_in_lem : (y d p l : ℕ) → d < 4294967296 → p < 256 → l < 4294967296 → row_in (row_record_of y d p l) ≡ via d p l
unfolding row_in row_record_of be32 be16 be8 num32 num16 num8
row_in_lem y d p l hd hp hl =
    let e : p % 256 ≡ p = omega arith in
    simp (num32_of d hd, num32_of l hl, e)

report_in_lem : (s r d l : ℕ) → d < 4294967296 → l < 4294967296 → report_in (report_record_of s r d l) ≡ told d l
unfolding report_in report_record_of be32 be16 be8 num32 num16 num8
report_in_lem s r d l hd hl = simp (num32_of d hd, num32_of l hl)

-- ---- what a network within limits has where no node is

module _ (x : Net) (w : Within x) where
  -- no arc, and so no report, from or to what is not a node
  no_cost : (s r : ℕ) → pair_fault_of x.nodes s r ≡ true → (x.cost s r ≡ 0) ⊎ (x.cost s r ≢ 0) → x.cost s r ≡ 0
  no_cost s r e (inl z) = z
  no_cost s r e (inr n) = never (pair_fault_of x.nodes s r) e (w.arc_pair s r (omega (arith, n)))

  no_held : (s r : ℕ) → x.cost s r ≡ 0 → (h : Report) → x.held s r ≡ h → h ≡ empty
  no_held s r e empty q = refl
  no_held s r e (told d l) q = absurd (omega (arith, (within_report x w s r d l q).arc))

  no_row : (y : ℕ) → x.nodes ≤ y → (v : Row) → x.row y ≡ v → v ≡ none
  no_row y h none q = refl
  no_row y h (root l) q = absurd (omega (arith, w.origin_only y l q, (within_size x w).2))
  no_row y h (via d p l) q = absurd (omega (arith, (within_row x w y d p l q).node))

  -- the bytes say what a relay's row and a held report are
  row_said : (y : ℕ) → y ≢ x.origin → (v : Row) → x.row y ≡ v → row_in (row_bytes y v) ≡ v
  unfolding row_bytes row_in
  row_said y n none q = refl
  row_said y n (root l) q = absurd (n (w.origin_only y l q))
  row_said y n (via d p l) q =
      let f = within_row x w y d p l q in
      let few = (within_size x w).1 in
      row_in_lem y d p l (omega (arith, f.label)) (omega (arith, f.below)) (list_small x.nodes l few f.bits)

  held_said : (s r : ℕ) (h : Report) → x.held s r ≡ h → report_in (report_bytes s r h) ≡ h
  unfolding report_bytes report_in
  held_said s r empty q = refl
  held_said s r (told d l) q =
      let f = within_report x w s r d l q in
      let few = (within_size x w).1 in
      report_in_lem s r d l (omega (arith, f.label)) (list_small x.nodes l few f.bits)

-- ---- the same bytes, the same cost

pub cost_said : (a b : Net) → Within a → Within b → a.nodes ≡ b.nodes → (s r : ℕ) → pair_fault_of a.nodes s r ≡ false →
    rank_bytes a (arc_rank s r) ≡ rank_bytes b (arc_rank s r) → a.cost s r ≡ b.cost s r
cost_said a b wa wb n s r e same =
    let m = pair_says a.nodes s r e in
    let few = (within_size a wa).1 in
    let hs : s < 32 = omega (arith, m.0) in
    let hr : r < 32 = omega (arith, m.1) in
    let q : arc_bytes s r (a.cost s r) ≡ arc_bytes s r (b.cost s r) =
    sym (arc_here a s r hs hr e) ∙ same ∙ arc_here b s r hs hr (rw (← n) e) in
    sym (cost_in s r (a.cost s r) (omega (arith, wa.arc_cost s r)) (eq_or_ne (a.cost s r) 0)) ∙ ap (λ (l : List ℕ). num16 l 3) q ∙
    cost_in s r (b.cost s r) (omega (arith, wb.arc_cost s r)) (eq_or_ne (b.cost s r) 0)

-- ---- the same bytes, the same network

module _ (a b : Net) (wa : Within a) (wb : Within b) (stays : Stays b a)
    (same : (i : ℕ) → i < rank_count → rank_bytes a i ≡ rank_bytes b i) where
  n : a.nodes ≡ b.nodes
  n = nodes_stay stays

  o : a.origin ≡ b.origin
  o = origin_stay stays

  pair_small : (s r : ℕ) → pair_fault_of a.nodes s r ≡ false → (s < 32) × (r < 32)
  pair_small s r e =
      let p = pair_says a.nodes s r e in
      let few = (within_size a wa).1 in
      (omega (arith, p.0), omega (arith, p.1))

  same_cost : (s r : ℕ) → (pair_fault_of a.nodes s r ≡ true) ⊎ (pair_fault_of a.nodes s r ≡ false) → a.cost s r ≡ b.cost s r
  same_cost s r (inl e) =
      no_cost a wa s r e (eq_or_ne (a.cost s r) 0) ∙ sym (no_cost b wb s r (rw (← n) e) (eq_or_ne (b.cost s r) 0))
  same_cost s r (inr e) =
      let m = pair_small s r e in
      cost_said a b wa wb n s r e (same (arc_rank s r) (omega (arith, pair_rank_small s r m.0 m.1)))

  same_held : (s r : ℕ) → (pair_fault_of a.nodes s r ≡ true) ⊎ (pair_fault_of a.nodes s r ≡ false) → a.held s r ≡ b.held s r
  unfolding report_rank
  same_held s r (inl e) =
      no_held a wa s r (no_cost a wa s r e (eq_or_ne (a.cost s r) 0)) (a.held s r) refl ∙
      sym (no_held b wb s r (no_cost b wb s r (rw (← n) e) (eq_or_ne (b.cost s r) 0)) (b.held s r) refl)
  same_held s r (inr e) =
      let m = pair_small s r e in
      let q : report_bytes s r (a.held s r) ≡ report_bytes s r (b.held s r) =
      sym (report_here a s r m.1 e) ∙ same (report_rank s r) (omega (arith, pair_rank_small s r m.0 m.1)) ∙
      report_here b s r m.1 (rw (← n) e) in
      sym (held_said a wa s r (a.held s r) refl) ∙ ap report_in q ∙ held_said b wb s r (b.held s r) refl

  relay_row : (y : ℕ) → y < a.nodes → y ≢ a.origin → a.row y ≡ b.row y
  unfolding row_rank
  relay_row y h r =
      let few = (within_size a wa).1 in
      let q : row_bytes y (a.row y) ≡ row_bytes y (b.row y) =
      sym (row_here a y (omega arith) (node_free a.nodes y h)) ∙ same (row_rank y) (omega arith) ∙
      row_here b y (omega arith) (rw (← n) (node_free a.nodes y h)) in
      sym (row_said a wa y r (a.row y) refl) ∙ ap row_in q ∙ row_said b wb y (λ z. r (z ∙ sym o)) (b.row y) refl

  same_row : (y : ℕ) → (a.nodes ≤ y) ⊎ (y < a.nodes) → (y ≡ a.origin) ⊎ (y ≢ a.origin) → a.row y ≡ b.row y
  same_row y (inl h) r = no_row a wa y h (a.row y) refl ∙ sym (no_row b wb y (rw (← n) h) (b.row y) refl)
  same_row y (inr h) (inl e) =
      ap a.row e ∙ wa.origin_row ∙ ap (λ (i : ℕ). root (own i)) o ∙ sym (ap b.row (e ∙ o) ∙ wb.origin_row)
  same_row y (inr h) (inr r) = relay_row y h r

  pub same_image : a ≡ b
  same_image =
      same_net a b stays (λ s r. same_cost s r (bool_cases (pair_fault_of a.nodes s r)))
      (λ y. same_row y (le_or_lt a.nodes y) (eq_or_ne y a.origin)) (λ s r. same_held s r (bool_cases (pair_fault_of a.nodes s r)))
