-- What a record placed in a network changes: the bytes of one rank, and nothing else.
-- Assumes nothing.
use mathlib.Core.Path.{◌≡◌, refl, sym, ap, subst, ◌∙◌}
use mathlib.Core.Bool.{Bool, true, false, cond}
use mathlib.Core.List.{List, []}
use mathlib.Core.Logic.{◌⊎◌, inl, inr, ◌≢◌}
use Prim.Native.Nat.{ℕ, ◌-◌, ◌/◌, ◌%◌, ◌<◌, ◌≤◌}
use native.Mathlib.Omega.{arith}
use lib.Dec.{ltb}
use lib.ListN.{length}
use borrow.Author.Tests.{eq-eqb, ne_eqb, ltb-true, ltb-false}
use Rattle.ancestors.proofs.Cases.{eq_or_ne}
use Rattle.network.specs.Faults.{pair_count, node_fault, pair_fault_of}
use Rattle.network.specs.Network.{Row, via, Report, empty, told, Net, Within, with_row, with_held}
use Rattle.network.specs.Placing.{place_row_number, place_report_number}
use Rattle.network.specs.Change.{changed, change_number}
use Rattle.network.proofs.Accepting.{change_accepted, place_row_accepted, place_report_accepted}
use Rattle.network.proofs.Effects.{Stays, nodes_stay, net_accepted, change_outcome, place_row_outcome, place_report_outcome, SamePair, same_pair, change_effect, place_row_effect, place_report_effect}
use Rattle.network.proofs.FaultLaws.{node_says, pair_says}
use Rattle.network.proofs.Keeping.{change_within, place_row_within, place_report_within}
use Rattle.network.proofs.Limits.{within_size, within_report}
use Rattle.records.specs.Records.{arc_record_of, row_record_of, report_record_of}
use Rattle.records.specs.Image.{arc_bytes, row_bytes, report_bytes}
use Rattle.records.specs.Opening.{first_row, first_report, arc_rank, row_rank, report_rank}
use Rattle.records.proofs.Ranks.{of_pair, of_node, rank_bytes, rank_arc, rank_row, rank_report}
use Rattle.records.proofs.Sizes.{arc_long}

-- ---- ranks and pairs

-- the rank of a pair gives the pair back
pub pair_rank : (s r : ℕ) → r < 32 → (arc_rank s r / 32 ≡ s) × (arc_rank s r % 32 ≡ r)
unfolding arc_rank
pair_rank s r h = (omega arith, omega arith)

-- the pair with number i has the rank i
pub rank_pair : (i : ℕ) → arc_rank (i / 32) (i % 32) ≡ i
unfolding arc_rank
rank_pair i = omega arith

pub pair_rank_small : (s r : ℕ) → s < 32 → r < 32 → arc_rank s r < pair_count
unfolding arc_rank
pair_rank_small s r a b = omega arith

-- another number stands for another pair
other_pair : (i s r : ℕ) → i ≢ arc_rank s r → SamePair (i / 32) (i % 32) s r → ⊥
other_pair i s r n e = n (sym (rank_pair i) ∙ ap (λ (a : ℕ). arc_rank a (i % 32)) e.0 ∙ ap (arc_rank s) e.1)

-- ---- networks that agree where a rank looks have the same bytes there

cond_same : {A : Type 0} (t : Bool) {x y a b : A} → (t ≡ true → x ≡ a) → (t ≡ false → y ≡ b) → cond t x y ≡ cond t a b
cond_same true f g = f refl
cond_same false f g = g refl

pub rank_same : (a b : Net) (i : ℕ) → a.nodes ≡ b.nodes → (i < first_row → a.cost (i / 32) (i % 32) ≡ b.cost (i / 32) (i % 32)) →
    (first_row ≤ i → i < first_report → a.row (i - first_row) ≡ b.row (i - first_row)) →
    (first_report ≤ i → a.held ((i - first_report) / 32) ((i - first_report) % 32) ≡ b.held ((i - first_report) / 32) ((i - first_report) % 32)) → rank_bytes a i ≡ rank_bytes b i
unfolding rank_bytes of_pair of_node
rank_same a b i n c w h =
    cond_same (ltb i first_row)
    (λ t. both (pair_fault_of a.nodes (i / 32) (i % 32)) (pair_fault_of b.nodes (i / 32) (i % 32)) (ap (λ (m : ℕ). pair_fault_of m (i / 32) (i % 32)) n)
    (ap (arc_bytes (i / 32) (i % 32)) (c (ltb-true i first_row t))))
    (λ t. cond_same (ltb i first_report)
    (λ u. both (node_fault a.nodes (i - first_row)) (node_fault b.nodes (i - first_row)) (ap (λ (m : ℕ). node_fault m (i - first_row)) n)
    (ap (row_bytes (i - first_row)) (w (ltb-false i first_row t) (ltb-true i first_report u))))
    (λ u. both (pair_fault_of a.nodes (j / 32) (j % 32)) (pair_fault_of b.nodes (j / 32) (j % 32)) (ap (λ (m : ℕ). pair_fault_of m (j / 32) (j % 32)) n)
    (ap (report_bytes (j / 32) (j % 32)) (h (ltb-false i first_report u)))))
  where
    j : ℕ
    j = i - first_report

    both : (t u : Bool) {x y : List ℕ} → t ≡ u → x ≡ y → cond t [] x ≡ cond u [] y
    both t u {x} {y} e f = ap (λ (q : Bool). cond q [] x) e ∙ ap (cond u []) f

-- ---- the bytes of one rank

pub arc_here : (x : Net) (s r : ℕ) → s < 32 → r < 32 → pair_fault_of x.nodes s r ≡ false → rank_bytes x (arc_rank s r) ≡ arc_bytes s r (x.cost s r)
unfolding of_pair
arc_here x s r a b e =
    let p = pair_rank s r b in
    rank_arc x (arc_rank s r) (pair_rank_small s r a b) ∙ rw (p.0, p.1, e)

pub row_here : (x : Net) (y : ℕ) → y < 32 → node_fault x.nodes y ≡ false → rank_bytes x (row_rank y) ≡ row_bytes y (x.row y)
unfolding of_node row_rank
row_here x y a e = rank_row x y a ∙ rw e

pub report_here : (x : Net) (s r : ℕ) → r < 32 → pair_fault_of x.nodes s r ≡ false → rank_bytes x (report_rank s r) ≡ report_bytes s r (x.held s r)
unfolding of_pair report_rank
report_here x s r b e =
    let p = pair_rank s r b in
    rank_report x (arc_rank s r) ∙ rw (p.0, p.1, e)

-- what is not a pair of different nodes, or not a node, has none
pub arc_off : (x : Net) (s r : ℕ) → s < 32 → r < 32 → pair_fault_of x.nodes s r ≡ true → rank_bytes x (arc_rank s r) ≡ []
unfolding of_pair
arc_off x s r a b e =
    let p = pair_rank s r b in
    rank_arc x (arc_rank s r) (pair_rank_small s r a b) ∙ rw (p.0, p.1, e)

pub row_off : (x : Net) (y : ℕ) → y < 32 → node_fault x.nodes y ≡ true → rank_bytes x (row_rank y) ≡ []
unfolding of_node row_rank
row_off x y a e = rank_row x y a ∙ rw e

pub report_off : (x : Net) (s r : ℕ) → r < 32 → pair_fault_of x.nodes s r ≡ true → rank_bytes x (report_rank s r) ≡ []
unfolding of_pair report_rank
report_off x s r b e =
    let p = pair_rank s r b in
    rank_report x (arc_rank s r) ∙ rw (p.0, p.1, e)

-- an arc has bytes
pub arc_some : (s r c : ℕ) → c ≢ 0 → arc_bytes s r c ≡ arc_record_of s r c
unfolding arc_bytes
arc_some s r c n = rw (ne_eqb c 0 n)

pub arc_none : (s r c : ℕ) → c ≡ 0 → arc_bytes s r c ≡ []
unfolding arc_bytes
arc_none s r c e = rw (eq-eqb c 0 e)

-- without bytes there is no arc
no_arc : (s r c : ℕ) → arc_bytes s r c ≡ [] → (c ≡ 0) ⊎ (c ≢ 0) → c ≡ 0
no_arc s r c e (inl z) = z
no_arc s r c e (inr n) = absurd (omega (arith, ap length (sym (arc_some s r c n) ∙ e), arc_long s r c))

-- a pair without an arc holds no report
no_report : (x : Net) → Within x → (s r : ℕ) → x.cost s r ≡ 0 → x.held s r ≡ empty
no_report x w s r e = go (x.held s r) refl
  where
    go : (h : Report) → x.held s r ≡ h → h ≡ empty
    go empty q = refl
    go (told d l) q = absurd (omega (arith, (within_report x w s r d l q).arc))

-- ---- a record placed

-- z is x with the bytes w at the rank k
pub record PlacedAt (x z : Net) (k : ℕ) (w : List ℕ) : Type 0 where
  pub here : rank_bytes z k ≡ w
  pub others : (i : ℕ) → i ≢ k → rank_bytes z i ≡ rank_bytes x i
  pub stays : Stays x z
  pub within : Within z

pub arc_placed : (x : Net) → Within x → (s r c : ℕ) → change_number x s r c ≡ 0 → c ≢ 0 → rank_bytes x (arc_rank s r) ≡ [] →
    PlacedAt x (changed x s r c) (arc_rank s r) (arc_record_of s r c)
arc_placed x w s r c e n z =
    let f = change_effect x s r c in
    let ok = (change_accepted x s r c e).0 in
    let pair = pair_says x.nodes s r ok in
    let few = (within_size x w).1 in
    let none = no_arc s r (x.cost s r) (sym (arc_here x s r (omega (arith, pair.0)) (omega (arith, pair.1)) ok) ∙ z) (eq_or_ne (x.cost s r) 0) in
    record {
      here =
          arc_here (changed x s r c) s r (omega (arith, pair.0)) (omega (arith, pair.1)) (rw (nodes_stay f.stays) ok) ∙ ap (arc_bytes s r) f.cost_here ∙
          arc_some s r c n;
      others = λ i d. rank_same (changed x s r c) x i (nodes_stay f.stays) (λ _. f.cost_else (i / 32) (i % 32) (other_pair i s r d))
          (λ _ _. ap (λ (g : ℕ → Row). g (i - first_row)) f.row)
          (λ _. held none ((i - first_report) / 32) ((i - first_report) % 32) (same_pair ((i - first_report) / 32) ((i - first_report) % 32) s r));
      stays = f.stays;
      within = subst Within (net_accepted _ _ _ (change_outcome x s r c) e) (change_within x w s r c);
    }
  where
    held : x.cost s r ≡ 0 → (a b : ℕ) → SamePair a b s r ⊎ (SamePair a b s r → ⊥) → (changed x s r c).held a b ≡ x.held a b
    held q a b (inl k) =
        rw (k.0, k.1) ((change_effect x s r c).held_new q ∙ sym (no_report x w s r q))
    held q a b (inr k) = (change_effect x s r c).held_else a b k

pub row_placed : (x : Net) → Within x → (y d p l : ℕ) → place_row_number x y d p l ≡ 0 →
    PlacedAt x (with_row x y (via d p l)) (row_rank y) (row_record_of y d p l)
unfolding row_bytes row_rank
row_placed x w y d p l e =
    let z = with_row x y (via d p l) in
    let f = place_row_effect x y (via d p l) in
    let ok = (place_row_accepted x y d p l e).0 in
    let few = (within_size x w).1 in
    record {
      here = row_here z y (omega (arith, node_says x.nodes y ok)) (rw (nodes_stay f.stays) ok) ∙ ap (row_bytes y) f.row_here;
      others = λ i n. rank_same z x i (nodes_stay f.stays) (λ _. ap (λ (g : ℕ → ℕ → ℕ). g (i / 32) (i % 32)) f.cost)
          (λ a b. f.row_else (i - first_row) (λ q. n (omega arith)))
          (λ _. ap (λ (g : ℕ → ℕ → Report). g ((i - first_report) / 32) ((i - first_report) % 32)) f.held);
      stays = f.stays;
      within = subst Within (net_accepted _ _ _ (place_row_outcome x y d p l) e) (place_row_within x w y d p l);
    }

pub report_placed : (x : Net) → Within x → (s r d l : ℕ) → place_report_number x s r d l ≡ 0 →
    PlacedAt x (with_held x s r (told d l)) (report_rank s r) (report_record_of s r d l)
unfolding report_bytes report_rank
report_placed x w s r d l e =
    let z = with_held x s r (told d l) in
    let f = place_report_effect x s r (told d l) in
    let ok = (place_report_accepted x s r d l e).0 in
    let pair = pair_says x.nodes s r ok in
    let few = (within_size x w).1 in
    record {
      here = report_here z s r (omega (arith, pair.1)) (rw (nodes_stay f.stays) ok) ∙ ap (report_bytes s r) f.held_here;
      others = λ i n. rank_same z x i (nodes_stay f.stays) (λ _. ap (λ (g : ℕ → ℕ → ℕ). g (i / 32) (i % 32)) f.cost)
          (λ _ _. ap (λ (g : ℕ → Row). g (i - first_row)) f.row)
          (λ a. f.held_else ((i - first_report) / 32) ((i - first_report) % 32) (other_pair (i - first_report) s r (λ q. n (omega arith))));
      stays = f.stays;
      within = subst Within (net_accepted _ _ _ (place_report_outcome x s r d l) e) (place_report_within x w s r d l);
    }
