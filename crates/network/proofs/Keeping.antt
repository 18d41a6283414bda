-- Every call on a network within limits leaves one within limits, refused calls too.
-- Assumes nothing.
use mathlib.Core.Path.{◌≡◌, sym, ap, ◌∙◌}
use mathlib.Core.Bool.{false}
use mathlib.Core.Logic.{◌⊎◌, inl, inr, ◌≢◌}
use mathlib.Core.List.{List}
use Prim.Native.Nat.{ℕ, ◌<◌, ◌≤◌}
use native.Mathlib.Omega.{arith}
use Rattle.ancestors.proofs.Cases.{eq_or_ne}
use Rattle.network.specs.Faults.{max_cost, size_fault, node_fault, pair_fault_of, row_fault_of, report_fault_of}
use Rattle.network.specs.Network.{root, via, told, Net, Within, outcome, fresh_net, fresh_number, fresh_of, with_row, with_held}
use Rattle.network.specs.Placing.{place_row_number, place_row_of, place_report_number, place_report_of}
use Rattle.network.specs.Round.{marked, round, round_number, round_of, every_arc, full_round_of}
use Rattle.network.specs.Change.{changed, change_number, change_of, grade_cost_of, grade_number, grade_of}
use Rattle.network.proofs.Distinct.{root_via, none_root, none_via, empty_told}
use Rattle.network.proofs.FaultLaws.{size_free, cost_says, row_says, report_free}
use Rattle.network.proofs.Limits.{within_report, arc_limits, row_limits, within_by}
use Rattle.network.proofs.Grades.{grade_small}
use Rattle.network.proofs.Accepting.{fresh_accepted, change_accepted, grade_accepted, place_row_accepted, place_report_accepted}
use Rattle.network.proofs.Effects.{nodes_stay, origin_stay, refused_net, accepted_net, SamePair, same_pair, round_effect, ChangeEffect, change_effect, FreshEffect, fresh_effect, PlaceRowEffect, place_row_effect, PlaceReportEffect, place_report_effect}
use Rattle.network.proofs.Marking.{round_accepted, every_arc_lem}
use Rattle.network.proofs.RoundLimits.{rounded_within}

-- ---- outcomes

-- an outcome is within limits if the network that it may leave is, and the one that it gives if it is accepted
outcome_within : (k : ℕ) (next x : Net) → Within x → (k ≡ 0 → Within next) → Within (outcome k next x).net
outcome_within k next x w f = go (eq_or_ne k 0)
  where
    go : (k ≡ 0) ⊎ (k ≢ 0) → Within (outcome k next x).net
    go (inl e) = rw (accepted_net k next x e) (f e)
    go (inr n) = rw (refused_net k next x n) w

-- ---- fresh

-- without arcs and routes there is nothing but the size to test
fresh_net_within : (n origin : ℕ) (z : Net) → FreshEffect n origin z → size_fault n origin ≡ false → Within z
fresh_net_within n origin z f e =
    record {
      size = rw (n_is, o_is) e;
      arc_pair = λ s r h. absurd (omega (arith, f.cost s r));
      arc_cost = λ s r. omega (arith, f.cost s r);
      origin_row = rw o_is f.origin_row;
      origin_only = λ y l q. rw o_is (only y l q (eq_or_ne y origin));
      row_node = λ y d p l q. no_via y d p l q (eq_or_ne y origin);
      row_form = λ y d p l q. no_via y d p l q (eq_or_ne y origin);
      report_form = λ s r d l q. empty_told (z.held s r) (f.held s r) q;
    }
  where
    n_is : z.nodes ≡ n
    n_is = nodes_stay f.framed

    o_is : z.origin ≡ origin
    o_is = origin_stay f.framed

    only : (y l : ℕ) → z.row y ≡ root l → (y ≡ origin) ⊎ (y ≢ origin) → y ≡ origin
    only y l q (inl k) = k
    only y l q (inr k) = none_root (z.row y) (f.relay_row y k) q

    no_via : {A : Type 0} (y d p l : ℕ) → z.row y ≡ via d p l → (y ≡ origin) ⊎ (y ≢ origin) → A
    no_via y d p l q (inl k) = root_via (z.row y) (ap z.row k ∙ f.origin_row) q
    no_via y d p l q (inr k) = none_via (z.row y) (f.relay_row y k) q

pub fresh_within : (n origin : ℕ) → Within (fresh_of n origin).net
unfolding fresh_of
fresh_within n origin =
    outcome_within (fresh_number n origin) (fresh_net n origin) (fresh_net 1 0)
    (fresh_net_within 1 0 (fresh_net 1 0) (fresh_effect 1 0) (size_free 1 0 (omega arith) (omega arith) (omega arith)))
    (λ e. fresh_net_within n origin (fresh_net n origin) (fresh_effect n origin) (fresh_accepted n origin e))

-- ---- change and grade

module _ (x : Net) (w : Within x) (s r c : ℕ) (z : Net) (f : ChangeEffect x s r c z) where
  -- an arc after the change is the changed one, or was there before
  changed_pair : pair_fault_of x.nodes s r ≡ false → (a b : ℕ) → SamePair a b s r ⊎ (SamePair a b s r → ⊥) → 0 < z.cost a b →
      pair_fault_of x.nodes a b ≡ false
  changed_pair e a b (inl k) h = rw (k.0, k.1) e
  changed_pair e a b (inr k) h = w.arc_pair a b (omega (arith, f.cost_else a b k))

  changed_cost : c ≤ max_cost → (a b : ℕ) → SamePair a b s r ⊎ (SamePair a b s r → ⊥) → z.cost a b ≤ max_cost
  changed_cost h a b (inl k) = rw (k.0, k.1) (omega (arith, f.cost_here))
  changed_cost h a b (inr k) = omega (arith, f.cost_else a b k, w.arc_cost a b)

  -- what the changed pair holds it held before, and over an arc that stays
  changed_here : (d l : ℕ) → (x.cost s r ≡ 0) ⊎ (x.cost s r ≢ 0) → (c ≡ 0) ⊎ (c ≢ 0) → z.held s r ≡ told d l →
      report_fault_of x.nodes (z.cost s r) s d l ≡ false
  changed_here d l (inl k) j q = empty_told (z.held s r) (f.held_new k) q
  changed_here d l (inr k) (inl j) q = empty_told (z.held s r) (f.held_removed j) q
  changed_here d l (inr k) (inr j) q =
      let old = within_report x w s r d l (sym (f.held_kept k j) ∙ q) in
      report_free x.nodes (z.cost s r) s d l
      (record { arc = omega (arith, j, f.cost_here); label = old.label; bits = old.bits; own = old.own })

  changed_report : (a b d l : ℕ) → SamePair a b s r ⊎ (SamePair a b s r → ⊥) → z.held a b ≡ told d l →
      report_fault_of x.nodes (z.cost a b) a d l ≡ false
  changed_report a b d l (inl k) q =
      rw (k.0, k.1) (changed_here d l (eq_or_ne (x.cost s r) 0) (eq_or_ne c 0) (rw (k.0, k.1) at q))
  changed_report a b d l (inr k) q = rw (f.cost_else a b k) (w.report_form a b d l (sym (f.held_else a b k) ∙ q))

  changed_within : pair_fault_of x.nodes s r ≡ false → c ≤ max_cost → Within z
  changed_within e h =
      within_by x z w f.stays
      (record { pair = λ a b k. changed_pair e a b (same_pair a b s r) k; small = λ a b. changed_cost h a b (same_pair a b s r) })
      (rw f.row (row_limits w)) (λ a b d l q. changed_report a b d l (same_pair a b s r) q)

pub change_within : (x : Net) → Within x → (s r c : ℕ) → Within (change_of x s r c).net
unfolding change_of
change_within x w s r c = outcome_within (change_number x s r c) (changed x s r c) x w next
  where
    next : change_number x s r c ≡ 0 → Within (changed x s r c)
    next e =
        let k = change_accepted x s r c e in
        changed_within x w s r c (changed x s r c) (change_effect x s r c) k.0 (cost_says c k.1)

pub grade_within : (x : Net) → Within x → (s r g : ℕ) → Within (grade_of x s r g).net
unfolding grade_of
grade_within x w s r g = outcome_within (grade_number x s r g) (changed x s r c) x w next
  where
    c : ℕ
    c = grade_cost_of g

    next : grade_number x s r g ≡ 0 → Within (changed x s r c)
    next e = changed_within x w s r c (changed x s r c) (change_effect x s r c) (grade_accepted x s r g e).0 (grade_small g)

-- ---- rounds

pub round_within : (x : Net) → Within x → (ms : List ℕ) → Within (round_of x ms).net
unfolding round_of
round_within x w ms =
    outcome_within (round_number x ms) (round (marked ms) x) x w
    (λ e. rounded_within x w (marked ms) (round_accepted x ms e).arcs (round (marked ms) x) (round_effect (marked ms) x))

pub full_round_within : (x : Net) → Within x → Within (full_round_of x).net
unfolding full_round_of
full_round_within x w =
    outcome_within 0 (round (every_arc x) x) x w
    (λ e. rounded_within x w (every_arc x) (every_arc_lem x) (round (every_arc x) x) (round_effect (every_arc x) x))

-- ---- a row or a report placed

module _ (x : Net) (w : Within x) (y d p l : ℕ) (z : Net) (f : PlaceRowEffect x y (via d p l) z) where
  -- a row of z with a route is the one placed, or of x
  placed_row : {A : Type 0} (a e q k : ℕ) → z.row a ≡ via e q k → (a ≡ y → d ≡ e → p ≡ q → l ≡ k → A) → (x.row a ≡ via e q k → A) → A
  placed_row {A} a e q k h new old = go (eq_or_ne a y)
    where
      go : (a ≡ y) ⊎ (a ≢ y) → A
      go (inl i) =
          let same : via d p l ≡ via e q k = sym f.row_here ∙ sym (ap z.row i) ∙ h in
          new i (cc) (cc) (cc)
      go (inr i) = old (sym (f.row_else a i) ∙ h)

  -- the placed row is not the origin's
  placed_origin : (a k : ℕ) → z.row a ≡ root k → (a ≡ y) ⊎ (a ≢ y) → a ≡ x.origin
  placed_origin a k h (inl i) = root_via (z.row a) h (ap z.row i ∙ f.row_here)
  placed_origin a k h (inr i) = w.origin_only a k (sym (f.row_else a i) ∙ h)

  placed_row_within : node_fault x.nodes y ≡ false → row_fault_of x.nodes x.origin y d p l ≡ false → Within z
  placed_row_within node form =
      within_by x z w f.stays (rw f.cost (arc_limits w))
      (record {
        origin_row = f.row_else x.origin (λ e. (row_says x.nodes x.origin y d p l form).relay (sym e)) ∙ w.origin_row;
        origin_only = λ a k h. placed_origin a k h (eq_or_ne a y);
        node = λ a e q k h. placed_row a e q k h (λ i _ _ _. rw i node) (w.row_node a e q k);
        form = λ a e q k h. placed_row a e q k h (λ i g j m. rw (i, ← g, ← j, ← m) form) (w.row_form a e q k);
      })
      (λ s r e k h. rw f.cost (w.report_form s r e k (rw f.held at h)))

pub place_row_within : (x : Net) → Within x → (y d p l : ℕ) → Within (place_row_of x y d p l).net
unfolding place_row_of
place_row_within x w y d p l = outcome_within (place_row_number x y d p l) (with_row x y (via d p l)) x w next
  where
    next : place_row_number x y d p l ≡ 0 → Within (with_row x y (via d p l))
    next e =
        let k = place_row_accepted x y d p l e in
        placed_row_within x w y d p l (with_row x y (via d p l)) (place_row_effect x y (via d p l)) k.0 k.1

module _ (x : Net) (w : Within x) (s r d l : ℕ) (z : Net) (f : PlaceReportEffect x s r (told d l) z) where
  -- a report that z holds is the one placed, or of x
  placed_form : report_fault_of x.nodes (x.cost s r) s d l ≡ false → (a b e k : ℕ) → z.held a b ≡ told e k →
      SamePair a b s r ⊎ (SamePair a b s r → ⊥) → report_fault_of x.nodes (x.cost a b) a e k ≡ false
  placed_form form a b e k h (inl i) =
      let here : z.held s r ≡ told e k = rw (i.0, i.1) at h in
      let same : told d l ≡ told e k = sym f.held_here ∙ here in
      let g : d ≡ e = cc in
      let j : l ≡ k = cc in
      rw (i.0, i.1, ← g, ← j) form
  placed_form form a b e k h (inr i) = w.report_form a b e k (sym (f.held_else a b i) ∙ h)

  placed_report_within : report_fault_of x.nodes (x.cost s r) s d l ≡ false → Within z
  placed_report_within form =
      within_by x z w f.stays (rw f.cost (arc_limits w)) (rw f.row (row_limits w))
      (λ a b e k q. rw f.cost (placed_form form a b e k q (same_pair a b s r)))

pub place_report_within : (x : Net) → Within x → (s r d l : ℕ) → Within (place_report_of x s r d l).net
unfolding place_report_of
place_report_within x w s r d l = outcome_within (place_report_number x s r d l) (with_held x s r (told d l)) x w next
  where
    next : place_report_number x s r d l ≡ 0 → Within (with_held x s r (told d l))
    next e =
        placed_report_within x w s r d l (with_held x s r (told d l)) (place_report_effect x s r (told d l))
        (place_report_accepted x s r d l e).1
