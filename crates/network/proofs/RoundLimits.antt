-- A round whose marks lie on arcs keeps a network within limits.
-- Assumes nothing.
use mathlib.Core.Path.{◌≡◌, refl, sym, ap, ◌∙◌}
use mathlib.Core.Bool.{true, false}
use mathlib.Core.Logic.{◌⊎◌, inl, inr, ◌≢◌}
use Prim.Native.Nat.{ℕ, ◌<◌, ◌≤◌}
use native.Mathlib.Omega.{arith}
use lib.Pow.{pow_pos}
use Rattle.ancestors.specs.Ancestors.{own}
use Rattle.ancestors.proofs.Cases.{bool_cases, eq_or_ne, le_or_lt}
use Rattle.ancestors.proofs.Laws.{has_put_same, put_below}
use Rattle.network.specs.Faults.{node_fault, row_fault_of}
use Rattle.network.specs.Network.{Row, none, root, via, empty, told, Net, Within}
use Rattle.network.specs.Round.{Marks, report, choice}
use Rattle.network.proofs.Choosing.{Came, came, choice_no_root}
use Rattle.network.proofs.Distinct.{root_via, empty_told}
use Rattle.network.proofs.FaultLaws.{node_free, ReportForm, report_says, report_free, RowForm, row_free}
use Rattle.network.proofs.Limits.{within_size, within_arc, within_row, arc_limits, within_by}
use Rattle.network.proofs.Effects.{RoundEffect}

module _ (x : Net) (w : Within x) where
  -- what a row reports has no fault over an arc
  reported : (s d l c : ℕ) (v : Row) → x.row s ≡ v → report v ≡ told d l → 0 < c → ReportForm x.nodes c s d l
  unfolding report
  reported s d l c none e q h = empty_told empty refl q
  reported s d l c (root k) e q h =
      let size = within_size x w in
      let so : s ≡ x.origin = w.origin_only s k e in
      let ko : root k ≡ root (own s) = sym e ∙ rw so w.origin_row in
      let lo : l ≡ own s = cc in
      let dz : d ≡ 0 = cc in
      record {
        arc = h;
        label = omega arith;
        bits = rw lo (put_below x.nodes 0 s (pow_pos x.nodes) (omega arith));
        own = rw lo (has_put_same 0 s);
      }
  reported s d l c (via e' p k) e q h =
      let f = within_row x w s e' p k e in
      let de : e' ≡ d = cc in
      let le : k ≡ l = cc in
      record { arc = h; label = omega arith; bits = rw le at f.bits; own = rw le at f.own }

  module _ (m : Marks) (on-arcs : (s r : ℕ) → m s r ≡ true → 0 < x.cost s r) (z : Net) (f : RoundEffect m x z) where
    -- a report held after the round was reported in it, or held before
    heard_form : (s r d l : ℕ) → z.held s r ≡ told d l → ReportForm x.nodes (x.cost s r) s d l
    heard_form s r d l q = go (bool_cases (m s r))
      where
        go : (m s r ≡ true) ⊎ (m s r ≡ false) → ReportForm x.nodes (x.cost s r) s d l
        go (inl e) = reported s d l (x.cost s r) (x.row s) refl (sym (f.marked s r e) ∙ q) (on-arcs s r e)
        go (inr e) = report_says x.nodes (x.cost s r) s d l (w.report_form s r d l (sym (f.unmarked s r e) ∙ q))

    -- a row is the origin's, or chosen in the round, or beyond the nodes as before
    row_cases : {A : Type 0} (y : ℕ) → (y ≡ x.origin → z.row y ≡ root (own x.origin) → A) →
        (y < x.nodes → y ≢ x.origin → z.row y ≡ choice x.nodes (λ s. x.cost s y) (λ s. z.held s y) y → A) →
        (z.row y ≡ x.row y → A) → A
    row_cases {A} y first chosen kept = go (eq_or_ne y x.origin) (le_or_lt x.nodes y)
      where
        go : (y ≡ x.origin) ⊎ (y ≢ x.origin) → (x.nodes ≤ y) ⊎ (y < x.nodes) → A
        go (inl e) b = first e (ap z.row e ∙ f.origin_row ∙ w.origin_row)
        go (inr e) (inl b) = kept (f.beyond y b)
        go (inr e) (inr b) = chosen b e (f.renewed y b e)

    -- a chosen row has no fault
    chosen_form : (y d p l : ℕ) → y < x.nodes → y ≢ x.origin → Came x.nodes (λ s. x.cost s y) (λ s. z.held s y) y d p l →
        RowForm x.nodes x.origin y d p l
    chosen_form y d p l b ne c =
        let o = c.offered in
        let from = heard_form p y o.label o.list o.is in
        let ends = within_arc x w p y from.arc in
        record {
          relay = ne;
          positive = omega (arith, o.total);
          label = o.fits;
          below = c.below;
          other = ends.2;
          bits = rw c.list (put_below x.nodes o.list y from.bits b);
          own = rw c.list (has_put_same o.list y);
        }

    round_row_form : (y d p l : ℕ) → z.row y ≡ via d p l → row_fault_of x.nodes x.origin y d p l ≡ false
    round_row_form y d p l q =
        row_cases y (λ e o. root_via (z.row y) o q)
        (λ b ne e. row_free x.nodes x.origin y d p l (chosen_form y d p l b ne (came x.nodes (λ s. x.cost s y) (λ s. z.held s y)
        y d p l (sym e ∙ q))))
        (λ e. w.row_form y d p l (sym e ∙ q))

    round_row_node : (y d p l : ℕ) → z.row y ≡ via d p l → node_fault x.nodes y ≡ false
    round_row_node y d p l q =
        row_cases y (λ e o. root_via (z.row y) o q) (λ b ne e. node_free x.nodes y b) (λ e. w.row_node y d p l (sym e ∙ q))

    round_origin_only : (y l : ℕ) → z.row y ≡ root l → y ≡ x.origin
    round_origin_only y l q =
        row_cases y (λ e o. e)
        (λ b ne e. absurd (choice_no_root x.nodes (λ s. x.cost s y) (λ s. z.held s y) y l (sym e ∙ q)))
        (λ e. w.origin_only y l (sym e ∙ q))

    pub rounded_within : Within z
    rounded_within =
        within_by x z w f.stays (rw f.cost (arc_limits w))
        (record { origin_row = f.origin_row ∙ w.origin_row; origin_only = round_origin_only; node = round_row_node; form = round_row_form })
        (λ s r d l q. rw f.cost (report_free x.nodes (x.cost s r) s d l (heard_form s r d l q)))
