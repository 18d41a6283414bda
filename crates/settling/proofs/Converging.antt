-- Over a run: after (n - 1) W rounds every label is a real route's cost, from `settled_from` on every row is the settled one.
-- Assumes nothing.
use mathlib.Core.Path.{◌≡◌, refl, sym, ap, subst, ◌∙◌}
use mathlib.Core.Logic.{◌⊎◌, inl, inr, ◌≢◌}
use Prim.Native.Nat.{ℕ, suc, ◌+◌, ◌*◌, ◌-◌, ◌<◌, ◌≤◌}
use native.Mathlib.Omega.{arith}
use native.Mathlib.Nat.{mul-le-mul_right}
use Rattle.ancestors.proofs.Cases.{eq_or_ne, clash}
use Rattle.network.specs.Network.{Row, none, root, via, told}
use Rattle.network.specs.Round.{report}
use Rattle.settling.specs.Settled.{Walk, Settled, fixed, unreached, Real, no_label, origin_label, relay_label}
use Rattle.settling.specs.Bounds.{settled_from}
use Rattle.network.proofs.Reports.{root_told, via_told}
use Rattle.settling.proofs.Routes.{route_short}
use Rattle.settling.proofs.SettledBy.{SettledBy, by_route, by_relay, by_settled}
use Rattle.settling.proofs.Existing.{found}
use Rattle.settling.proofs.Run.{Run, no_root}
use Rattle.settling.proofs.Genuine.{Genuine, genuine}
use Rattle.settling.proofs.Sound.{sound_row}
use Rattle.settling.proofs.Standing.{stands}
use Rattle.settling.proofs.Bounds.{settled_from_lem}

module _ (run : Run) where
  open run use {n, origin, cost, W, T, row, held}

  -- after (n - 1) W rounds every label is the cost of a real route
  pub all_real : (n - 1) * W ≤ T → (y : ℕ) → y < n → Real cost origin y (row T y)
  all_real a y b = go (row T y) refl
    where
      real : (d l : ℕ) → report (row T y) ≡ told d l → Genuine run y d l
      real d l e = genuine run T y d l a (omega arith) b e

      go : (w : Row) → row T y ≡ w → Real cost origin y w
      go none e = no_label
      go (root l) e = origin_label (real 0 l (root_told e)).1
      go (via d p l) e = relay_label (real d l (via_told e)).1

  module _ (long : settled_from n W ≤ T) where
    -- that many rounds are enough for a relay: then there are two nodes
    enough : (y : ℕ) → y ≢ origin → y < n → (W ≤ T) × ((2 * n - 4) * W + 1 ≤ T)
    enough y relay b =
        let e = settled_from_lem n W run.positive (omega (arith, run.ends.origin_node, relay)) in
        (omega (arith, e.0), omega (arith, e.1))

    -- a settled route has at most n - 1 arcs, so by then every settled row stands
    row_settled : {y k d l : ℕ} {w : Row} → y ≢ origin → y < n → SettledBy cost origin y k d l w → row T y ≡ w
    row_settled {y} {k} relay b x =
        let e = enough y relay b in
        let short : k < n = route_short cost origin n run.ends (by_route cost origin x) in
        let few : (n - 2) + k ≤ suc (2 * n - 4) = omega (arith, run.ends.origin_node, relay) in
        stands run x T (omega (arith, e.1, mul-le-mul_right W few)) (λ some. e.0) (omega arith)

    -- where a walk leads, the row has a route and is the settled one
    reached_row : (y k d : ℕ) → y ≢ origin → y < n → Walk cost origin y k d →
        (e p l : ℕ) × (row T y ≡ via e p l) × Settled cost origin y (row T y)
    reached_row y k d relay b walk =
        let f = found n origin cost run.ends y k d walk in
        let r = by_relay cost origin relay f.2.by in
        let e : row T y ≡ f.2.row = row_settled relay b f.2.by in
        (f.1, r.0, f.2.list, e ∙ r.1, subst (Settled cost origin y) (sym e) (by_settled cost origin f.2.by))

    -- no route is settled where no walk leads, and a route comes with a walk
    relay_settled : (y : ℕ) → y ≢ origin → y < n → Settled cost origin y (row T y)
    relay_settled y relay b = go (row T y) refl
      where
        e : (W ≤ T) × ((2 * n - 4) * W + 1 ≤ T)
        e = enough y relay b

        less : n - 2 ≤ 2 * n - 4
        less = omega (arith, run.ends.origin_node, relay)

        go : (w : Row) → row T y ≡ w → Settled cost origin y w
        go none h = unreached (λ k d walk. let x = reached_row y k d relay b walk in clash (cc x.3))
        go (root l) h = absurd (no_root run T y l (omega (arith, e.1)) (omega arith) b relay h)
        go (via d p l) h =
            let g = sound_row run T y d l (omega (arith, e.1, mul-le-mul_right W less)) (omega arith) b relay (via_told h) in
            subst (Settled cost origin y) h (reached_row y g.arcs g.sum relay b g.walk).4

    -- from then on every row is the settled row
    pub all_settled : (y : ℕ) → y < n → Settled cost origin y (row T y)
    all_settled y b = go (eq_or_ne y origin)
      where
        go : (y ≡ origin) ⊎ (y ≢ origin) → Settled cost origin y (row T y)
        go (inl e) = subst (Settled cost origin y) (sym (ap (row T) e ∙ run.origin_row T (omega arith))) (fixed e)
        go (inr relay) = relay_settled y relay b
