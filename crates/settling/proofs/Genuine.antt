-- After (n - 1) W rounds what every row reports is a real route, with its cost and its list.
-- Assumes nothing.
use mathlib.Core.Path.{◌≡◌, sym, subst, ◌∙◌}
use mathlib.Core.Logic.{◌⊎◌, inl, inr, ◌≢◌}
use Prim.Native.Nat.{ℕ, suc, ◌*◌, ◌-◌, ◌<◌, ◌≤◌}
use native.Mathlib.Omega.{arith}
use Rattle.ancestors.specs.Ancestors.{put, own}
use Rattle.ancestors.proofs.Cases.{eq_or_ne}
use Rattle.network.specs.Network.{told}
use Rattle.network.specs.Round.{report}
use Rattle.network.proofs.Reports.{root_told}
use Rattle.settling.specs.Settled.{Route, start, onward}
use Rattle.settling.proofs.Run.{Run, Offered}
use Rattle.settling.proofs.Inherited.{inherited_row}

module _ (run : Run) where
  open run use {n, origin, cost, W, T, row, held}

  -- a real route to y has the cost d and exactly the list l
  abbrev pub Genuine : ℕ → ℕ → ℕ → Type 0
  Genuine y d l = (k : ℕ) × Route cost origin y k d l

  -- what the origin's row reports is genuine
  origin_genuine : (t d l : ℕ) → t ≤ T → report (row t origin) ≡ told d l → Genuine origin d l
  origin_genuine t d l b h =
      let s : report (row t origin) ≡ told 0 (own origin) = root_told (run.origin_row t b) in
      let ed : 0 ≡ d = cc in
      let el : own origin ≡ l = cc in
      (0, rw (← ed, ← el) start)

  -- so is every report held of it once it was heard
  origin_heard : (t y d l : ℕ) → W ≤ t → t ≤ T → held t origin y ≡ told d l → Genuine origin d l
  origin_heard t y d l a b h =
      let u = run.heard t origin y a b (run.on_arc t origin y d l b h) in
      origin_genuine u.0 d l (omega arith) (sym u.3 ∙ h)

  -- a genuine offer makes a genuine row
  onwards : (t s y v : ℕ) → t ≤ T → (m : Offered run t s y v) → Genuine s m.label m.list → Genuine y v (put m.list y)
  onwards t s y v b m g =
      let arc : 0 < cost s y = run.on_arc t s y m.label m.list b m.is in
      (suc g.0, rw m.total (onward g.1 arc m.apart))

  -- after (n - 1) W rounds what every row reports is genuine
  pub genuine : (t y d l : ℕ) → (n - 1) * W ≤ t → t ≤ T → y < n → report (row t y) ≡ told d l → Genuine y d l
  genuine t y d l a b c h = go (eq_or_ne y origin)
    where
      go : (y ≡ origin) ⊎ (y ≢ origin) → Genuine y d l
      go (inl e) =
          subst (λ (z : ℕ). Genuine z d l) (sym e) (origin_genuine t d l b (subst (λ (z : ℕ). report (row t z) ≡ told d l) e h))
      go (inr relay) =
          let two : n - 1 ≡ suc (n - 2) = omega (arith, run.ends.origin_node, relay) in
          let long : suc (n - 2) * W ≤ t = subst (λ (k : ℕ). k * W ≤ t) two a in
          inherited_row run Genuine W run.positive origin_heard onwards t y d l (omega (arith, long)) b c relay h
