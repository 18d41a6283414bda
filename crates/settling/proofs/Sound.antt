-- From (n - 2) W + 1 rounds on every offer and every relay's row is sound: some walk costs no more and has fewer arcs than the list has ones.
-- Assumes nothing.
use mathlib.Core.Path.{◌≡◌}
use mathlib.Core.Logic.{◌≢◌}
use Prim.Native.Nat.{ℕ, suc, ◌+◌, ◌*◌, ◌-◌, ◌<◌, ◌≤◌}
use native.Mathlib.Omega.{arith}
use lib.Count.{ones}
use Rattle.ancestors.specs.Ancestors.{put}
use Rattle.ancestors.proofs.Laws.{ones_put, ones_listed}
use Rattle.network.specs.Network.{told}
use Rattle.network.specs.Round.{report}
use Rattle.settling.specs.Settled.{Walk, here, along}
use Rattle.settling.proofs.Run.{Run, Offered}
use Rattle.settling.proofs.Inherited.{inherited_offer, inherited_row}

-- a walk to y costs at most d and has fewer arcs than the list l has ones
pub record Sound (cost : ℕ → ℕ → ℕ) (origin y d l : ℕ) : Type 0 where
  pub arcs : ℕ
  pub sum : ℕ
  pub walk : Walk cost origin y arcs sum
  pub cheap : sum ≤ d
  pub short : arcs < ones l

module _ (run : Run) where
  open run use {n, origin, cost, W, T, row, held}

  -- whatever is held of the origin is sound, since it lists the origin
  origin_sound : (t y d l : ℕ) → 1 ≤ t → t ≤ T → held t origin y ≡ told d l → Sound cost origin origin d l
  origin_sound t y d l a b h =
      record { arcs = 0; sum = 0; walk = here; cheap = omega arith; short = ones_listed l origin (run.own_node t origin y d l b h) }

  -- a sound offer makes a sound row
  onwards : (t s y v : ℕ) → t ≤ T → (m : Offered run t s y v) → Sound cost origin s m.label m.list → Sound cost origin y v (put m.list y)
  onwards t s y v b m g =
      record {
        arcs = suc g.arcs;
        sum = g.sum + cost s y;
        walk = along g.walk (run.on_arc t s y m.label m.list b m.is);
        cheap = omega (arith, g.cheap, m.total);
        short = omega (arith, g.short, ones_put m.list y m.apart);
      }

  -- from (n - 2) W + 1 rounds on every report that makes an offer to a relay is sound
  pub sound_offer : (t s y v : ℕ) → (n - 2) * W + 1 ≤ t → t ≤ T → y < n → y ≢ origin → (m : Offered run t s y v) →
      Sound cost origin s m.label m.list
  sound_offer = inherited_offer run (Sound cost origin) 1 (omega arith) origin_sound onwards

  -- and every relay's row
  pub sound_row : (t y d l : ℕ) → (n - 2) * W + 1 ≤ t → t ≤ T → y < n → y ≢ origin → report (row t y) ≡ told d l → Sound cost origin y d l
  sound_row = inherited_row run (Sound cost origin) 1 (omega arith) origin_sound onwards
