-- What holds of every report held of the origin, and of a receiver wherever it holds of the sender whose offer it takes, holds of every offer and
-- every relay's row from (n - 2) W + b rounds on: before that an exception lists one relay more every W rounds.
-- Assumes nothing.
use mathlib.Core.Path.{◌≡◌, sym, ap, subst}
use mathlib.Core.Logic.{◌⊎◌, inl, inr, ◌≢◌}
use Prim.Native.Nat.{ℕ, zero, suc, ◌+◌, ◌*◌, ◌-◌, ◌<◌, ◌≤◌}
use native.Mathlib.Omega.{arith}
use Rattle.ancestors.specs.Ancestors.{put}
use Rattle.ancestors.proofs.Cases.{eq_or_ne}
use Rattle.network.specs.Network.{via, told}
use Rattle.network.specs.Round.{report}
use Rattle.network.proofs.Choosing.{Came}
use Rattle.settling.proofs.Relays.{relays, relays_own, relays_put, relays_below}
use Rattle.settling.proofs.Run.{Run, Offered, sent, source, told_by}

-- P of a node, a label and a list, from b rounds on
module _ (run : Run) (P : ℕ → ℕ → ℕ → Type 0) (b : ℕ) (positive : 1 ≤ b)
    (by-origin : (t y d l : ℕ) → b ≤ t → t ≤ run.T → run.held t run.origin y ≡ told d l → P run.origin d l)
    (onwards : (t s y v : ℕ) → t ≤ run.T → (m : Offered run t s y v) → P s m.label m.list → P y v (put m.list y)) where
  open run use {n, origin, cost, W, T, row, held}

  -- k W rounds later an offer comes from a report of which P holds or that lists more than k relays
  abbrev Claim : ℕ → Type 0
  Claim k = (t s y v : ℕ) → k * W + b ≤ t → t ≤ T → (m : Offered run t s y v) → P s m.label m.list ⊎ (k < relays n origin m.list)

  -- the row made of such an offer lists one relay more
  made_row : (k : ℕ) → Claim k → (t y d l : ℕ) → k * W + b ≤ t → t ≤ T → y < n → y ≢ origin → report (row t y) ≡ told d l →
      P y d l ⊎ (suc k < relays n origin l)
  made_row k claim t y d l a c below relay h = from (source run t y d p.0 l early c below relay p.1)
    where
      early : 1 ≤ t
      early = omega (arith, positive)

      p : (p : ℕ) × (row t y ≡ via d p l)
      p = told_by run t y d l early c below relay h

      from : Came n (λ s. cost s y) (λ s. held t s y) y d p.0 l → P y d l ⊎ (suc k < relays n origin l)
      from x = cases (claim t p.0 y d a c x.offered)
        where
          m : Offered run t p.0 y d
          m = x.offered

          cases : P p.0 m.label m.list ⊎ (k < relays n origin m.list) → P y d l ⊎ (suc k < relays n origin l)
          cases (inl g) = inl (rw x.list (onwards t p.0 y d c m g))
          cases (inr g) = inr (omega (arith, relays_put n origin y m.list below relay m.apart, ap (relays n origin) x.list))

  -- what the origin's report gives, and another's must
  by_sender : (k t s y v : ℕ) → b ≤ t → t ≤ T → (m : Offered run t s y v) →
      (s < n → s ≢ origin → P s m.label m.list ⊎ (k < relays n origin m.list)) → P s m.label m.list ⊎ (k < relays n origin m.list)
  by_sender k t s y v a c m relayed = go (eq_or_ne s origin)
    where
      go : (s ≡ origin) ⊎ (s ≢ origin) → P s m.label m.list ⊎ (k < relays n origin m.list)
      go (inl e) =
          inl
          (subst (λ (z : ℕ). P z m.label m.list) (sym e)
          (by-origin t y m.label m.list a c (subst (λ (z : ℕ). held t z y ≡ told m.label m.list) e m.is)))
      go (inr relay) = relayed (run.ends.sender_node s y (run.on_arc t s y m.label m.list c m.is)) relay

  -- a relay's report lists the relay, and W rounds later is of a row that such an offer made
  claimed : (k : ℕ) → Claim k
  claimed zero t s y v a c m =
      by_sender 0 t s y v (omega arith) c m
      (λ below relay. inr (relays_own n origin s m.list below relay (run.own_node t s y m.label m.list c m.is)))
  claimed (suc k) t s y v a c m =
      by_sender (suc k) t s y v (omega (arith, a)) c m
      (λ below relay.
      let u = sent run t s y v (omega (arith, a)) c m in
      made_row k (claimed k) u.0 s m.label m.list (omega (arith, a)) (omega arith) below relay u.3)

  -- P holds of every report that makes an offer to a relay: its list lacks that relay
  pub inherited_offer : (t s y v : ℕ) → (n - 2) * W + b ≤ t → t ≤ T → y < n → y ≢ origin → (m : Offered run t s y v) → P s m.label m.list
  inherited_offer t s y v a c below relay m = go (claimed (n - 2) t s y v a c m)
    where
      go : P s m.label m.list ⊎ (n - 2 < relays n origin m.list) → P s m.label m.list
      go (inl g) = g
      go (inr g) =
          absurd
          (omega
          (arith, relays_put n origin y m.list below relay m.apart, relays_below n origin (put m.list y) run.ends.origin_node))

  -- and of every relay's row
  pub inherited_row : (t y d l : ℕ) → (n - 2) * W + b ≤ t → t ≤ T → y < n → y ≢ origin → report (row t y) ≡ told d l → P y d l
  inherited_row t y d l a c below relay h =
      let early : 1 ≤ t = omega (arith, positive) in
      let p = told_by run t y d l early c below relay h in
      let x = source run t y d p.0 l early c below relay p.1 in
      let g = inherited_offer t p.0 y d a c below relay x.offered in
      rw x.list (onwards t p.0 y d c x.offered g)
