-- The relays of an ancestor list, counted: all its nodes but the origin.
-- Assumes nothing.
use mathlib.Core.Path.{◌≡◌, refl}
use mathlib.Core.Bool.{Bool, true, false, not, ◌&&◌}
use mathlib.Core.Logic.{◌≢◌}
use Prim.Native.Nat.{ℕ, ◌<◌}
use native.Mathlib.Omega.{arith}
use lib.Dec.{eqb}
use borrow.Author.Tests.{ne_eqb, not-true}
use Rattle.ancestors.specs.Ancestors.{has, put, count}
use Rattle.ancestors.proofs.Cases.{never, eqb_same, and_both}
use Rattle.ancestors.proofs.Counting.{count_le, count_more}
use Rattle.ancestors.proofs.Laws.{has_put_same, has_kept}

-- i is a relay in the list l
relay : ℕ → ℕ → ℕ → Bool
relay origin l i = not (eqb i origin) && has l i

-- a listed node other than the origin is one
relay_true : (origin l i : ℕ) → has l i ≡ true → i ≢ origin → relay origin l i ≡ true
unfolding relay
relay_true origin l i h ne = rw (ne_eqb i origin ne) h

-- and the origin is none
relay_origin : (origin l : ℕ) → relay origin l origin ≡ false
unfolding relay
relay_origin origin l = rw (eqb_same origin)

-- how many relays below n the list has
pub relays : ℕ → ℕ → ℕ → ℕ
relays n origin l = count (relay origin l) n

module _ (n origin : ℕ) where
  -- a list with a relay has at least one
  pub relays_own : (y l : ℕ) → y < n → y ≢ origin → has l y ≡ true → 0 < relays n origin l
  unfolding relays
  relays_own y l b ne h =
      omega (arith, count_more (λ _. false) (relay origin l) (λ i e. never false e refl) y refl (relay_true origin l y h ne) n b)

  -- a relay put into a list that lacks it makes one more
  pub relays_put : (y l : ℕ) → y < n → y ≢ origin → has l y ≡ false → relays n origin l < relays n origin (put l y)
  unfolding relays relay
  relays_put y l b ne h =
      count_more (relay origin l) (relay origin (put l y)) kept y lacks (relay_true origin (put l y) y (has_put_same l y) ne) n b
    where
      lacks : relay origin l y ≡ false
      lacks = rw (ne_eqb y origin ne) h

      kept : (i : ℕ) → relay origin l i ≡ true → relay origin (put l y) i ≡ true
      kept i e = let p = and_both (not (eqb i origin)) (has l i) e in rw (not-true (eqb i origin) p.0) (has_kept l y i p.1)

  -- the pigeonhole: there are fewer relays than nodes
  pub relays_below : (l : ℕ) → origin < n → relays n origin l < n
  unfolding relays
  relays_below l b =
      omega (arith, count_le (λ _. true) n, count_more (relay origin l) (λ _. true) (λ i e. refl) origin (relay_origin origin l) refl n b)
