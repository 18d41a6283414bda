-- Laws of the bounds: of the rounds from which rows are settled, and of what shows that a promise does not hold sooner. Only this file and computed
-- examples open `settled_from`.
-- Assumes nothing.
use mathlib.Core.Path.{◌≡◌}
use mathlib.Core.Logic.{◌≢◌}
use mathlib.Core.List.{List}
use Prim.Native.Nat.{ℕ, suc, ◌+◌, ◌*◌, ◌-◌, ◌≤◌}
use native.Mathlib.Omega.{arith}
use native.Mathlib.Nat.{mul-le-mul_right}
use lib.Dec.{eqb, ltb}
use borrow.Author.Tests.{ltb-true, ltb-false, eqb-true, eqb-false}
use Rattle.ancestors.proofs.Cases.{cond_by}
use Rattle.network.specs.Network.{Net}
use Rattle.settling.specs.Calls.{Call}
use Rattle.settling.specs.Bounds.{settled_from, TooFew, NoSooner}

module _ (n W : ℕ) (positive : 1 ≤ W) where
  -- at least W, and at least (2n - 4) W + 1; at most 2 (n - 1) W
  abbrev Enough : ℕ → Type 0
  Enough b = (W ≤ b) × ((2 * n - 4) * W + 1 ≤ b)

  abbrev Most : ℕ → Type 0
  Most b = b ≤ 2 * (n - 1) * W

  -- the bound of two nodes or more is enough
  pub settled_from_lem : 2 ≤ n → Enough (settled_from n W)
  unfolding settled_from
  settled_from_lem two =
      cond_by Enough (ltb n 2) _ _ (λ t. absurd (omega (arith, ltb-true n 2 t)))
      (λ _. cond_by Enough (eqb n 2) _ _ (λ e. (omega arith, rw (pair (eqb-true n 2 e)) (omega arith)))
      (λ e. (omega (arith, mul-le-mul_right W (more (eqb-false n 2 e))), omega arith)))
    where
      pair : n ≡ 2 → 2 * n - 4 ≡ 0
      pair e = omega arith

      more : n ≢ 2 → 1 ≤ 2 * n - 4
      more ne = omega (arith, ne)

  -- and demand 3's is no less
  pub settled_before : Most (settled_from n W)
  unfolding settled_from
  settled_before =
      cond_by Most (ltb n 2) _ _ (λ _. omega arith)
      (λ t. cond_by Most (eqb n 2) _ _ (λ _. omega (arith, mul-le-mul_right W (pair (ltb-false n 2 t))))
      (λ _. omega (arith, mul-le-mul_right W (more (ltb-false n 2 t)))))
    where
      pair : 2 ≤ n → 1 ≤ 2 * (n - 1)
      pair two = omega arith

      more : 2 ≤ n → suc (2 * n - 4) ≤ 2 * (n - 1)
      more two = omega arith

-- one network with too few rounds is enough
pub no_sooner_by : {bound : ℕ → ℕ → ℕ} {Promise : Net → Type 0} {x : Net} {before stretch : List Call} {W : ℕ} →
    TooFew bound Promise x before stretch W → NoSooner bound Promise
no_sooner_by {x = x} {before = before} {stretch = stretch} {W = W} few sooner =
    few.fails (sooner x few.within before stretch W few.supposed (omega (arith, few.count)))
