-- Case splits on tests and on numbers, and search below a bound: what stands in for excluded middle.
-- Assumes nothing.
use mathlib.Core.Path.{◌≡◌, refl, sym, subst, ◌∙◌}
use mathlib.Core.Bool.{Bool, true, false, cond, ◌&&◌, ◌||◌}
use mathlib.Core.Logic.{◌⊎◌, inl, inr, ◌≢◌}
use Prim.Native.Nat.{ℕ, zero, suc, ◌+◌, ◌<◌, ◌≤◌}
use native.Mathlib.Omega.{arith}
use native.Mathlib.Decide.{dec_le, ℕ_discrete}
use lib.Dec.{eqb, ltb}
use borrow.Author.Tests.{eq-eqb, lt-ltb, le-ltb}

pub bool_cases : (b : Bool) → (b ≡ true) ⊎ (b ≡ false)
bool_cases true = inl refl
bool_cases false = inr refl

pub le_or_lt : (a b : ℕ) → (a ≤ b) ⊎ (b < a)
le_or_lt a b = go (dec_le a b)
  where
    go : Dec (a ≤ b) → (a ≤ b) ⊎ (b < a)
    go (yes h) = inl h
    go (no h) = inr (omega arith)

pub eq_or_ne : (a b : ℕ) → (a ≡ b) ⊎ (a ≢ b)
eq_or_ne a b = go (ℕ_discrete a b)
  where
    go : Dec (a ≡ b) → (a ≡ b) ⊎ (a ≢ b)
    go (yes h) = inl h
    go (no h) = inr h

-- anything follows where constructors clash: `clash cc`
pub clash : {A : Type 0} → ◌≡◌ {A = ℕ} 0 1 → A
clash e = absurd (omega arith)

-- a test cannot both pass and fail
pub never : {A : Type 0} (b : Bool) → b ≡ true → b ≡ false → A
never b p q = clash cc

pub eqb_same : (a : ℕ) → eqb a a ≡ true
eqb_same a = eq-eqb a a refl

pub and_both : (a b : Bool) → (a && b) ≡ true → (a ≡ true) × (b ≡ true)
and_both true b e = (refl, e)
and_both false b e = never false e refl

pub or_neither : (a b : Bool) → (a || b) ≡ false → (a ≡ false) × (b ≡ false)
or_neither true b e = never true refl e
or_neither false b e = (refl, e)

-- a number below k + 1 other than k is below k
pub ltb_other : (a k : ℕ) → a ≢ k → ltb a (k + 1) ≡ ltb a k
ltb_other a k n = go (le_or_lt k a)
  where
    go : (k ≤ a) ⊎ (a < k) → ltb a (k + 1) ≡ ltb a k
    go (inl h) = le-ltb a (k + 1) (omega (arith, n)) ∙ sym (le-ltb a k h)
    go (inr h) = lt-ltb a (k + 1) (omega arith) ∙ sym (lt-ltb a k h)

-- ---- search below a bound, over decided statements
module _ (P : ℕ → Type 0) (decide : (i : ℕ) → Dec (P i)) where
  pub any_below : (k : ℕ) → Dec ((i : ℕ) × (i < k) × P i)
  any_below zero = no (λ h. omega arith)
  any_below (suc k) = step (any_below k) (decide k)
    where
      step : Dec ((i : ℕ) × (i < k) × P i) → Dec (P k) → Dec ((i : ℕ) × (i < suc k) × P i)
      step (yes h) d = yes (h.0, omega arith, h.2)
      step (no h) (yes p) = yes (k, omega arith, p)
      step (no h) (no q) = no (λ r. last r (eq_or_ne r.0 k))
        where
          last : (r : (i : ℕ) × (i < suc k) × P i) → (r.0 ≡ k) ⊎ (r.0 ≢ k) → ⊥
          last r (inl e) = q (subst P e r.2)
          last r (inr e) = h (r.0, omega (arith, e), r.2)

  -- the first number at which P holds, given one
  pub first : (k : ℕ) → P k → (m : ℕ) × P m × ((j : ℕ) → P j → m ≤ j)
  first k p = from_below k k (omega arith) p
    where
      from_below : (fuel k : ℕ) → k ≤ fuel → P k → (m : ℕ) × P m × ((j : ℕ) → P j → m ≤ j)
      from_below zero k h p = (k, p, λ j q. omega arith)
      from_below (suc fuel) k h p = go (any_below k) (λ i l q. from_below fuel i l q)
        where
          go : Dec ((i : ℕ) × (i < k) × P i) → ((i : ℕ) → i ≤ fuel → P i → (m : ℕ) × P m × ((j : ℕ) → P j → m ≤ j)) →
              (m : ℕ) × P m × ((j : ℕ) → P j → m ≤ j)
          go (yes r) again = again r.0 (omega arith) r.2
          go (no r) again = (k, p, λ j q. least j q (le_or_lt k j))
            where
              least : (j : ℕ) → P j → (k ≤ j) ⊎ (j < k) → k ≤ j
              least j q (inl a) = a
              least j q (inr a) = absurd (r (j, a, q))

-- what holds of each answer of a test holds of the one it gives
pub cond_by : {A : Type 0} (P : A → Type 0) (t : Bool) (x y : A) → (t ≡ true → P x) → (t ≡ false → P y) → P (cond t x y)
cond_by P true x y f g = f refl
cond_by P false x y f g = g refl
