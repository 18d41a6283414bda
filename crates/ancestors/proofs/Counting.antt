-- How many numbers below n pass a test, and the pigeonhole.
-- Assumes nothing.
use mathlib.Core.Path.{◌≡◌, refl, ap, ap₂, ◌∙◌}
use mathlib.Core.Bool.{Bool, true, false}
use mathlib.Core.Logic.{◌⊎◌, inl, inr, ◌≢◌}
use Prim.Native.Nat.{ℕ, zero, suc, ◌+◌, ◌-◌, ◌<◌, ◌≤◌}
use native.Mathlib.Omega.{arith}
use Rattle.ancestors.specs.Ancestors.{one, count}
use Rattle.ancestors.proofs.Cases.{eq_or_ne, never}

one_le : (a b : Bool) → (a ≡ true → b ≡ true) → one a ≤ one b
one_le true true h = omega arith
one_le true false h = never false (h refl) refl
one_le false b h = omega arith

pub count_le : (P : ℕ → Bool) (n : ℕ) → count P n ≤ n
unfolding count
count_le P zero = omega arith
count_le P (suc n) = omega (arith, count_le P n, one_le (P n) true (λ _. refl))

pub count_ext : (P Q : ℕ → Bool) (n : ℕ) → ((i : ℕ) → i < n → P i ≡ Q i) → count P n ≡ count Q n
unfolding count
count_ext P Q zero e = refl
count_ext P Q (suc n) e = ap₂ (λ b k. one b + k) (e n (omega arith)) (count_ext P Q n (λ i h. e i (omega arith)))

-- numbers that don't pass add nothing
count_past : (P : ℕ → Bool) (j d : ℕ) → ((i : ℕ) → j ≤ i → i < j + d → P i ≡ false) → count P j ≡ count P (j + d)
unfolding count
count_past P j zero e = let same : j ≡ j + 0 = omega arith in ap (count P) same
count_past P j (suc d) e =
    let next : j + suc d ≡ suc (j + d) = omega arith in
    rw (next, e (j + d) (omega arith) (omega arith)) (omega (arith, count_past P j d (λ i from below. e i from (omega arith))))

pub count_gap : (P : ℕ → Bool) (j k : ℕ) → j ≤ k → ((i : ℕ) → j ≤ i → i < k → P i ≡ false) → count P j ≡ count P k
count_gap P j k h e =
    let all : j + (k - j) ≡ k = omega arith in
    count_past P j (k - j) (λ i from below. e i from (omega arith)) ∙ ap (count P) all

module _ (P Q : ℕ → Bool) (into : (i : ℕ) → P i ≡ true → Q i ≡ true) where
  pub count_mono : (n : ℕ) → count P n ≤ count Q n
  unfolding count
  count_mono zero = omega arith
  count_mono (suc n) = omega (arith, count_mono n, one_le (P n) (Q n) (into n))

  -- a number below n that only Q has
  pub count_more : (y : ℕ) → P y ≡ false → Q y ≡ true → (n : ℕ) → y < n → count P n < count Q n
  unfolding count
  count_more y p q zero h = omega arith
  count_more y p q (suc n) h = go (eq_or_ne y n) (count_more y p q n)
    where
      go : (y ≡ n) ⊎ (y ≢ n) → (y < n → count P n < count Q n) → one (P n) + count P n < one (Q n) + count Q n
      go (inl e) below =
          let a : P n ≡ false = rw e at p in
          let b : Q n ≡ true = rw e at q in
          rw (a, b) (omega (arith, count_mono n))
      go (inr e) below = omega (arith, below (omega arith), one_le (P n) (Q n) (into n))
