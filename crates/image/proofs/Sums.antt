-- Laws of sums: equal terms, bounds, terms of two parts, sums of sums the other way round, and numbers that pass a test, counted.
-- Assumes nothing.
use mathlib.Core.Path.{◌≡◌, refl, sym, ap, ap₂, ◌∙◌}
use mathlib.Core.Bool.{Bool}
use Prim.Native.Nat.{ℕ, zero, suc, ◌+◌, ◌*◌, ◌≤◌}
use native.Mathlib.Omega.{arith}
use Rattle.ancestors.specs.Ancestors.{one, count}
use Rattle.image.specs.Measured.{sum}

-- of no numbers, and of one number more
pub sum_zero : (f : ℕ → ℕ) → sum f 0 ≡ 0
unfolding sum
sum_zero f = refl

pub sum_next : (f : ℕ → ℕ) (k : ℕ) → sum f (k + 1) ≡ sum f k + f k
unfolding sum
sum_next f k = let e : k + 1 ≡ suc k = omega arith in rw e (omega arith)

-- equal terms
pub sum_same : (f g : ℕ → ℕ) (k : ℕ) → ((i : ℕ) → f i ≡ g i) → sum f k ≡ sum g k
unfolding sum
sum_same f g zero e = refl
sum_same f g (suc k) e = ap₂ (λ (a b : ℕ). a + b) (e k) (sum_same f g k e)

-- terms of at most m
pub sum_most : (f : ℕ → ℕ) (m k : ℕ) → ((i : ℕ) → f i ≤ m) → sum f k ≤ m * k
unfolding sum
sum_most f m zero h = omega arith
sum_most f m (suc k) h = let e : m * suc k ≡ m + m * k = omega arith in omega (arith, h k, sum_most f m k h, e)

-- terms of two parts
pub sum_add : (f g : ℕ → ℕ) (k : ℕ) → sum (λ i. f i + g i) k ≡ sum f k + sum g k
unfolding sum
sum_add f g zero = refl
sum_add f g (suc k) = omega (arith, sum_add f g k)

sum_none : (k : ℕ) → sum (λ i. 0) k ≡ 0
unfolding sum
sum_none zero = refl
sum_none (suc k) = omega (arith, sum_none k)

-- sums of sums, the other way round
pub sum_swap : (f : ℕ → ℕ → ℕ) (a b : ℕ) → sum (λ s. sum (f s) b) a ≡ sum (λ r. sum (λ s. f s r) a) b
unfolding sum
sum_swap f zero b = sym (sum_none b)
sum_swap f (suc a) b = ap (λ (k : ℕ). sum (f a) b + k) (sum_swap f a b) ∙ sym (sum_add (f a) (λ r. sum (λ s. f s r) a) b)

-- numbers that pass a test: of none, and of one number more
pub count_none : (P : ℕ → Bool) → count P 0 ≡ 0
unfolding count
count_none P = refl

pub count_next : (P : ℕ → Bool) (k : ℕ) → count P (k + 1) ≡ count P k + one (P k)
unfolding count
count_next P k = let e : k + 1 ≡ suc k = omega arith in rw e (omega arith)

-- m for each of them
pub sum_count : (f : ℕ → ℕ) (P : ℕ → Bool) (m k : ℕ) → ((i : ℕ) → f i ≡ one (P i) * m) → sum f k ≡ count P k * m
unfolding sum count
sum_count f P m zero e = omega arith
sum_count f P m (suc k) e = omega (arith, e k, sum_count f P m k e, parts (one (P k)) (count P k))
  where
    parts : (a b : ℕ) → (a + b) * m ≡ a * m + b * m
    parts a b = omega arith
