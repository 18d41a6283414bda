-- Laws of lists as sets of nodes: the nodes that two lists share, a list without a node, the list of those that pass a test, and lists inside others.
-- Assumes nothing.
use mathlib.Core.Path.{◌≡◌, refl, sym, ap, ap₂, subst, ◌∙◌}
use mathlib.Core.Bool.{Bool, true, false, cond, ◌&&◌, and-false}
use mathlib.Core.Logic.{◌⊎◌, inl, inr, ◌≢◌}
use Prim.Native.Nat.{ℕ, zero, suc, ◌+◌, ◌*◌, ◌/◌, ◌%◌, ◌^◌, ◌<◌, ◌≤◌, min}
use native.Mathlib.Omega.{arith}
use native.Mathlib.Nat.{div-eq_of_lt, mod-lt, mod-eq_of_lt}
use lib.Dec.{eqb, ltb}
use borrow.Author.Tests.{eqb-true, eq-eqb, lt-ltb, le-ltb}
use lib.Pow.{split, pow_pos, pow_mono, shr-shr, field, mod-mod-pow}
use lib.Bits.{bit_and, bit_xor, differ, and_shr, xor_shr, and_step, xor_step, and_le_l, xor_lt}
use Rattle.ancestors.specs.Ancestors.{has, put, cut, inside, those}
use Rattle.ancestors.proofs.Cases.{bool_cases, eq_or_ne, never, any_below, ltb_other, and_both}
use Rattle.ancestors.proofs.Laws.{one_same, one_other, has_put_same, has_put_other, has_empty, has_beyond, put_below, put_new, clear_bit}

-- ---- bits

bit_and_lem : (a b : ℕ) → a < 2 → b < 2 → eqb (min a b) 1 ≡ (eqb a 1 && eqb b 1)
bit_and_lem zero b h k = let z : min 0 b ≡ 0 = omega arith in rw z
bit_and_lem (suc zero) zero h k = refl
bit_and_lem (suc zero) (suc zero) h k = refl
bit_and_lem (suc zero) (suc (suc b)) h k = absurd (omega arith)
bit_and_lem (suc (suc a)) b h k = absurd (omega arith)

bit_differ : (a b : ℕ) → a < 2 → b < 2 → differ a b < 2
bit_differ zero b h k = k
bit_differ (suc zero) zero h k = omega arith
bit_differ (suc zero) (suc zero) h k = omega arith
bit_differ (suc zero) (suc (suc b)) h k = absurd (omega arith)
bit_differ (suc (suc a)) b h k = absurd (omega arith)

-- a bit differs not from itself, and from none by itself
bit_same : (a : ℕ) → a < 2 → differ a (min a 1) ≡ 0
bit_same zero h = refl
bit_same (suc zero) h = refl
bit_same (suc (suc a)) h = absurd (omega arith)

bit_none : (a : ℕ) → a < 2 → differ a (min a 0) ≡ a
bit_none zero h = refl
bit_none (suc zero) h = refl
bit_none (suc (suc a)) h = absurd (omega arith)

and_low : (x y : ℕ) → bit_and x y % 2 ≡ min (x % 2) (y % 2)
and_low x y = omega (arith, and_step x y)

xor_low : (x y : ℕ) → bit_xor x y % 2 ≡ differ (x % 2) (y % 2)
xor_low x y = omega (arith, xor_step x y, bit_differ (x % 2) (y % 2) (omega arith) (omega arith))

-- ---- the nodes that two lists share

pub has_and : (l m i : ℕ) → has (bit_and l m) i ≡ (has l i && has m i)
unfolding has
has_and l m i = rw (and_shr, and_low) (bit_and_lem (l / 2 ^ i % 2) (m / 2 ^ i % 2) (omega arith) (omega arith))

-- ---- a list shifted

pub has_shifted : (l j k : ℕ) → has (l / 2 ^ j) k ≡ has l (j + k)
unfolding has
has_shifted l j k = rw (shr-shr)

-- ---- a list without a node

cut_bit : (l i j : ℕ) → bit_xor l (bit_and l (2 ^ i)) / 2 ^ j % 2 ≡ differ (l / 2 ^ j % 2) (min (l / 2 ^ j % 2) (2 ^ i / 2 ^ j % 2))
cut_bit l i j = rw (xor_shr, xor_low, and_shr, and_low)

pub has_cut_same : (l i : ℕ) → has (cut l i) i ≡ false
unfolding has cut
has_cut_same l i = rw (cut_bit l i i, one_same i, bit_same (l / 2 ^ i % 2) (omega arith))

pub has_cut_other : (l i j : ℕ) → i ≢ j → has (cut l i) j ≡ has l j
unfolding has cut
has_cut_other l i j h = rw (cut_bit l i j, one_other i j h, bit_none (l / 2 ^ j % 2) (omega arith))

pub cut_below : (k l i : ℕ) → l < 2 ^ k → cut l i < 2 ^ k
unfolding cut
cut_below k l i h = xor_lt k l (bit_and l (2 ^ i)) h (omega (arith, and_le_l l (2 ^ i)))

-- ---- those that pass a test

pub has_those : (f : ℕ → Bool) (k i : ℕ) → has (those f k) i ≡ (ltb i k && f i)
unfolding those
has_those f zero i = has_empty i ∙ rw (le-ltb i 0 (omega arith))
has_those f (suc k) i = go (bool_cases (f k)) (eq_or_ne k i) (has_those f k i)
  where
    next : k ≢ i → ltb i (suc k) ≡ ltb i k
    next n = ap (ltb i) (omega arith) ∙ ltb_other i k (λ e. n (sym e))

    go : (f k ≡ true) ⊎ (f k ≡ false) → (k ≡ i) ⊎ (k ≢ i) → has (those f k) i ≡ (ltb i k && f i)
        → has (cond (f k) (put (those f k) k) (those f k)) i ≡ (ltb i (suc k) && f i)
    go (inl e) (inl q) again = rw (← q, e, lt-ltb k (suc k) (omega arith)) (has_put_same (those f k) k)
    go (inl e) (inr n) again = rw (e, next n) (has_put_other (those f k) k i n ∙ again)
    go (inr e) (inl q) again =
        let none : f i ≡ false = subst (λ j. f j ≡ false) q e in
        rw e (again ∙ rw none (and-false (ltb i k) ∙ sym (and-false (ltb i (suc k)))))
    go (inr e) (inr n) again = rw (e, next n) again

pub those_below : (f : ℕ → Bool) (k : ℕ) → those f k < 2 ^ k
unfolding those
those_below f zero = omega arith
those_below f (suc k) = let m : 2 ^ k ≤ 2 ^ suc k = pow_mono (omega arith) in go (f k) (omega (arith, those_below f k))
  where
    go : (b : Bool) → those f k < 2 ^ suc k → cond b (put (those f k) k) (those f k) < 2 ^ suc k
    go true wide = put_below (suc k) (those f k) k wide (omega arith)
    go false wide = wide

pub those_ext : (f g : ℕ → Bool) (k : ℕ) → ((i : ℕ) → i < k → f i ≡ g i) → those f k ≡ those g k
unfolding those
those_ext f g zero e = refl
those_ext f g (suc k) e = ap₂ (λ b l. cond b (put l k) l) (e k (omega arith)) (those_ext f g k (λ i h. e i (omega arith)))

set_bit : (l k : ℕ) → has l k ≡ true → l / 2 ^ k % 2 ≡ 1
unfolding has
set_bit l k e = eqb-true (l / 2 ^ k % 2) 1 e

-- one bit more of a number
low_next : (l k : ℕ) → l % 2 ^ suc k ≡ l / 2 ^ k % 2 * 2 ^ k + l % 2 ^ k
low_next l k =
    let e : suc k ≡ 1 + k = omega arith in
    ap (λ (j : ℕ). l % 2 ^ j) e ∙ sym (split (l % 2 ^ (1 + k)) k) ∙ ap₂ (λ (a b : ℕ). a * 2 ^ k + b) (field l 1 k) (mod-mod-pow l 1 k)

-- the nodes of a list below k
those_low : (l k : ℕ) → l % 2 ^ k ≡ those (has l) k
unfolding those
those_low l zero = omega arith
those_low l (suc k) = low_next l k ∙ go (bool_cases (has l k)) (those_low l k)
  where
    low : l % 2 ^ k < 2 ^ k
    low = mod-lt l (pow_pos k)

    new : put (l % 2 ^ k) k ≡ 2 ^ k + l % 2 ^ k
    new =
        let a : l % 2 ^ k / 2 ^ k ≡ 0 = div-eq_of_lt low in
        let b : l % 2 ^ k % 2 ^ k ≡ l % 2 ^ k = mod-eq_of_lt low in
        put_new (l % 2 ^ k) k (has_beyond k (l % 2 ^ k) k low (omega arith)) ∙ rw (a, b) (omega arith)

    go : (has l k ≡ true) ⊎ (has l k ≡ false) → l % 2 ^ k ≡ those (has l) k
        → l / 2 ^ k % 2 * 2 ^ k + l % 2 ^ k ≡ cond (has l k) (put (those (has l) k) k) (those (has l) k)
    go (inl e) again = rw (e, ← again, set_bit l k e, new) (omega arith)
    go (inr e) again = rw (e, ← again, clear_bit l k e) (omega arith)

pub has_low : (l k i : ℕ) → has (l % 2 ^ k) i ≡ (ltb i k && has l i)
has_low l k i = ap (λ m. has m i) (those_low l k) ∙ has_those (has l) k i

-- a list is the list of its nodes
pub those_has : (k l : ℕ) → l < 2 ^ k → l ≡ those (has l) k
those_has k l h = sym (mod-eq_of_lt h) ∙ those_low l k

-- ---- a list inside another

pub inside_has : (l m i : ℕ) → inside l m ≡ true → has l i ≡ true → has m i ≡ true
unfolding inside
inside_has l m i e h =
    let q : bit_and l m ≡ l = eqb-true (bit_and l m) l e in
    (and_both (has l i) (has m i) (sym (has_and l m i) ∙ ap (λ k. has k i) q ∙ h)).1

-- what has no node outside is inside
inside_all : (k l m : ℕ) → l < 2 ^ k → ((i : ℕ) → i < k → has l i ≡ true → has m i ≡ true) → inside l m ≡ true
unfolding inside
inside_all k l m h f = eq-eqb (bit_and l m) l
    (those_has k (bit_and l m) (omega (arith, and_le_l l m)) ∙ those_ext (has (bit_and l m)) (has l) k (λ i b. has_and l m i ∙ go i b (bool_cases (has l i))) ∙ sym (those_has k l h))
  where
    go : (i : ℕ) → i < k → (has l i ≡ true) ⊎ (has l i ≡ false) → (has l i && has m i) ≡ has l i
    go i b (inl e) = rw (e, f i b e)
    go i b (inr e) = rw e

-- a node of l that is not in m
pub outside_find : (k l m : ℕ) → l < 2 ^ k → inside l m ≡ false → (i : ℕ) × (i < k) × (has l i ≡ true) × (has m i ≡ false)
outside_find k l m h e = go (any_below (λ i. (has l i ≡ true) × (has m i ≡ false)) decide k)
  where
    both : (a b : Bool) → Dec ((a ≡ true) × (b ≡ false))
    both true true = no (λ p. never true refl p.1)
    both true false = yes (refl, refl)
    both false b = no (λ p. never false p.0 refl)

    decide : (i : ℕ) → Dec ((has l i ≡ true) × (has m i ≡ false))
    decide i = both (has l i) (has m i)

    go : Dec ((i : ℕ) × (i < k) × ((has l i ≡ true) × (has m i ≡ false))) → (i : ℕ) × (i < k) × (has l i ≡ true) × (has m i ≡ false)
    go (yes r) = (r.0, r.1, r.2.0, r.2.1)
    go (no r) = never (inside l m) (inside_all k l m h (λ i b q. held i b q (bool_cases (has m i)))) e
      where
        held : (i : ℕ) → i < k → has l i ≡ true → (has m i ≡ true) ⊎ (has m i ≡ false) → has m i ≡ true
        held i b q (inl t) = t
        held i b q (inr t) = absurd (r (i, b, (q, t)))
