-- Laws of ancestor lists: what putting a node in changes, bounds, and the ones counted. Above this crate `has`, `put` and `hops` stay shut but
-- where examples are computed.
-- Assumes nothing.
use mathlib.Core.Path.{◌≡◌, refl, sym, ap, ap₂, subst, ◌∙◌}
use mathlib.Core.Bool.{true, false}
use mathlib.Core.Logic.{◌⊎◌, inl, inr, ◌≢◌}
use Prim.Native.Nat.{ℕ, zero, suc, ◌+◌, ◌-◌, ◌*◌, ◌/◌, ◌%◌, ◌^◌, ◌<◌, ◌≤◌, max}
use native.Mathlib.Omega.{arith}
use native.Mathlib.Nat.{div_self, div-eq_of_lt, mod-lt}
use lib.Dec.{eqb}
use borrow.Author.Tests.{eqb-true}
use lib.Pow.{split, pow_pos, pow-lt, pow_mono, pow-add, shl-shr, shr_lt, shr_mono, field, mod-mod-pow}
use lib.Bits.{bit_or, or_shr, or_step, or_block, or_zero_r, or_lt}
use lib.Count.{ones, ones_step, ones_cat}
use Rattle.ancestors.specs.Ancestors.{has, put, own, hops, one, count}
use Rattle.ancestors.proofs.Cases.{le_or_lt, eq_or_ne, never, eqb_same}
use Rattle.ancestors.proofs.Counting.{count_ext}

or_low : (x y : ℕ) → bit_or x y % 2 ≡ max (x % 2) (y % 2)
or_low x y = omega (arith, or_step x y)

-- bit j of 2 ^ i
pub one_same : (i : ℕ) → 2 ^ i / 2 ^ i % 2 ≡ 1
one_same i = rw (div_self, pow_pos i)

pub one_other : (i j : ℕ) → i ≢ j → 2 ^ i / 2 ^ j % 2 ≡ 0
one_other i j h = go (le_or_lt i j)
  where
    low : i < j → 2 ^ i / 2 ^ j % 2 ≡ 0
    low k = rw (div-eq_of_lt (pow-lt k))

    high : j < i → 2 ^ i / 2 ^ j % 2 ≡ 0
    high k =
        let e : i ≡ suc (i - suc j) + j = omega arith in
        let s : 2 ^ i ≡ 2 ^ suc (i - suc j) * 2 ^ j = ap (λ (x : ℕ). 2 ^ x) e ∙ pow-add 2 (suc (i - suc j)) j in
        rw (s, shl-shr) (omega arith)

    go : (i ≤ j) ⊎ (j < i) → 2 ^ i / 2 ^ j % 2 ≡ 0
    go (inl k) = low (omega arith)
    go (inr k) = high k

-- ---- what is listed

pub has_put_same : (l i : ℕ) → has (put l i) i ≡ true
unfolding has put
has_put_same l i =
    let e : bit_or l (2 ^ i) / 2 ^ i % 2 ≡ 1 = rw (or_shr, or_low) (omega (arith, one_same i)) in
    rw e (eqb_same 1)

pub has_put_other : (l i j : ℕ) → i ≢ j → has (put l i) j ≡ has l j
unfolding has put
has_put_other l i j h =
    let e : bit_or l (2 ^ i) / 2 ^ j % 2 ≡ l / 2 ^ j % 2 = rw (or_shr, or_low) (omega (arith, one_other i j h)) in
    ap (λ (x : ℕ). eqb x 1) e

pub has_empty : (i : ℕ) → has 0 i ≡ false
unfolding has
has_empty i = rw (div-eq_of_lt (pow_pos i))

pub has_kept : (l y i : ℕ) → has l i ≡ true → has (put l y) i ≡ true
has_kept l y i h = go (eq_or_ne y i)
  where
    go : (y ≡ i) ⊎ (y ≢ i) → has (put l y) i ≡ true
    go (inl e) = rw (← e) (has_put_same l y)
    go (inr e) = has_put_other l y i e ∙ h

-- the list of one node has no other
pub has_own : (i y : ℕ) → has (own i) y ≡ true → y ≡ i
has_own i y h = go (eq_or_ne i y)
  where
    go : (i ≡ y) ⊎ (i ≢ y) → y ≡ i
    go (inl e) = sym e
    go (inr e) = never (has 0 y) (sym (has_put_other 0 i y e) ∙ h) (has_empty y)

pub put_some : (l y : ℕ) → put l y ≢ 0
put_some l y e = never (has 0 y) (subst (λ n. has n y ≡ true) e (has_put_same l y)) (has_empty y)

-- ---- lists below 2 ^ k: every bit is below k

pub put_below : (k l y : ℕ) → l < 2 ^ k → y < k → put l y < 2 ^ k
unfolding put
put_below k l y h b = or_lt k l (2 ^ y) h (pow-lt b)

pub has_beyond : (k l i : ℕ) → l < 2 ^ k → k ≤ i → has l i ≡ false
unfolding has
has_beyond k l i h b =
    let z : l / 2 ^ i ≡ 0 = div-eq_of_lt (let m = pow_mono b in omega arith) in
    rw z

-- a bit that is not below k
pub bit_beyond : (k j l : ℕ) → 2 ^ k ≤ l → l < 2 ^ (k + j) → (i : ℕ) × (k ≤ i) × (i < k + j) × (has l i ≡ true)
unfolding has
bit_beyond k zero l a b =
    absurd (let e : 2 ^ (k + 0) ≡ 2 ^ k = ap (λ (x : ℕ). 2 ^ x) (omega arith) in omega (arith, e))
bit_beyond k (suc j) l a b = go (λ c. bit_beyond k j l a c) (le_or_lt (2 ^ (k + j)) l)
  where
    go : (l < 2 ^ (k + j) → (i : ℕ) × (k ≤ i) × (i < k + j) × (eqb (l / 2 ^ i % 2) 1 ≡ true)) →
        (2 ^ (k + j) ≤ l) ⊎ (l < 2 ^ (k + j)) → (i : ℕ) × (k ≤ i) × (i < k + suc j) × (eqb (l / 2 ^ i % 2) 1 ≡ true)
    go again (inl c) =
        let p : 1 ≤ l / 2 ^ (k + j) = subst (λ x. x ≤ l / 2 ^ (k + j)) (div_self (pow_pos (k + j))) (shr_mono (k + j) c) in
        let f : k + suc j ≡ 1 + (k + j) = omega arith in
        let q : l / 2 ^ (k + j) < 2 = shr_lt 1 (k + j) (subst (λ e. l < 2 ^ e) f b) in
        let e : l / 2 ^ (k + j) % 2 ≡ 1 = omega arith in
        (k + j, omega arith, omega arith, rw e (eqb_same 1))
    go again (inr c) = let r = again c in (r.0, r.1, omega arith, r.3)

-- ---- the ones of a list are its nodes, counted

pub clear_bit : (l y : ℕ) → has l y ≡ false → l / 2 ^ y % 2 ≡ 0
unfolding has
clear_bit l y h = go (eq_or_ne (l / 2 ^ y % 2) 1)
  where
    go : (l / 2 ^ y % 2 ≡ 1) ⊎ (l / 2 ^ y % 2 ≢ 1) → l / 2 ^ y % 2 ≡ 0
    go (inl e) = never (eqb (l / 2 ^ y % 2) 1) (rw e (eqb_same 1)) h
    go (inr e) = omega (arith, e)

even_or : (x : ℕ) → x % 2 ≡ 0 → bit_or x 1 ≡ x + 1
even_or x h = omega (arith, or_step x 1, or_zero_r (x / 2))

even_ones : (x : ℕ) → x % 2 ≡ 0 → ones (x + 1) ≡ suc (ones x)
even_ones x h =
    let e : (x + 1) / 2 ≡ x / 2 = omega arith in
    omega (arith, ones_step (x + 1), ones_step x, ap ones e)

-- a new node adds its bit
pub put_new : (l y : ℕ) → has l y ≡ false → put l y ≡ (l / 2 ^ y + 1) * 2 ^ y + l % 2 ^ y
unfolding put
put_new l y h =
    let one : 2 ^ y ≡ 1 * 2 ^ y + 0 = omega arith in
    ap₂ bit_or (sym (split l y)) one ∙ or_block y (l / 2 ^ y) 1 (l % 2 ^ y) 0 (mod-lt l (pow_pos y)) (pow_pos y) ∙
    ap₂ (λ (a b : ℕ). a * 2 ^ y + b) (even_or (l / 2 ^ y) (clear_bit l y h)) (or_zero_r (l % 2 ^ y))

-- and a one
pub ones_put : (l y : ℕ) → has l y ≡ false → ones (put l y) ≡ suc (ones l)
ones_put l y h =
    let low : l % 2 ^ y < 2 ^ y = mod-lt l (pow_pos y) in
    let old : ones l ≡ ones (l / 2 ^ y) + ones (l % 2 ^ y) = ap ones (sym (split l y)) ∙ ones_cat y (l / 2 ^ y) (l % 2 ^ y) low in
    omega (arith, ap ones (put_new l y h), ones_cat y (l / 2 ^ y + 1) (l % 2 ^ y) low, even_ones (l / 2 ^ y) (clear_bit l y h), old)

low_bit : (k i l : ℕ) → i < k → has (l % 2 ^ k) i ≡ has l i
unfolding has
low_bit k i l h =
    let f : k ≡ suc (k - suc i) + i = omega arith in
    let e : l % 2 ^ k / 2 ^ i ≡ l / 2 ^ i % 2 ^ suc (k - suc i) = subst (λ (x : ℕ). l % 2 ^ x / 2 ^ i ≡ l / 2 ^ i % 2 ^ suc (k - suc i))
    (sym f) (field l (suc (k - suc i)) i) in
    let g : suc (k - suc i) ≡ (k - suc i) + 1 = omega arith in
    let m : l / 2 ^ i % 2 ^ suc (k - suc i) % 2 ≡ l / 2 ^ i % 2 = subst (λ (x : ℕ). l / 2 ^ i % 2 ^ x % 2 ≡ l / 2 ^ i % 2) (sym g)
    (mod-mod-pow (l / 2 ^ i) (k - suc i) 1) in
    ap (λ (x : ℕ). eqb x 1) (ap (λ (x : ℕ). x % 2) e ∙ m)

one_bit : (x : ℕ) → x < 2 → ones x ≡ one (eqb (x % 2) 1)
unfolding ones
one_bit zero h = refl
one_bit (suc zero) h = refl
one_bit (suc (suc x)) h = absurd (omega arith)

-- count-ones is the number of listed nodes
pub ones_count : (k l : ℕ) → l < 2 ^ k → ones l ≡ count (has l) k
unfolding count has
ones_count zero l h = let z : l ≡ 0 = omega arith in rw z (one_bit 0 (omega arith))
ones_count (suc k) l h =
    let low : l % 2 ^ k < 2 ^ k = mod-lt l (pow_pos k) in
    let top : l / 2 ^ k < 2 = shr_lt 1 k (subst (λ (x : ℕ). l < 2 ^ x) (omega arith) h) in
    ap ones (sym (split l k)) ∙ ones_cat k (l / 2 ^ k) (l % 2 ^ k) low
    ∙ ap₂ (λ (a b : ℕ). a + b) (one_bit (l / 2 ^ k) top) (ones_count k (l % 2 ^ k) low ∙ count_ext (has (l % 2 ^ k)) (has l) k
    (λ i b. low_bit k i l b))

pub hops_ones : (l : ℕ) → hops l ≡ ones l - 1
unfolding hops
hops_ones l = refl

-- hops are the listed nodes less one
pub hops_count : (k l : ℕ) → l < 2 ^ k → hops l ≡ count (has l) k - 1
hops_count k l h = hops_ones l ∙ ap (λ (x : ℕ). x - 1) (ones_count k l h)

pub ones_own : (i : ℕ) → ones (own i) ≡ 1
unfolding ones
ones_own i = ones_put 0 i (has_empty i)

-- a listed node is a one
pub ones_listed : (l i : ℕ) → has l i ≡ true → 0 < ones l
unfolding has
ones_listed l i h =
    let low : l % 2 ^ i < 2 ^ i = mod-lt l (pow_pos i) in
    let parts : ones l ≡ ones (l / 2 ^ i) + ones (l % 2 ^ i) = ap ones (sym (split l i)) ∙ ones_cat i (l / 2 ^ i) (l % 2 ^ i) low in
    omega (arith, parts, ones_step (l / 2 ^ i), eqb-true (l / 2 ^ i % 2) 1 h)
