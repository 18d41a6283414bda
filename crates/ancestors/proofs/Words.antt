-- The operations on a list as the code writes them, on 32-bit words.
-- Assumes nothing.
use mathlib.Core.Path.{◌≡◌, sym, ap, ◌∙◌}
use Prim.Native.Nat.{ℕ, ◌*◌, ◌-◌, ◌/◌, ◌%◌, ◌^◌, ◌<◌, ◌≤◌}
use native.Mathlib.Omega.{arith}
use lib.Dec.{eqb, lit<}
use lib.Pow.{shl_exact}
use lib.Bits.{bit_and, bit_or, bit_xor, and_mask}
use native.Mathlib.Nat.{mod-eq_of_lt}
use lib.Pow.{pow_mono}
use Rattle.ancestors.specs.Ancestors.{has, put, cut}

pub code_has : (l i : ℕ) → eqb (bit_and (l / 2 ^ i) 1) 1 ≡ has l i
unfolding has
code_has l i = ap (λ (x : ℕ). eqb x 1) (and_mask (l / 2 ^ i) 1)

-- a one shifted left
pub code_bit : (i : ℕ) → i < 32 → 1 * 2 ^ i % 4294967296 ≡ 2 ^ i
code_bit i h = shl_exact 1 i 32 (lit< tt) (omega arith) ∙ omega arith

pub code_put : (l i : ℕ) → i < 32 → bit_or l (1 * 2 ^ i % 4294967296) ≡ put l i
unfolding put
code_put l i h = ap (bit_or l) (code_bit i h)

pub code_cut : (l i : ℕ) → i < 32 → bit_xor l (bit_and l (1 * 2 ^ i % 4294967296)) ≡ cut l i
unfolding cut
code_cut l i h = ap (λ b. bit_xor l (bit_and l b)) (code_bit i h)

-- the bits below k, and all of them
pub code_below : (l k : ℕ) → k < 32 → bit_and l (1 * 2 ^ k % 4294967296 - 1) ≡ l % 2 ^ k
code_below l k h = ap (λ b. bit_and l (b - 1)) (code_bit k h) ∙ and_mask l k

pub all_below : (l k : ℕ) → l < 2 ^ 32 → 32 ≤ k → l ≡ l % 2 ^ k
all_below l k h b = let m : 2 ^ 32 ≤ 2 ^ k = pow_mono b in sym (mod-eq_of_lt (omega arith))
