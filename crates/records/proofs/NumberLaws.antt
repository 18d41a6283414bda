-- Numbers as bytes and back.
-- Assumes nothing.
use mathlib.Core.Path.{◌≡◌}
use mathlib.Core.List.{[], ◌∷◌}
use Prim.Native.Nat.{ℕ, ◌+◌, ◌*◌, ◌/◌, ◌%◌, ◌<◌}
use native.Mathlib.Omega.{arith}
use Rattle.records.specs.Numbers.{be8, be16, be32}

-- ---- the bytes of a number are those it was read from

pub be8_of : (a : ℕ) → a < 256 → be8 a ≡ a ∷ []
unfolding be8
be8_of a h =
    let p : a % 256 ≡ a = omega arith in
    rw p

pub be16_of : (a b : ℕ) → a < 256 → b < 256 → be16 (a * 256 + b) ≡ a ∷ b ∷ []
unfolding be16 be8
be16_of a b ha hb =
    let p : (a * 256 + b) / 256 % 256 ≡ a = omega arith in
    let q : (a * 256 + b) % 256 ≡ b = omega arith in
    cc

-- the low half alone decides the low bytes
be16_low : (h m : ℕ) → m < 65536 → be16 (h * 65536 + m) ≡ be16 m
unfolding be16 be8
be16_low h m b =
    let p : (h * 65536 + m) / 256 % 256 ≡ m / 256 % 256 = omega arith in
    let q : (h * 65536 + m) % 256 ≡ m % 256 = omega arith in
    cc

pub be32_of : (a b c d : ℕ) → a < 256 → b < 256 → c < 256 → d < 256 → be32 ((a * 256 + b) * 65536 + (c * 256 + d)) ≡ a ∷ b ∷ c ∷ d ∷ []
unfolding be32
be32_of a b c d ha hb hc hd =
    let p : ((a * 256 + b) * 65536 + (c * 256 + d)) / 65536 ≡ a * 256 + b = omega arith in
    rw (p, be16_low (a * 256 + b) (c * 256 + d) (omega arith), be16_of a b ha hb, be16_of c d hc hd)

-- ---- the number read from the bytes of x is x

pub num16_of : (x : ℕ) → x < 65536 → x / 256 % 256 * 256 + x % 256 ≡ x
num16_of x h = omega arith

pub num32_of : (x : ℕ) → x < 4294967296 → (x / 65536 / 256 % 256 * 256 + x / 65536 % 256) * 65536 + (x / 256 % 256 * 256 + x % 256) ≡ x
num32_of x h =
    let p = num16_of (x / 65536) (omega arith) in
    let q : x / 256 % 256 * 256 + x % 256 ≡ x % 65536 = omega arith in
    omega arith
