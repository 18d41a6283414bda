-- Ancestor lists of document 01, "The network": 32 bits, of which bit i has the value 2 ^ i and stands for node i.
-- Assumes nothing.
use Rattle.std.specs.Prelude.{◌≡◌, Bool, true, false, cond, Option, Some, None, ℕ, zero, suc, ◌+◌, ◌-◌, ◌/◌, ◌%◌, ◌^◌, ◌<◌, eqb}
use Rattle.std.specs.Int.Bits.{bit_and, bit_or, bit_xor}
use Rattle.std.specs.Int.Count.{ones, count_trailing_zeros}

-- node i is in the list l
unfoldable pub has : ℕ → ℕ → Bool
has l i = eqb (l / 2 ^ i % 2) 1

-- the list l with node i
unfoldable pub put : ℕ → ℕ → ℕ
put l i = bit_or l (2 ^ i)

-- the list of node i alone: its own bit
abbrev pub own : ℕ → ℕ
own i = put 0 i

-- the list l without node i
unfoldable pub cut : ℕ → ℕ → ℕ
cut l i = bit_xor l (bit_and l (2 ^ i))

-- every node of the list l is in m
unfoldable pub inside : ℕ → ℕ → Bool
inside l m = eqb (bit_and l m) l

-- the list of the nodes below k that pass the test
unfoldable pub those : (ℕ → Bool) → ℕ → ℕ
those f zero = 0
those f (suc k) = cond (f k) (put (those f k) k) (those f k)

-- hops are the number of ones in the list less one
unfoldable pub hops : ℕ → ℕ
hops l = ones l - 1

-- 1 for a test that passes
abbrev pub one : Bool → ℕ
one true = 1
one false = 0

-- how many numbers below k pass the test
unfoldable pub count : (ℕ → Bool) → ℕ → ℕ
count f zero = 0
count f (suc k) = one (f k) + count f k

-- a step through the nodes of a 32-bit list, lowest first: with m left it answers the lowest node, nothing where there is none, and leaves r
pub record Steps (m : ℕ) (node : Option ℕ) (r : ℕ) : Type 0 where
  pub fits : m < 2 ^ 32
  pub answers : node ≡ cond (eqb m 0) None (Some (count_trailing_zeros 32 m))
  pub leaves : r ≡ cut m (count_trailing_zeros 32 m)
