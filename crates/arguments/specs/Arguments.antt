-- Change request Three, the program `rip`: its arguments -r, N and BASE; numbers are read digit by digit.
-- Assumes nothing.
use Rattle.std.specs.Prelude.{Bool, cond, Option, None, Some, ◌&&◌, ◌||◌, List, [], ◌∷◌, ℕ, zero, suc, ◌+◌, ◌*◌, ◌-◌, ◌^◌, min, eqb, ltb, length, get_or}
use Rattle.std.specs.List.{before_first, after_first}

-- ---- -r

-- the two bytes "-r"
unfoldable pub is_flag_of : List ℕ → Bool
is_flag_of t = eqb (length t) 2 && (eqb (get_or t 0 0) 45 && eqb (get_or t 1 0) 114)

-- ---- N

-- a number too large for 32 bits counts as the largest of 32 bits
unfoldable pub capped : ℕ → ℕ
capped n = min n (2 ^ 32 - 1)

-- the bytes "0" to "9"
unfoldable pub is_digit : ℕ → Bool
is_digit b = ltb 47 b && ltb b 58

-- no number has no bytes, or a zero in front of others
unfoldable pub no_number_of : List ℕ → Bool
no_number_of t = eqb (length t) 0 || (ltb 1 (length t) && eqb (get_or t 0 0) 48)

-- the digits t after those that stand for n
unfoldable pub digits_after : ℕ → List ℕ → Option ℕ
digits_after n [] = Some n
digits_after n (b ∷ t) = cond (is_digit b) (digits_after (capped (n * 10 + (b - 48))) t) None

-- a number in decimal without zeros in front
unfoldable pub read_count_of : List ℕ → Option ℕ
read_count_of t = cond (no_number_of t) None (digits_after 0 t)

-- ---- BASE

-- the byte "."
abbrev pub is_dot : ℕ → Bool
is_dot b = eqb b 46

-- the bytes before the first dot, and those after it; all and none where there is no dot
unfoldable pub before_dot : List ℕ → List ℕ
before_dot t = before_first is_dot t

unfoldable pub after_dot : List ℕ → List ℕ
after_dot t = after_first is_dot t

-- a number of at most 255, and what follows from it
unfoldable pub byte_then : Option ℕ → (ℕ → Option ℕ) → Option ℕ
byte_then None next = None
byte_then (Some n) next = cond (ltb 255 n) None (next n)

-- k numbers with a dot after each, and one more, after those that stand for v
unfoldable pub bytes_after : ℕ → ℕ → List ℕ → Option ℕ
bytes_after zero v t = byte_then (read_count_of t) (λ n. Some (v * 256 + n))
bytes_after (suc k) v t = byte_then (read_count_of (before_dot t)) (λ n. bytes_after k (v * 256 + n) (after_dot t))

-- four numbers of at most 255 with dots between
unfoldable pub read_base_of : List ℕ → Option ℕ
read_base_of t = bytes_after 3 0 t
