-- Numbers in decimal, and the lines that more than one program prints.
-- Assumes nothing.
use Rattle.std.specs.Prelude.{cond, List, [], ◌∷◌, ◌++◌, ℕ, zero, suc, ◌+◌, ◌/◌, ◌%◌, eqb, ltb}

-- the bytes of the longest run that a program takes
unfoldable pub max_input : ℕ
max_input = 65536

-- the decimal digits of n with no zeros in front; at most k of them
unfoldable pub decimal_in : ℕ → ℕ → List ℕ
decimal_in zero n = []
decimal_in (suc k) n = cond (ltb n 10) [] (decimal_in k (n / 10)) ++ ((48 + n % 10) ∷ [])

-- a number in decimal; n has not more digits than n + 1
unfoldable pub decimal : ℕ → List ℕ
decimal n = decimal_in (suc n) n

-- a space and a number
unfoldable pub field : ℕ → List ℕ
field n = 32 ∷ decimal n

-- the end of a line
abbrev pub newline : List ℕ
newline = 10 ∷ []

-- "stopped", the number, " at" and the place
unfoldable pub stop_line : ℕ → ℕ → List ℕ
stop_line number place = 115 ∷ 116 ∷ 111 ∷ 112 ∷ 112 ∷ 101 ∷ 100 ∷ (field number ++ (32 ∷ 97 ∷ 116 ∷ (field place ++ newline)))

-- the last line of a run that stopped at a refusal
unfoldable pub last_line : ℕ → ℕ → List ℕ
last_line number place = cond (eqb number 0) [] (stop_line number place)

-- "too long" and the end of the line
unfoldable pub too_long : List ℕ
too_long = 116 ∷ 111 ∷ 111 ∷ 32 ∷ 108 ∷ 111 ∷ 110 ∷ 103 ∷ 10 ∷ []
