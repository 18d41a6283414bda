-- Document 01, "Records": unsigned numbers as bytes, most significant byte first, and back.
-- Assumes nothing.
use Rattle.std.specs.Prelude.{List, [], ◌∷◌, ◌++◌, ℕ, zero, suc, ◌+◌, ◌*◌, ◌/◌, ◌%◌, ◌<◌, get_or, drop}

-- a list of bytes
abbrev pub Bytes : List ℕ → Type 0
Bytes bs = (i : ℕ) → get_or bs i 0 < 256

-- a number in one, two and four bytes
unfoldable pub be8 : ℕ → List ℕ
be8 x = x % 256 ∷ []

unfoldable pub be16 : ℕ → List ℕ
be16 x = be8 (x / 256) ++ be8 x

unfoldable pub be32 : ℕ → List ℕ
be32 x = be16 (x / 65536) ++ be16 x

-- the number in the byte, the two and the four bytes of b from i on; a byte past the end counts as 0
unfoldable pub num8 : List ℕ → ℕ → ℕ
num8 b i = get_or b i 0

unfoldable pub num16 : List ℕ → ℕ → ℕ
num16 b i = num8 b i * 256 + num8 b (i + 1)

unfoldable pub num32 : List ℕ → ℕ → ℕ
num32 b i = num16 b i * 65536 + num16 b (i + 2)

-- k words of four bytes
unfoldable pub words_in : ℕ → List ℕ → List ℕ
words_in zero b = []
words_in (suc k) b = num32 b 0 ∷ words_in k (drop 4 b)
