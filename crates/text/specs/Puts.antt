-- What a writer with no precondition leaves: all of its bytes, or the output as it stood.
-- Assumes nothing.
use Rattle.std.specs.Prelude.{◌≡◌, cond, List, ◌++◌, ℕ, ◌+◌, ltb, length, take, drop}

-- the output with the bytes w from the place a on; the output as it is where they have no room
unfoldable pub put_at : List ℕ → ℕ → List ℕ → List ℕ
put_at w a out = cond (ltb (length out) (a + length w)) out (take a out ++ (w ++ drop (a + length w) out))

-- the place after the bytes w; the place a where they have no room
unfoldable pub place_after : List ℕ → ℕ → List ℕ → ℕ
place_after w a out = cond (ltb (length out) (a + length w)) a (a + length w)

-- the bytes w were put from the place a on, which left `exit`; b is the place after them
pub record Puts (w entry exit : List ℕ) (a b : ℕ) : Type 0 where
  pub left : exit ≡ put_at w a entry
  pub place : b ≡ place_after w a entry
