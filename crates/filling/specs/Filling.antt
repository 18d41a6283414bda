-- What a writer leaves in the part of an output that it is lent.
-- Assumes nothing.
use Rattle.std.specs.Prelude.{◌≡◌, cond, List, [], ◌++◌, ℕ, ◌+◌, ◌≤◌, ltb, length, take, drop}

-- the bytes w were written at the front of the part `entry`, which left `exit`; r bytes were used, and the others stand as they stood
pub record Wrote (w entry exit : List ℕ) (r : ℕ) : Type 0 where
  pub used : r ≡ length w
  pub left : exit ≡ w ++ drop r entry

-- the bytes w were written from the place a on, which left `exit`; b is the place after them, and the others stand as they stood
pub record Added (w entry exit : List ℕ) (a b : ℕ) : Type 0 where
  pub within : a ≤ length entry
  pub place : b ≡ a + length w
  pub left : exit ≡ take a entry ++ (w ++ drop b entry)

-- the bytes that are copied to an output: none where it is shorter than they are
unfoldable pub copied : List ℕ → List ℕ → List ℕ
copied bytes out = cond (ltb (length out) (length bytes)) [] bytes
