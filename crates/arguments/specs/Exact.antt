-- Change request Three, the program `rip`: which texts are read as -r, N and BASE.
-- Assumes nothing.
use Rattle.std.specs.Prelude.{◌≡◌, true, Some, List, [], ◌∷◌, ◌++◌, ℕ, ◌/◌, ◌%◌, ◌^◌, ◌<◌}
use Rattle.text.specs.Text.{decimal}
use Rattle.arguments.specs.Arguments.{is_flag_of, capped, read_count_of, read_base_of}

-- -r: exactly its two bytes
unfoldable pub flag : List ℕ
flag = 45 ∷ 114 ∷ []

pub record FlagExact : Type 0 where
  pub all : is_flag_of flag ≡ true
  pub only : (t : List ℕ) → is_flag_of t ≡ true → t ≡ flag

-- N: exactly the numbers in decimal
pub record CountsExact : Type 0 where
  pub all : (n : ℕ) → read_count_of (decimal n) ≡ Some (capped n)
  pub only : (t : List ℕ) (v : ℕ) → read_count_of t ≡ Some v → (n : ℕ) × (t ≡ decimal n) × (v ≡ capped n)

-- the four bytes of a base in decimal, with dots between
unfoldable pub dotted : ℕ → List ℕ
dotted v = decimal (v / 16777216) ++ (46 ∷ (decimal (v / 65536 % 256) ++ (46 ∷ (decimal (v / 256 % 256) ++ (46 ∷ decimal (v % 256))))))

-- BASE: exactly the bases of 32 bits
pub record BasesExact : Type 0 where
  pub all : (v : ℕ) → v < 2 ^ 32 → read_base_of (dotted v) ≡ Some v
  pub only : (t : List ℕ) (v : ℕ) → read_base_of t ≡ Some v → (v < 2 ^ 32) × (t ≡ dotted v)
