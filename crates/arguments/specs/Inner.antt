-- What private functions give.
-- Assumes nothing.
use Rattle.std.specs.Prelude.{◌≡◌, Option, None, Some, MatchOption, List, [], ℕ, suc, ◌+◌, ◌*◌}
use Rattle.std.specs.Borrow.{Bor}
use Rattle.arguments.specs.Arguments.{before_dot, after_dot, byte_then, bytes_after, read_count_of}

-- r has the bytes of t before the first dot, and those after it; there are none after it where there is no dot
abbrev pub CutAtDot : List ℕ → Option (Bor (List ℕ) × Bor (List ℕ)) → Type 0
CutAtDot t r = MatchOption r (after_dot t ≡ []) (λ p. (p.0.now ≡ before_dot t) × (p.1.now ≡ after_dot t))

-- a number of at most 255
abbrev pub byte_of : List ℕ → Option ℕ
byte_of t = byte_then (read_count_of t) (λ n. Some n)

-- r has the first of the numbers t, and the bytes after its dot
abbrev pub FirstByte : List ℕ → Option (ℕ × Bor (List ℕ)) → Type 0
FirstByte t r =
    MatchOption r ((k v : ℕ) → bytes_after (suc k) v t ≡ None) (λ p. (k v : ℕ) → bytes_after (suc k) v t ≡ bytes_after k (v * 256 + p.0) p.1.now)
