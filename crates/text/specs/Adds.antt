-- What a writer leaves in a text of fixed room: its bytes after those that stood there.
-- Assumes nothing.
use Rattle.std.specs.Prelude.{cond, List, ◌++◌, ℕ, ◌+◌, ltb, length}

-- a text with room for n bytes, after the bytes w were added: all of them, or none where they have no room
unfoldable pub added : ℕ → List ℕ → List ℕ → List ℕ
added n w old = cond (ltb n (length old + length w)) old (old ++ w)
