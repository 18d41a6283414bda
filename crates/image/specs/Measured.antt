-- Lengths that the image's writers count.
-- Assumes nothing.
use Rattle.std.specs.Prelude.{Bool, not, ◌&&◌, List, ℕ, zero, suc, ◌+◌, ◌*◌, ◌-◌, eqb, length}
use Rattle.ancestors.specs.Ancestors.{has}
use Rattle.network.specs.Faults.{max_nodes}
use Rattle.network.specs.Network.{Net}
use Rattle.memory.specs.Layout.{held_list_word_of}
use Rattle.records.specs.Records.{record_length}
use Rattle.image.specs.Lines.{arc_at, row_at, report_at}

-- the sum of f at the numbers below k
unfoldable pub sum : (ℕ → ℕ) → ℕ → ℕ
sum f zero = 0
sum f (suc k) = f k + sum f k

-- by words: the receiver r holds a report of s, whose arc is among these
unfoldable pub holds : List ℕ → ℕ → ℕ → ℕ → Bool
holds xs arcs r s = has arcs s && not (eqb (held_list_word_of xs s r) 0)

-- the bytes of node r's row, of the arcs to it and of the reports that it holds
unfoldable pub receiver_bytes : Net → ℕ → ℕ
receiver_bytes x r = length (row_at x r) + (sum (λ s. length (arc_at x s r)) max_nodes + sum (λ s. length (report_at x s r)) max_nodes)

-- the most bytes of an image of n nodes: an arc and a report for each ordered pair of different ones, and a row for each but the origin
unfoldable pub most_bytes_of : ℕ → ℕ
most_bytes_of n = record_length 1 + (n * (n - 1) * (record_length 2 + record_length 4) + ((n - 1) * record_length 3 + record_length 0))
