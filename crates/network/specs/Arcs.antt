-- Change request Four: a receiver's arcs as a word, and the senders that it can have.
-- Assumes nothing.
use Rattle.std.specs.Prelude.{◌≡◌, not, List, [], ◌∷◌, ℕ, zero, suc, ◌<◌}
use Rattle.ancestors.specs.Ancestors.{has, those}
use Rattle.network.specs.Faults.{max_nodes, pair_fault_of}
use Rattle.network.specs.Network.{Net, Within}
use Rattle.network.specs.Round.{every_arc, round_of, full_round_of}

-- the arcs to r as a word: bit s is 1 exactly when the arc from s is present
unfoldable pub arcs_to : Net → ℕ → ℕ
arcs_to x r = those (λ s. every_arc x s r) max_nodes

-- the numbers f k, f (k + 1) and on, d of them
unfoldable pub numbers : (ℕ → ℕ) → ℕ → ℕ → List ℕ
numbers f k zero = []
numbers f k (suc d) = f k ∷ numbers f (suc k) d

-- the arcs to each node, in the order of marks
unfoldable pub arc_words_of : Net → List ℕ
arc_words_of x = numbers (arcs_to x) 0 max_nodes

-- what is in range for the receiver r among n nodes: every node but itself, and nothing where r is no node
unfoldable pub senders : ℕ → ℕ → ℕ
senders n r = those (λ s. not (pair_fault_of n s r)) max_nodes

-- ---- what is promised

-- bit s is 1 exactly when the arc from s is present
abbrev pub ArcsExact : Type 0
ArcsExact = (x : Net) (r s : ℕ) → s < max_nodes → has (arcs_to x r) s ≡ every_arc x s r

-- a full round is a round whose marks are the arcs' words
abbrev pub FullRoundMarked : Type 0
FullRoundMarked = (x : Net) → Within x → round_of x (arc_words_of x) ≡ full_round_of x
