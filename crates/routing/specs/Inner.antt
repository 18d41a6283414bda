-- What the private functions do: the parts of a round.
-- Assumes nothing.
use Rattle.std.specs.Prelude.{◌≡◌, Bool, not, ◌&&◌, List, Option, Some, None, ℕ, ◌<◌, eqb, ltb, get_or}
use Rattle.std.specs.Int.Bits.{bit_and}
use Rattle.ancestors.specs.Ancestors.{has}
use Rattle.network.specs.Network.{Row, Net, with_rows}
use Rattle.network.specs.Round.{Marks, report, hear, choice, marked, some, every_arc}
use Rattle.network.specs.Arcs.{arcs_to, senders}
use Rattle.memory.specs.Layout.{word, row_of, look, view, row_labels, row_predecessors, row_lists}

-- the network with every row as the words say: the origin's too, which is not read from memory, but which hearing copies
unfoldable pub by_words : List ℕ → Net
by_words xs =
    let n = (view xs).nodes in
    with_rows (view xs) (λ y. row_of (word n (look xs) row_labels y) (word n (look xs) row_predecessors y) (word n (look xs) row_lists y))

-- words that give the same network, in which every node's row reports what it does in the network
pub record Primed (xs ys : List ℕ) : Type 0 where
  pub net : view ys ≡ view xs
  pub reports : (s : ℕ) → s < (view ys).nodes → report ((by_words ys).row s) ≡ report ((view ys).row s)

-- those marks heard that are on arcs
unfoldable pub hear_arcs : Marks → Net → Net
hear_arcs m x = hear (λ s r. m s r && every_arc x s r) x

-- the arcs that are heard: those marked, and all of them in a full round
unfoldable pub given : Net → Option (List ℕ) → Marks
given x None = every_arc x
given x (Some ms) = marked ms

-- y's new row
abbrev pub new_row : Net → ℕ → Row
new_row x y = choice x.nodes (λ s. x.cost s y) (λ s. x.held s y) y

-- the pair s, r alone, where t holds
unfoldable pub one_mark : ℕ → ℕ → Bool → Marks
one_mark s r t a b = eqb a s && (eqb b r && t)

-- the marks of the receiver r on the senders below k
unfoldable pub row_marks : ℕ → ℕ → ℕ → Marks
row_marks r w k s y = eqb y r && (ltb s k && has w s)

-- a bit of the word w is not in the word m
unfoldable pub outside : ℕ → ℕ → Bool
outside w m = some (λ s. has w s && not (has m s)) 32

-- a mark of a receiver below k is out of range
unfoldable pub stray_rows : ℕ → List ℕ → ℕ → Bool
stray_rows n ms k = some (λ r. outside (get_or ms r 0) (senders n r)) k

-- a mark of a receiver below k is not in the word of its arcs
unfoldable pub idle_rows : Net → List ℕ → ℕ → Bool
idle_rows x ms k = some (λ r. outside (get_or ms r 0) (arcs_to x r)) k

-- a mark of a receiver below k is out of range or not in its word of ws
unfoldable pub outside_rows : ℕ → List ℕ → List ℕ → ℕ → Bool
outside_rows n ms ws k = some (λ r. outside (get_or ms r 0) (bit_and (get_or ws r 0) (senders n r))) k
