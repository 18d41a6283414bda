-- How a network lies in 3,232 words, and the network that any list of words gives. The constants in `memory`'s code say the same places, and
-- `routing` uses both; every other definition and crate goes by `view`.
-- Word 0 is n and word 1 the origin. Rows lie by node, arcs by receiver, costs and held reports by receiver times 32 plus sender. Whether an arc is
-- present is said by its bit in the word of its receiver's arcs alone; costs are stored less one, so that no word of a cost says that there is none, and
-- what lies at a pair without an arc plays no part. A list of 0 is no route, or an empty report. The origin's row is not read from memory, an n above 32
-- counts as 32, and what lies at nodes not below n plays no part.
-- Assumes nothing.
use Rattle.std.specs.Prelude.{Bool, cond, not, ◌&&◌, List, ℕ, ◌+◌, ◌*◌, min, eqb, ltb, get_or}
use Rattle.ancestors.specs.Ancestors.{has, own}
use Rattle.network.specs.Faults.{max_nodes, pair_count, pair_fault_of}
use Rattle.network.specs.Network.{Frame, Row, none, root, via, empty, Net}
use Rattle.network.specs.Words.{report_of, cost_of}

-- where labels, predecessors and lists of rows begin
abbrev pub row_labels : ℕ
row_labels = 32

abbrev pub row_predecessors : ℕ
row_predecessors = row_labels + max_nodes

abbrev pub row_lists : ℕ
row_lists = row_predecessors + max_nodes

-- where the words of arcs, costs, and labels and lists of held reports begin
abbrev pub arc_bits : ℕ
arc_bits = row_lists + max_nodes

abbrev pub arc_costs : ℕ
arc_costs = arc_bits + max_nodes

abbrev pub held_labels : ℕ
held_labels = arc_costs + pair_count

abbrev pub held_lists : ℕ
held_lists = held_labels + pair_count

-- the number of words
abbrev pub word_count : ℕ
word_count = held_lists + pair_count

-- the word of node y among those that begin at b
unfoldable pub word : ℕ → (ℕ → ℕ) → ℕ → ℕ → ℕ
word n f b y = cond (ltb y n) (f (b + y)) 0

-- the arc from s to r is present: they are two different nodes, and bit s is 1 in the word of r's arcs
unfoldable pub present : ℕ → (ℕ → ℕ) → ℕ → ℕ → Bool
present n f s r = not (pair_fault_of n s r) && has (f (arc_bits + r)) s

-- what g gives at the place of a pair with an arc, and z at any other pair
unfoldable pub at_arc : {A : Type 0} → ℕ → (ℕ → ℕ) → (ℕ → A) → A → ℕ → ℕ → A
at_arc n f g z s r = cond (present n f s r) (g (r * 32 + s)) z

-- a relay's row in three words
unfoldable pub row_of : ℕ → ℕ → ℕ → Row
row_of d p l = cond (eqb l 0) none (via d p l)

-- the row of node y
unfoldable pub node_row : ℕ → (ℕ → ℕ) → ℕ → ℕ → Row
node_row n f origin y = cond (eqb y origin) (root (own origin)) (row_of (word n f row_labels y) (word n f row_predecessors y) (word n f row_lists y))

-- nodes and origin that the words f give
unfoldable pub frame_in : (ℕ → ℕ) → Frame
frame_in f = record { nodes = min (f 0) max_nodes; origin = f 1 }

-- the network with the frame t that the words f give
unfoldable pub net_of : Frame → (ℕ → ℕ) → Net
net_of t f =
    let n = t.nodes in
    record {
      nodes = n;
      origin = t.origin;
      cost = at_arc n f (λ k. cost_of (f (arc_costs + k))) 0;
      row = node_row n f t.origin;
      held = at_arc n f (λ k. report_of (f (held_labels + k)) (f (held_lists + k))) empty;
    }

-- the word at k
abbrev pub look : List ℕ → ℕ → ℕ
look xs k = get_or xs k 0

-- the network that words give
unfoldable pub view : List ℕ → Net
view xs = net_of (frame_in (look xs)) (look xs)

-- the word of the list of y's row, for 32 nodes
unfoldable pub list_word_of : List ℕ → ℕ → ℕ
list_word_of xs y = word max_nodes (look xs) row_lists y

-- the word of a pair of 32 nodes among those that begin at b, whether or not there is an arc; 0 for other numbers
unfoldable pub pair_word_of : List ℕ → ℕ → ℕ → ℕ → ℕ
pair_word_of xs b s r = cond (ltb s max_nodes && ltb r max_nodes) (look xs (b + (r * 32 + s))) 0

-- the cost that is stored for such a pair, and label and list of the report
abbrev pub cost_word_of : List ℕ → ℕ → ℕ → ℕ
cost_word_of xs s r = cost_of (pair_word_of xs arc_costs s r)

abbrev pub held_label_word_of : List ℕ → ℕ → ℕ → ℕ
held_label_word_of xs s r = pair_word_of xs held_labels s r

abbrev pub held_list_word_of : List ℕ → ℕ → ℕ → ℕ
held_list_word_of xs s r = pair_word_of xs held_lists s r
