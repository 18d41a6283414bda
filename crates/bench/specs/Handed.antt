-- Answers handed out in lent words.
-- Assumes nothing.
use Rattle.std.specs.Prelude.{◌≡◌, List, [], ◌∷◌, ◌++◌, ℕ, ◌-◌, get_or, length, replicate}
use Rattle.network.specs.Faults.{max_nodes}
use Rattle.network.specs.Network.{Row, none, root, via, Report, empty, told}
use Rattle.network.specs.Writing.{Writing}
use Rattle.memory.specs.Layout.{view}
use Rattle.memory.specs.Answers.{RowAnswer, ArcsAnswer, CostAnswer, HeldAnswer}
use Rattle.records.specs.Running.{Running}
use Rattle.records.specs.Opening.{Opening}
use Rattle.response.specs.Reading.{Reading}

-- the opening o, with number, place and bytes used in the words `answer` and its network in `words`
pub record OpensTo (o : Opening) (answer words : List ℕ) : Type 0 where
  pub number : get_or answer 0 0 ≡ o.number
  pub place : get_or answer 1 0 ≡ o.place
  pub used : get_or answer 2 0 ≡ o.used
  pub net : view words ≡ o.net

-- the run o, with number, place and rounds in the words `answer` and its network in `words`
pub record RunsTo (o : Running) (answer words : List ℕ) : Type 0 where
  pub number : get_or answer 0 0 ≡ o.number
  pub place : get_or answer 1 0 ≡ o.place
  pub rounds : get_or answer 2 0 ≡ o.rounds
  pub net : view words ≡ o.net

-- the writing w, with number and length in the words `answer`
pub record WritesTo (w : Writing) (answer exit : List ℕ) : Type 0 where
  pub number : get_or answer 0 0 ≡ w.number
  pub used : get_or answer 1 0 ≡ w.used
  pub output : exit ≡ w.output

-- ---- what is read: number, then the values

-- number, label, predecessor, list, hops: without a route, also where it is refused, 0, 32 and 0; at the origin 0, 32 and its list; 32 is no node
unfoldable pub route_words : ℕ → Row → ℕ → List ℕ
route_words k none h = k ∷ 0 ∷ max_nodes ∷ 0 ∷ h ∷ []
route_words k (root l) h = k ∷ 0 ∷ max_nodes ∷ l ∷ h ∷ []
route_words k (via d p l) h = k ∷ d ∷ p ∷ l ∷ h ∷ []

unfoldable pub row_words_of : RowAnswer → List ℕ
row_words_of a = route_words a.number a.row a.hops

-- number and word
unfoldable pub arcs_words_of : ArcsAnswer → List ℕ
arcs_words_of a = a.number ∷ a.arcs ∷ []

-- number and cost
unfoldable pub cost_words_of : CostAnswer → List ℕ
cost_words_of a = a.number ∷ a.cost ∷ []

-- number, label and list, both 0 where the report is empty
unfoldable pub report_words : ℕ → Report → List ℕ
report_words k empty = k ∷ 0 ∷ 0 ∷ []
report_words k (told d l) = k ∷ d ∷ l ∷ []

unfoldable pub held_words_of : HeldAnswer → List ℕ
held_words_of a = report_words a.number a.held

-- the metrics in the places of 32 nodes; 0 in the others
unfoldable pub places : List ℕ → List ℕ
places metrics = metrics ++ replicate (max_nodes - length metrics) 0

-- number, how many nodes, and the metrics in the places of 32 nodes
unfoldable pub read_words : Reading → List ℕ
read_words o = o.number ∷ length o.metrics ∷ places o.metrics
