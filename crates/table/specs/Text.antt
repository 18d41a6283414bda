-- Document 01, "The four-node field": what the program `routes` prints.
-- Assumes nothing.
use Rattle.std.specs.Prelude.{cond, List, [], ◌∷◌, ◌++◌, ℕ, eqb, ltb, length}
use Rattle.ancestors.specs.Ancestors.{hops}
use Rattle.network.specs.Network.{Row, none, root, via, Net}
use Rattle.records.specs.Image.{each}
use Rattle.records.specs.Opening.{open_of}
use Rattle.records.specs.Running.{Running, run_of}
use Rattle.text.specs.Text.{max_input, decimal, field, newline, stop_line, last_line, too_long}

-- " - - -": no route
unfoldable pub no_route : List ℕ
no_route = 32 ∷ 45 ∷ 32 ∷ 45 ∷ 32 ∷ 45 ∷ []

-- " 0 -": the origin's label and predecessor
unfoldable pub origin_fields : List ℕ
origin_fields = 32 ∷ 48 ∷ 32 ∷ 45 ∷ []

-- label, predecessor and hops of a row
unfoldable pub fields : Row → List ℕ
fields none = no_route
fields (root l) = origin_fields ++ field (hops l)
fields (via d p l) = field d ++ (field p ++ field (hops l))

-- the line of node y
unfoldable pub line : Net → ℕ → List ℕ
line x y = decimal y ++ (fields (x.row y) ++ newline)

-- "node cost from hops" and the end of the line
unfoldable pub header : List ℕ
header = 110 ∷ 111 ∷ 100 ∷ 101 ∷ 32 ∷ 99 ∷ 111 ∷ 115 ∷ 116 ∷ 32 ∷ 102 ∷ 114 ∷ 111 ∷ 109 ∷ 32 ∷ 104 ∷ 111 ∷ 112 ∷ 115 ∷ 10 ∷ []

-- "rounds" and their number
unfoldable pub rounds_line : ℕ → List ℕ
rounds_line rounds = 114 ∷ 111 ∷ 117 ∷ 110 ∷ 100 ∷ 115 ∷ (field rounds ++ newline)

-- the header, the nodes in order, the number of accepted rounds
unfoldable pub table_text : Net → ℕ → List ℕ
table_text x rounds = header ++ (each (line x) 0 x.nodes ++ rounds_line rounds)

-- a run whose image was accepted
unfoldable pub run_text : Running → List ℕ
run_text o = table_text o.net o.rounds ++ last_line o.number o.place

-- the whole text; a refused image prints only the line of the refusal
unfoldable pub text_of : List ℕ → List ℕ
text_of bs =
    cond (ltb max_input (length bs)) too_long
    (cond (eqb (open_of bs).number 0) (run_text (run_of bs)) (stop_line (open_of bs).number (open_of bs).place))
