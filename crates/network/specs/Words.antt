-- What the leaf functions get and answer: the arcs of a receiver as a word, reports and costs as slices of words, by sender, an offer below a limit,
-- and what a choice answers.
-- Assumes nothing.
use Rattle.std.specs.Prelude.{Bool, cond, not, ◌||◌, List, Option, Some, None, Result, Ok, Err, ℕ, ◌+◌, ◌%◌, eqb, ltb, leb, length, get_or}
use Rattle.ancestors.specs.Ancestors.{has}
use Rattle.network.specs.Faults.{max_nodes}
use Rattle.network.specs.Network.{Row, none, via, Report, empty, told}
use Rattle.network.specs.Round.{Offer, offer, ones_in, choice}
use Rattle.network.specs.Answered.{fault_number}
use Rattle.network.specs.declared.Fault.{Fault}
use Rattle.network.specs.declared.Route.{Route}

-- a report in two words: a list of 0 stands for the empty report
unfoldable pub report_of : ℕ → ℕ → Report
report_of d l = cond (eqb l 0) empty (told d l)

-- an arc's cost in one word: one more than its low sixteen bits, so that it is never 0
unfoldable pub cost_of : ℕ → ℕ
cost_of c = c % 65536 + 1

-- the reports and the costs that words give, by sender: empty, and no arc, where the word of arcs does not have the sender's bit
abbrev pub reports : ℕ → List ℕ → List ℕ → ℕ → Report
reports arcs labels lists s = cond (has arcs s) (report_of (get_or labels s 0) (get_or lists s 0)) empty

abbrev pub costs_of : ℕ → List ℕ → ℕ → ℕ
costs_of arcs costs s = cond (has arcs s) (cost_of (get_or costs s 0)) 0

-- the offers that words make to y, and the ones of their reports, by sender
abbrev pub offers_of : ℕ → List ℕ → List ℕ → List ℕ → ℕ → ℕ → Offer
offers_of arcs costs labels lists y s = offer y (costs_of arcs costs s) (reports arcs labels lists s)

abbrev pub ones_of : ℕ → List ℕ → List ℕ → ℕ → ℕ
ones_of arcs labels lists s = ones_in (reports arcs labels lists s)

-- the same ones for every sender: among equal offers the lowest-numbered sender wins
abbrev pub alike : ℕ → ℕ
alike s = 0

-- an offer below a limit, and nothing in place of any other
unfoldable pub offer_below : ℕ → Offer → Offer
offer_below m None = None
offer_below m (Some v) = cond (ltb v m) (Some v) None

-- more than 32 senders, not a cost, a label and a list for each, or a receiver above 31
unfoldable pub words_fault : List ℕ → List ℕ → List ℕ → ℕ → Bool
words_fault costs labels lists y =
    ltb max_nodes (length costs) || (not (eqb (length labels) (length costs)) || (not (eqb (length lists) (length costs)) || leb max_nodes y))

-- a number, and the row where that is 0
pub record ChoiceAnswer : Type 0 where
  pub number : ℕ
  pub row : Row

-- refused as 3, and a row chosen
abbrev pub refused_choice : ChoiceAnswer
refused_choice = record { number = 3; row = none }

abbrev pub chosen : Row → ChoiceAnswer
chosen w = record { number = 0; row = w }

-- the choice from these words
unfoldable pub choose_of : ℕ → List ℕ → List ℕ → List ℕ → ℕ → ChoiceAnswer
choose_of arcs costs labels lists y =
    cond (words_fault costs labels lists y) refused_choice (chosen (choice (length costs) (costs_of arcs costs) (reports arcs labels lists) y))

-- a row: no route, or label, predecessor and list
unfoldable pub route_means : Option Route → Row
route_means None = none
route_means (Some w) = via w.label w.predecessor w.list

-- number and row of each answer
unfoldable pub choice_means : Result (Option Route) Fault → ChoiceAnswer
choice_means (Ok w) = chosen (route_means w)
choice_means (Err f) = record { number = fault_number f; row = none }
