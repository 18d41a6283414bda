-- Document 01, "The four-node field": its run as bytes, and the list of cases that are proved together.
-- Assumes nothing.
use Rattle.std.specs.Prelude.{◌≡◌, List, [], ◌∷◌, ◌++◌, map, ℕ, get_or, replicate, Some, None}
use Rattle.network.specs.Network.{Row, none, root, via, Report, empty, told, Net, fresh_net}
use Rattle.network.specs.Round.{Offer, offer, choice}
use Rattle.network.specs.Change.{grade_cost_of, grade_of}
use Rattle.records.specs.Opening.{open_of}
use Rattle.records.specs.Running.{run_of}

-- ---- the run

-- four nodes, eight arcs, no rows, no reports
abbrev pub field_image : List ℕ
field_image =
    1 ∷ 4 ∷ 0 ∷ 2 ∷ 0 ∷ 1 ∷ 0 ∷ 1 ∷ 2 ∷ 0 ∷ 3 ∷ 0 ∷ 4 ∷ 2 ∷ 1 ∷ 0 ∷ 0 ∷ 1 ∷ 2 ∷ 1 ∷ 2 ∷ 0 ∷ 1 ∷ 2 ∷ 2 ∷ 1 ∷ 0 ∷ 1 ∷ 2 ∷ 2 ∷ 3 ∷ 0 ∷ 1 ∷ 2 ∷ 3 ∷ 0 ∷ 0 ∷ 4 ∷
    2 ∷ 3 ∷ 2 ∷ 0 ∷ 1 ∷ 0 ∷ []

-- the link between 0 and 1 is cut
abbrev pub field_cut : List ℕ
field_cut = 2 ∷ 0 ∷ 1 ∷ 0 ∷ 0 ∷ 2 ∷ 1 ∷ 0 ∷ 0 ∷ 0 ∷ []

-- full rounds, four before the cut and k after it
abbrev pub field_run : ℕ → List ℕ
field_run k = field_image ++ (replicate 4 6 ++ (field_cut ++ replicate k 6))

-- ---- the cases

-- what a case compares
pub data Value : Type 0 where
  unlabelled : Value
  label : ℕ → Value
  list : ℕ → Value
  row : Row → Value
  offered : Offer → Value
  cost : ℕ → Value
  number : ℕ → Value
  rounds : ℕ → Value

-- a row's label and list
abbrev pub label_of : Row → Value
label_of none = unlabelled
label_of (root l) = label 0
label_of (via d p l) = label d

abbrev pub list_in : Row → Value
list_in none = unlabelled
list_in (root l) = list l
list_in (via d p l) = list l

-- those of the four nodes
abbrev pub labels : Net → List Value
labels x = label_of (x.row 0) ∷ label_of (x.row 1) ∷ label_of (x.row 2) ∷ label_of (x.row 3) ∷ []

abbrev pub lists : Net → List Value
lists x = list_in (x.row 0) ∷ list_in (x.row 1) ∷ list_in (x.row 2) ∷ list_in (x.row 3) ∷ []

-- reports of label 5 from the senders 1 and 2, each with its own list
abbrev pub equal_reports : ℕ → Report
equal_reports s = get_or (empty ∷ told 5 2 ∷ told 5 4 ∷ []) s empty

-- and with 1's list the longer
abbrev pub longer_reports : ℕ → Report
longer_reports s = get_or (empty ∷ told 5 3 ∷ told 5 4 ∷ []) s empty

-- a case: what the definitions give, and what the papers say
pub record Case : Type 0 where
  pub given : List Value
  pub said : List Value

-- document 01's list, in its order, with request One's case beside that of equal offers
abbrev pub cases : List Case
cases =
    -- after four full rounds
    record { given = labels (run_of (field_image ++ replicate 4 6)).net; said = label 0 ∷ label 1 ∷ label 2 ∷ label 3 ∷ [] } ∷
    record { given = lists (run_of (field_image ++ replicate 4 6)).net; said = list 1 ∷ list 3 ∷ list 7 ∷ list 15 ∷ [] } ∷
    -- one, three and five rounds after the cut
    record { given = labels (run_of (field_run 1)).net; said = label 0 ∷ unlabelled ∷ label 2 ∷ label 3 ∷ [] } ∷
    record { given = labels (run_of (field_run 3)).net; said = label 0 ∷ unlabelled ∷ unlabelled ∷ label 4 ∷ [] } ∷
    record { given = labels (run_of (field_run 5)).net; said = label 0 ∷ label 6 ∷ label 5 ∷ label 4 ∷ [] } ∷
    -- a sum at the limit, and one above it
    record { given = offered (offer 1 1 (told 2031584 1)) ∷ []; said = offered (Some 2031585) ∷ [] } ∷
    record { given = offered (offer 1 1 (told 2031585 1)) ∷ []; said = offered None ∷ [] } ∷
    -- equal offers from 1 and 2
    record { given = row (choice 4 (λ s. 7) equal_reports 3) ∷ []; said = row (via 12 1 10) ∷ [] } ∷
    -- and from 1 with more ones in its list
    record { given = row (choice 4 (λ s. 7) longer_reports 3) ∷ []; said = row (via 12 2 12) ∷ [] } ∷
    -- a report listing its receiver
    record { given = offered (offer 1 1 (told 5 7)) ∷ []; said = offered None ∷ [] } ∷
    -- grades 15 and 16
    record { given = cost (grade_cost_of 15) ∷ number (grade_of (fresh_net 4 0) 0 1 15).number ∷ []; said = cost 24 ∷ number 0 ∷ [] } ∷
    record { given = number (grade_of (fresh_net 4 0) 0 1 16).number ∷ []; said = number 3 ∷ [] } ∷
    -- n of 32 and of 33
    record { given = number (open_of (1 ∷ 32 ∷ 0 ∷ 0 ∷ [])).number ∷ []; said = number 0 ∷ [] } ∷
    record { given = number (open_of (1 ∷ 33 ∷ 0 ∷ 0 ∷ [])).number ∷ []; said = number 3 ∷ [] } ∷
    -- the whole run: the rows of the table that the office program prints, and its rounds
    record {
      given = row ((run_of (field_run 6)).net.row 0) ∷ row ((run_of (field_run 6)).net.row 1) ∷ row ((run_of (field_run 6)).net.row 2) ∷
          row ((run_of (field_run 6)).net.row 3) ∷ rounds (run_of (field_run 6)).rounds ∷ [];
      said = row (root 1) ∷ row (via 6 2 15) ∷ row (via 5 3 13) ∷ row (via 4 0 9) ∷ rounds 10 ∷ [];
    } ∷
    []

-- the definitions give what the papers say, in every case of a list
abbrev pub Hold : List Case → Type 0
Hold cs = map (λ (c : Case). c.given) cs ≡ map (λ (c : Case). c.said) cs
