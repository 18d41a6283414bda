-- Document 01, "Bench-fit and false", request One's rule of before and the owner's trials 1 to 3: rounds other than the one defined, and for each a
-- row that differs.
-- Assumes nothing.
use Rattle.std.specs.Prelude.{◌≡◌, ◌≢◌, Bool, true, false, cond, ◌&&◌, ◌||◌, List, [], ◌∷◌, ℕ, zero, suc, ◌+◌, ◌*◌, ◌-◌, ◌%◌, eqb, ltb, replicate, Some, None}
use Rattle.ancestors.specs.Ancestors.{has, put, own}
use Rattle.network.specs.Faults.{max_label}
use Rattle.network.specs.Network.{Row, none, root, via, Report, empty, told, Net, with_rows, with_reports, with_row, outcome, fresh_of}
use Rattle.network.specs.Round.{Offer, Marks, hear, offer, ones_in, winner, row_by, renew, marked, some, round_number, every_arc, round as play_round}
use Rattle.network.specs.Change.{change_of, grade_of}
use Rattle.settling.specs.Calls.{Call, change, grade, round, full_round, route, write_image_of, after}

-- ---- bench-fit and false

-- a node's row with its list cut down to the predecessor and the node
abbrev pub near : ℕ → Row → Row
near y none = none
near y (root l) = root l
near y (via d p l) = via d p (put (own y) p)

-- checking only the sender's predecessor: no other ancestor is reported
abbrev pub predecessor_only : Marks → Net → Net
predecessor_only m x = play_round m (with_rows x (λ y. near y (x.row y)))

-- using a row already renewed in this round: one receiver below k after the other hears and gets its new row
unfoldable pub in_turn : ℕ → Marks → Net → Net
in_turn zero m x = x
in_turn (suc k) m x = let z = hear (λ s r. eqb r k && m s r) (in_turn k m x) in with_row z k ((renew z).row k)

abbrev pub renewed_heard : Marks → Net → Net
renewed_heard m x = in_turn x.nodes m x

-- the old row where its label is less than the new one's, else the new row
abbrev pub lesser : Row → Row → Row
lesser none new = new
lesser (root l) new = new
lesser (via d p l) none = none
lesser (via d p l) (root k) = root k
lesser (via d p l) (via e q k) = cond (ltb d e) (via d p l) (via e q k)

-- keeping the old row against worse offers
abbrev pub old_kept : Marks → Net → Net
old_kept m x = let z = play_round m x in with_rows z (λ y. lesser (x.row y) (z.row y))

-- treating an unheard arc as empty: no arc keeps its report
abbrev pub unheard_empty : Marks → Net → Net
unheard_empty m x = play_round m (with_reports x (λ s r. empty))

-- adding costs in 16 bits
abbrev pub offer16 : ℕ → ℕ → Report → Offer
offer16 y c empty = None
offer16 y c (told d l) = cond (has l y || ltb max_label ((d + c) % 65536)) None (Some ((d + c) % 65536))

abbrev pub choice16 : ℕ → (ℕ → ℕ) → (ℕ → Report) → ℕ → Row
choice16 n cost held y = row_by y held (winner (λ s. offer16 y (cost s) (held s)) (λ s. ones_in (held s)) n)

-- every node but the origin gets its row by another choice
abbrev pub chosen_by : (ℕ → (ℕ → ℕ) → (ℕ → Report) → ℕ → Row) → Marks → Net → Net
chosen_by choose m x =
    let z = hear m x in
    with_rows z (λ y. cond (eqb y x.origin) (x.row y) (choose x.nodes (λ s. z.cost s y) (λ s. z.held s y) y))

abbrev pub sixteen_bits : Marks → Net → Net
sixteen_bits = chosen_by choice16

-- ---- request One

-- among equal offers the lowest sender at once, whatever the ones
abbrev pub choice_lowest : ℕ → (ℕ → ℕ) → (ℕ → Report) → ℕ → Row
choice_lowest n cost held y = row_by y held (winner (λ s. offer y (cost s) (held s)) (λ s. 0) n)

abbrev pub lowest_sender : Marks → Net → Net
lowest_sender = chosen_by choice_lowest

-- ---- the owner's trials 1 to 3

-- k rounds with the marks m
unfoldable pub repeated : ℕ → Marks → Net → Net
repeated zero m x = x
repeated (suc k) m x = play_round m (repeated k m x)

-- a relay's row with a route
abbrev pub has_route : Row → Bool
has_route none = false
has_route (root l) = false
has_route (via d p l) = true

-- least costs worked out centrally while no relay has a route, by as many full rounds as settle every row; nothing afterwards
abbrev pub central : Marks → Net → Net
central m x = cond (some (λ y. has_route (x.row y)) x.nodes) x (repeated (2 * (x.nodes - 1)) (every_arc x) x)

-- a round that changes nothing
abbrev pub idle : Marks → Net → Net
idle m x = x

-- rows always without a route, but for the origin's
abbrev pub routeless : Marks → Net → Net
routeless m x = with_rows x (λ y. cond (eqb y x.origin) (x.row y) none)

-- one fixed table
abbrev pub fixed : (ℕ → Row) → Marks → Net → Net
fixed table m x = with_rows x table

-- ---- calls with another round

-- what a call on x leaves where its round is f
unfoldable pub called_by : (Marks → Net → Net) → Net → Call → Net
called_by f x (change s r c) = (change_of x s r c).net
called_by f x (grade s r g) = (grade_of x s r g).net
called_by f x (round ms) = (outcome (round_number x ms) (f (marked ms) x) x).net
called_by f x full_round = (outcome 0 (f (every_arc x) x) x).net
called_by f x (route y out) = x
called_by f x (write_image_of out) = x

unfoldable pub after_by : (Marks → Net → Net) → Net → List Call → Net
after_by f x [] = x
after_by f x (c ∷ cs) = after_by f (called_by f x c) cs

-- document 01's four-node field
unfoldable pub field_net : Net
field_net =
    after (fresh_of 4 0).net
    (change 0 1 1 ∷ change 0 3 4 ∷ change 1 0 1 ∷ change 1 2 1 ∷ change 2 1 1 ∷ change 2 3 1 ∷ change 3 0 4 ∷ change 3 2 1 ∷ [])

-- one full round, and two
abbrev pub once : List Call
once = full_round ∷ []

abbrev pub twice : List Call
twice = full_round ∷ once

-- a full round, and one without marks
abbrev pub lost : List Call
lost = full_round ∷ round (replicate 32 0) ∷ []

-- the arc from 1 to 2 at the largest cost, and two full rounds
abbrev pub dear : List Call
dear = change 1 2 65535 ∷ twice

-- four full rounds; the link between 0 and 1 removed, and three more
abbrev pub link_cut : List Call
link_cut = full_round ∷ full_round ∷ full_round ∷ full_round ∷ change 0 1 0 ∷ change 1 0 0 ∷ full_round ∷ twice

-- with a link between 1 and 3, four full rounds; the arcs from the origin removed, and six more
abbrev pub ring : List Call
ring =
    change 1 3 1 ∷ change 3 1 1 ∷ full_round ∷ full_round ∷ full_round ∷ full_round ∷ change 0 1 0 ∷ change 0 3 0 ∷ full_round ∷ full_round ∷
    full_round ∷ full_round ∷ twice

-- the origin reaches 2 alone, and 3 is reached from 2, or over 1 at the same cost; three full rounds
abbrev pub detour : List Call
detour = change 0 1 0 ∷ change 0 3 0 ∷ change 0 2 2 ∷ change 1 3 1 ∷ change 2 3 2 ∷ full_round ∷ twice

-- ---- rows that differ

-- after these calls on the field y's row is a by the round f and b by document 01, and the two differ
abbrev pub Differs : (Marks → Net → Net) → List Call → ℕ → Row → Row → Type 0
Differs f calls y a b =
    ((after_by f field_net calls).row y ≡ a) × ((after field_net calls).row y ≡ b) × ((after_by f field_net calls).row y ≢ (after field_net calls).row y)

-- each false relay gets a row wrong; the first five are document 01's, the sixth is request One's, the others are trials 1 to 3
pub record FalseRelaysDiffer : Type 0 where
  pub predecessor_only_differs : Differs predecessor_only ring 1 (via 7 2 14) none
  pub renewed_heard_differs : Differs renewed_heard once 2 (via 2 1 7) none
  pub old_kept_differs : Differs old_kept link_cut 3 (via 3 2 15) (via 4 0 9)
  pub unheard_empty_differs : Differs unheard_empty lost 1 none (via 1 0 3)
  pub sixteen_bits_differs : Differs sixteen_bits dear 2 (via 0 1 7) (via 5 3 13)
  -- the detour over 1, where two arcs do
  pub lowest_sender_differs : Differs lowest_sender detour 3 (via 4 1 15) (via 4 2 13)
  pub central_differs : Differs central once 2 (via 2 1 7) none
  pub idle_differs : Differs idle once 1 none (via 1 0 3)
  pub routeless_differs : Differs routeless once 1 none (via 1 0 3)
  -- a table with node 2's row after one round does not have its row after two
  pub fixed_differs : (table : ℕ → Row) → (after_by (fixed table) field_net once).row 2 ≡ (after field_net once).row 2 →
      Differs (fixed table) twice 2 (table 2) (via 2 1 7)
