-- Demand 3 over lists of change, grade, round and reading calls: document 01, "The settled row", second paragraph.
-- Assumes nothing.
use Rattle.std.specs.Prelude.{◌≡◌, Bool, true, false, cond, ◌&&◌, List, [], ◌∷◌, ℕ, ◌+◌, ◌*◌, ◌-◌, ◌<◌, ◌≤◌, eqb, length, get_or}
use Rattle.network.specs.Network.{Net, Outcome, Within}
use Rattle.network.specs.Round.{Marks, marked, every_arc, round_of, full_round_of}
use Rattle.network.specs.Change.{change_of, grade_of}
use Rattle.network.specs.Route.{route_of}
use Rattle.records.specs.Image.{image_of}
use Rattle.settling.specs.Settled.{Settled, Real}

-- a call with any arguments: sender, receiver and cost; sender, receiver and grade; a round's words of marks; a round with every arc heard;
-- a route's node and output; an image's output
pub data Call : Type 0 where
  change : ℕ → ℕ → ℕ → Call
  grade : ℕ → ℕ → ℕ → Call
  round : List ℕ → Call
  full_round : Call
  route : ℕ → List ℕ → Call
  write_image_of : List ℕ → Call

-- reading calls leave the network as it stood
abbrev pub reads : Net → ℕ → Outcome
reads x k = record { number = k; net = x }

-- what a call on x answers and leaves
unfoldable pub called : Net → Call → Outcome
called x (change s r c) = change_of x s r c
called x (grade s r g) = grade_of x s r g
called x (round ms) = round_of x ms
called x full_round = full_round_of x
called x (route y out) = reads x (route_of x y out).number
called x (write_image_of out) = reads x (image_of x out).number

-- a call is accepted if its number is 0
unfoldable pub accepted : Net → Call → Bool
accepted x c = eqb (called x c).number 0

-- each call gets the network that the call before it left
unfoldable pub after : Net → List Call → Net
after x [] = x
after x (c ∷ cs) = after (called x c).net cs

-- change and grade calls
abbrev pub alters : Call → Bool
alters (change s r c) = true
alters (grade s r g) = true
alters (round ms) = false
alters full_round = false
alters (route y out) = false
alters (write_image_of out) = false

-- a stretch: no change or grade call is accepted, not even one that alters nothing
pub data Stretch : Net → List Call → Type 0 where
  end : {x : Net} → Stretch x []
  step : {x : Net} {c : Call} {cs : List Call} → (accepted x c && alters c) ≡ false → Stretch (called x c).net cs → Stretch x (c ∷ cs)

-- the marks of a call on x, put before ms if the call is an accepted round
unfoldable pub marks_then : Net → Call → List Marks → List Marks
marks_then x (change s r c) ms = ms
marks_then x (grade s r g) ms = ms
marks_then x (round ws) ms = cond (accepted x (round ws)) (marked ws ∷ ms) ms
marks_then x full_round ms = every_arc x ∷ ms
marks_then x (route y out) ms = ms
marks_then x (write_image_of out) ms = ms

-- a stretch's rounds are its accepted round calls: their marks, in order
unfoldable pub rounds : Net → List Call → List Marks
rounds x [] = []
rounds x (c ∷ cs) = marks_then x c (rounds (called x c).net cs)

-- past the last round nothing is marked
abbrev pub unmarked : Marks
unmarked s r = false

-- every arc's report is heard at least once in any W successive accepted rounds
abbrev pub HeardWithin : ℕ → (ℕ → ℕ → ℕ) → List Marks → Type 0
HeardWithin W cost ms =
    (s r i : ℕ) → 0 < cost s r → i + W ≤ length ms → (j : ℕ) × (i ≤ j) × (j < i + W) × (get_or ms j unmarked s r ≡ true)

-- every row of x is exactly its settled row
abbrev pub AllSettled : Net → Type 0
AllSettled x = (y : ℕ) → y < x.nodes → Settled x.cost x.origin y (x.row y)

-- every label in a row of x is the cost of a real route to that node
abbrev pub AllReal : Net → Type 0
AllReal x = (y : ℕ) → y < x.nodes → Real x.cost x.origin y (x.row y)

-- what demand 3 supposes of the calls: they end in a stretch in which every arc's report is heard within W
pub record Supposed (x : Net) (before stretch : List Call) (W : ℕ) : Type 0 where
  pub positive : 1 ≤ W
  pub still : Stretch (after x before) stretch
  pub heard : HeardWithin W (after x before).cost (rounds (after x before) stretch)

-- the network after the last call, and the number of accepted rounds in the stretch
abbrev pub at_end : Net → List Call → List Call → Net
at_end x before stretch = after (after x before) stretch

abbrev pub rounds_heard : Net → List Call → List Call → ℕ
rounds_heard x before stretch = length (rounds (after x before) stretch)

-- demand 3's two promises of a network of n nodes, from so many accepted rounds of the stretch
pub record Promises (n W heard : ℕ) (x : Net) : Type 0 where
  pub settled : 2 * (n - 1) * W ≤ heard → AllSettled x
  pub real : (n - 1) * W ≤ heard → AllReal x

-- they hold of the network after the last call
abbrev pub Promised : Net → List Call → List Call → ℕ → Type 0
Promised x before stretch W = Promises x.nodes W (rounds_heard x before stretch) (at_end x before stretch)

-- every network within limits settles: for every list of calls, refused ones included, every W from 1, and every way to cut the list into
-- what comes before and the stretch
abbrev pub Settling : Type 0
Settling = (x : Net) → Within x → (before stretch : List Call) (W : ℕ) → Supposed x before stretch W → Promised x before stretch W
