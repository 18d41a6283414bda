-- Document 01, "A round", with request One's order of equal offers: hearing, offers, the choice among them, and the round call with its refusals.
-- Assumes nothing.
use Rattle.std.specs.Prelude.{Bool, false, cond, not, ◌&&◌, ◌||◌, List, Option, Some, None, ℕ, zero, suc, ◌+◌, eqb, ltb, length, get_or}
use Rattle.std.specs.Int.Count.{ones}
use Rattle.ancestors.specs.Ancestors.{has, put}
use Rattle.network.specs.Faults.{max_label, pair_fault_of}
use Rattle.network.specs.Network.{Row, none, root, via, Report, empty, told, Net, with_rows, with_reports, Outcome, outcome}

-- ---- hearing

-- heard marks: a set of arcs, by sender and receiver
abbrev pub Marks : Type 0
Marks = ℕ → ℕ → Bool

-- what a row reports: its label and list, or empty if it has no route
unfoldable pub report : Row → Report
report none = empty
report (root l) = told 0 l
report (via d p l) = told d l

-- for each marked arc the held report becomes what the sender's row reports; unmarked arcs keep theirs
unfoldable pub hear : Marks → Net → Net
hear m x = with_reports x (λ s r. cond (m s r) (report (x.row s)) (x.held s r))

-- ---- offers

-- an offer: a sum, or none
abbrev pub Offer : Type 0
Offer = Option ℕ

-- the offer of a held report to the receiver y over an arc of cost c: none if the report is empty or lists y, or if label plus cost is
-- above the largest label, else that sum
unfoldable pub offer : ℕ → ℕ → Report → Offer
offer y c empty = None
offer y c (told d l) = cond (has l y || ltb max_label (d + c)) None (Some (d + c))

-- ---- the choice among offers

-- the list of a held report
unfoldable pub list_of : Report → ℕ
list_of empty = 0
list_of (told d l) = l

-- how many ones it has
abbrev pub ones_in : Report → ℕ
ones_in h = ones (list_of h)

-- an offer of sum v from a report with i ones goes before one of sum u with j ones: a lesser sum, and among equal offers fewer ones
unfoldable pub goes_before : ℕ → ℕ → ℕ → ℕ → Bool
goes_before v i u j = ltb v u || (eqb v u && ltb i j)

-- the winner among some offers: nobody, or a sender and its sum
pub data Winner : Type 0 where
  nobody : Winner
  sender : ℕ → ℕ → Winner

-- the winner once sender k's offer is looked at too, c being the ones by sender: where neither goes before the other the earlier sender stays
unfoldable pub against : (ℕ → ℕ) → Winner → ℕ → Offer → Winner
against c w k None = w
against c nobody k (Some v) = sender k v
against c (sender s u) k (Some v) = cond (goes_before v (c k) u (c s)) (sender k v) (sender s u)

-- the least offer of the senders below k wins; among equals the report with fewest ones in its list, and then the lowest-numbered sender
unfoldable pub winner : (ℕ → Offer) → (ℕ → ℕ) → ℕ → Winner
winner f c zero = nobody
winner f c (suc k) = against c (winner f c k) k (f k)

-- the row becomes that sum, that sender, and the report's list with the receiver's bit; with no offer it has no route
unfoldable pub row_by : ℕ → (ℕ → Report) → Winner → Row
row_by y held nobody = none
row_by y held (sender s u) = via u s (put (list_of (held s)) y)

-- y's new row among n nodes, from its held reports and present costs alone, by sender
unfoldable pub choice : ℕ → (ℕ → ℕ) → (ℕ → Report) → ℕ → Row
choice n cost held y = row_by y held (winner (λ s. offer y (cost s) (held s)) (λ s. ones_in (held s)) n)

-- every node below k but the origin gets a new row; its old row plays no part
unfoldable pub renew_to : ℕ → Net → Net
renew_to k x =
    with_rows x (λ y. cond (ltb y k && not (eqb y x.origin)) (choice x.nodes (λ s. x.cost s y) (λ s. x.held s y) y) (x.row y))

-- every node but the origin gets a new row
unfoldable pub renew : Net → Net
unfolding renew_to
renew x = renew_to x.nodes x

-- a round: first hearing, then new rows
unfoldable pub round : Marks → Net → Net
round m x = renew (hear m x)

-- ---- the round call

-- marks are 32 words; word r has bit s for "r heard s"
unfoldable pub marked : List ℕ → Marks
marked ms s r = ltb s 32 && (ltb r 32 && has (get_or ms r 0) s)

-- some number below k passes the test
unfoldable pub some : (ℕ → Bool) → ℕ → Bool
some f zero = false
some f (suc k) = some f k || f k

-- a mark whose sender or receiver is not below n, or from a node to itself, anywhere
unfoldable pub stray_mark : ℕ → Marks → Bool
stray_mark n m = some (λ r. some (λ s. m s r && pair_fault_of n s r) 32) 32

-- a mark on a pair without an arc, anywhere
unfoldable pub idle_mark : (ℕ → ℕ → ℕ) → Marks → Bool
idle_mark cost m = some (λ r. some (λ s. m s r && eqb (cost s r) 0) 32) 32

-- 1 for marks that are not 32 words, then 3, then 7
unfoldable pub round_number : Net → List ℕ → ℕ
round_number x ms =
    cond (not (eqb (length ms) 32)) 1 (cond (stray_mark x.nodes (marked ms)) 3 (cond (idle_mark x.cost (marked ms)) 7 0))

-- accepted, a round with these marks
unfoldable pub round_of : Net → List ℕ → Outcome
round_of x ms = outcome (round_number x ms) (round (marked ms) x) x

-- every arc is marked
unfoldable pub every_arc : Net → Marks
every_arc x s r = ltb 0 (x.cost s r)

-- a round with every arc heard
unfoldable pub full_round_of : Net → Outcome
full_round_of x = outcome 0 (round (every_arc x) x) x
