-- Document 01, "Records": opening an image, record by record.
-- Assumes nothing.
use Rattle.std.specs.Prelude.{cond, List, ℕ, zero, suc, ◌+◌, ◌*◌, eqb, ltb, length, drop}
use Rattle.network.specs.Faults.{max_nodes, pair_count, node_fault, pair_fault_of, first_number}
use Rattle.network.specs.Network.{via, told, Net, with_row, with_held, fresh_net, fresh_number}
use Rattle.network.specs.Answered.{fault_number}
use Rattle.network.specs.Placing.{place_row_number, place_report_number}
use Rattle.network.specs.Change.{changed, change_number}
use Rattle.records.specs.Records.{at_start, in_image, record_of}
use Rattle.records.specs.declared.ArcChange.TheVariants.{Set, Removed}
use Rattle.records.specs.declared.Event.{Event}
use Rattle.records.specs.declared.Event.TheVariants.{End, Header, Change, Row, Report, Round, FullRound, Refusal}
use Rattle.records.specs.declared.Record.{Record}

-- ---- image order

-- the places that an image can fill: one for each pair of nodes, then one for each node, then one for each pair
abbrev pub first_row : ℕ
first_row = pair_count

abbrev pub first_report : ℕ
first_report = first_row + max_nodes

abbrev pub rank_count : ℕ
rank_count = first_report + pair_count

-- the rank of a record in image order: arcs and reports ascend by sender then receiver, rows by node
unfoldable pub arc_rank : ℕ → ℕ → ℕ
arc_rank s r = s * max_nodes + r

unfoldable pub row_rank : ℕ → ℕ
row_rank y = first_row + y

unfoldable pub report_rank : ℕ → ℕ → ℕ
report_rank s r = first_report + arc_rank s r

-- 4 for a record not above the one before it, where the ranks from `next` on are above
unfoldable pub order_number : ℕ → ℕ → ℕ
order_number next k = cond (ltb k next) 4 0

-- ---- a record of an image

-- 3, then 4; an arc's record has no fault of form
unfoldable pub arc_number : Net → ℕ → ℕ → ℕ → ℕ → ℕ
arc_number x next s r c = first_number (change_number x s r c) (order_number next (arc_rank s r))

-- 3, then 4, then the number of its form
unfoldable pub row_number_of : Net → ℕ → ℕ → ℕ → ℕ → ℕ → ℕ
row_number_of x next y d p l =
    first_number (cond (node_fault x.nodes y) 3 0) (first_number (order_number next (row_rank y)) (place_row_number x y d p l))

-- 3, then 4, then the number of its form
unfoldable pub report_number_of : Net → ℕ → ℕ → ℕ → ℕ → ℕ → ℕ
report_number_of x next s r d l =
    first_number (cond (pair_fault_of x.nodes s r) 3 0) (first_number (order_number next (report_rank s r)) (place_report_number x s r d l))

-- what a record of an image leads to: a refusal with its number, the end, or the network with that record and the ranks above it
pub data Step : Type 0 where
  stop : ℕ → Step
  finish : Step
  onward : Net → ℕ → Step

-- without a fault, the network z and the ranks above k
unfoldable pub judged : ℕ → Net → ℕ → Step
judged e z k = cond (eqb e 0) (onward z (suc k)) (stop e)

-- a record on the network x; in an image cost 0 is refused as 3; other kinds were refused as 2 when the record was read
unfoldable pub placed : Net → ℕ → Event → Step
placed x next End = finish
placed x next (Header n o) = stop 2
placed x next (Change (Set s r c)) = judged (arc_number x next s r c) (changed x s r c) (arc_rank s r)
placed x next (Change (Removed s r)) = stop 3
placed x next (Row y d p l) = judged (row_number_of x next y d p l) (with_row x y (via d p l)) (row_rank y)
placed x next (Report s r d l) = judged (report_number_of x next s r d l) (with_held x s r (told d l)) (report_rank s r)
placed x next Round = stop 2
placed x next FullRound = stop 2
placed x next (Refusal f p) = stop (fault_number f)

-- ---- opening

-- what opening answers
pub record Opening : Type 0 where
  pub number : ℕ
  pub place : ℕ
  pub used : ℕ
  pub net : Net

-- refused with number and place: the fresh network of one node, and 0 bytes used
abbrev pub refused_opening : ℕ → ℕ → Opening
refused_opening e at = record { number = e; place = at; used = 0; net = fresh_net 1 0 }

-- accepted: the network and the bytes used
abbrev pub accepted_opening : Net → ℕ → Opening
accepted_opening x used = record { number = 0; place = 0; used = used; net = x }

-- after a record of x at the place `at`
abbrev pub after_step : (Net → ℕ → Opening) → Net → ℕ → Step → Opening
after_step go x at (stop e) = refused_opening e at
after_step go x at finish = accepted_opening x (at + 1)
after_step go x at (onward z next) = go z next

-- the records of the bytes bs, which begin at the place `at`, up to the end of the image; at most k of them
unfoldable pub read_records_of : ℕ → Net → ℕ → ℕ → List ℕ → Opening
read_records_of zero x next at bs = refused_opening 1 at
read_records_of (suc k) x next at bs =
    let r : Record = record_of in_image at bs in
    after_step (λ z above. read_records_of k z above (at + r.used) (drop r.used bs)) x at (placed x next r.event)

-- the opening of the bytes bs whose first record ends at k and gives n and origin; a record has at least one byte, so that there are not more
-- records than bytes
unfoldable pub headed : List ℕ → ℕ → ℕ → ℕ → Opening
headed bs k n o = cond (eqb (fresh_number n o) 0) (read_records_of (length bs) (fresh_net n o) 0 k (drop k bs)) (refused_opening (fresh_number n o) 0)

-- the first record, then the others; other kinds were refused as 2 when the record was read
unfoldable pub started : List ℕ → Record → Event → Opening
started bs r (Header n o) = headed bs r.used n o
started bs r (Refusal f p) = refused_opening (fault_number f) p
started bs r End = refused_opening 2 0
started bs r (Change c) = refused_opening 2 0
started bs r (Row y d p l) = refused_opening 2 0
started bs r (Report s t d l) = refused_opening 2 0
started bs r Round = refused_opening 2 0
started bs r FullRound = refused_opening 2 0

-- opening an image; what follows kind 0 is ignored
unfoldable pub open_of : List ℕ → Opening
open_of bs = started bs (record_of at_start 0 bs) (record_of at_start 0 bs).event
