-- Document 01, "Records": kinds and bodies, the bytes of each record that is written, and what a record is read as.
-- Assumes nothing.
use Rattle.std.specs.Prelude.{Bool, cond, ◌||◌, ◌&&◌, List, [], ◌∷◌, ◌++◌, ℕ, suc, eqb, ltb, length, get_or, take}
use Rattle.network.specs.Faults.{grade_fault}
use Rattle.network.specs.Change.{grade_cost_of}
use Rattle.network.specs.declared.Fault.{Fault}
use Rattle.network.specs.declared.Fault.TheVariants.{Cut, Kind, Range}
use Rattle.records.specs.Numbers.{be8, be16, be32, num8, num16, num32}
use Rattle.records.specs.declared.ArcChange.{ArcChange}
use Rattle.records.specs.declared.ArcChange.TheVariants.{Set, Removed}
use Rattle.records.specs.declared.Event.{Event}
use Rattle.records.specs.declared.Event.TheVariants.{End, Header, Change, Row, Report, Round, FullRound, Refusal}
use Rattle.records.specs.declared.Record.{Record}

-- the body bytes of kinds 0 to 7, in order
abbrev pub bodies : List ℕ
bodies = 0 ∷ 2 ∷ 4 ∷ 10 ∷ 10 ∷ 128 ∷ 0 ∷ 3 ∷ []

-- the length of a body is fixed by its kind
unfoldable pub body_length : ℕ → ℕ
body_length k = get_or bodies k 0

-- the bytes of a record: its kind byte and its body
abbrev pub record_length : ℕ → ℕ
record_length k = suc (body_length k)

-- ---- written

-- 0: end of image
unfoldable pub end_record : List ℕ
end_record = be8 0

-- 1: n, origin
unfoldable pub header_record_of : ℕ → ℕ → List ℕ
header_record_of n origin = be8 1 ++ (be8 n ++ be8 origin)

-- 2: sender, receiver, cost
unfoldable pub arc_record_of : ℕ → ℕ → ℕ → List ℕ
arc_record_of s r c = be8 2 ++ (be8 s ++ (be8 r ++ be16 c))

-- 3: node, label, predecessor, list
unfoldable pub row_record_of : ℕ → ℕ → ℕ → ℕ → List ℕ
row_record_of y d p l = be8 3 ++ (be8 y ++ (be32 d ++ (be8 p ++ be32 l)))

-- 4: sender, receiver, label, list
unfoldable pub report_record_of : ℕ → ℕ → ℕ → ℕ → List ℕ
report_record_of s r d l = be8 4 ++ (be8 s ++ (be8 r ++ (be32 d ++ be32 l)))

-- ---- read

-- a change to the cost c: cost 0 removes
unfoldable pub arc_change : ℕ → ℕ → ℕ → ArcChange
arc_change s r c = cond (eqb c 0) (Removed s r) (Set s r c)

-- a grade stands for its cost; 3 for a grade above 15
unfoldable pub grade_change : ℕ → ℕ → ℕ → ℕ → Event
grade_change at s r g = cond (grade_fault g) (Refusal Range at) (Change (arc_change s r (grade_cost_of g)))

-- the event of a record of kind k, 0 to 7, with the body b and the place `at`
unfoldable pub event_of : ℕ → ℕ → List ℕ → Event
event_of at k b =
    cond (eqb k 0) End
    (cond (eqb k 1) (Header (num8 b 0) (num8 b 1))
    (cond (eqb k 2) (Change (arc_change (num8 b 0) (num8 b 1) (num16 b 2)))
    (cond (eqb k 3) (Row (num8 b 0) (num32 b 1) (num8 b 5) (num32 b 6))
    (cond (eqb k 4) (Report (num8 b 0) (num8 b 1) (num32 b 2) (num32 b 6))
    (cond (eqb k 5) Round
    (cond (eqb k 6) FullRound
    (grade_change at (num8 b 0) (num8 b 1) (num8 b 2))))))))

-- where in a run a record stands: at its start, inside its image, or as an event after it
pub data Section : Type 0 where
  at_start : Section
  in_image : Section
  as_event : Section

-- the kinds that are allowed: 1 first; 0 and 2 to 4 inside an image; 2 and 5 to 7 as events
unfoldable pub allowed : Section → ℕ → Bool
allowed at_start k = eqb k 1
allowed in_image k = eqb k 0 || (ltb 1 k && ltb k 5)
allowed as_event k = eqb k 2 || (ltb 4 k && ltb k 8)

-- the body of a record of kind k before the bytes b
unfoldable pub body_of : ℕ → List ℕ → List ℕ
body_of k b = take (body_length k) b

-- a record refused before its body is read
abbrev pub refused_record : Fault → ℕ → Record
refused_record f at = record { event = Refusal f at; used = 0 }

-- a record of kind k before the bytes b: 1 for a short body
unfoldable pub bodied : ℕ → ℕ → List ℕ → Record
bodied at k b =
    cond (ltb (length b) (body_length k)) (refused_record Cut at)
    (record { event = event_of at k (body_of k b); used = record_length k })

-- the record at the front of the bytes that begin at the place `at`: missing kind byte 1, then 2, short body 1
unfoldable pub record_of : Section → ℕ → List ℕ → Record
record_of z at [] = refused_record Cut at
record_of z at (k ∷ b) = cond (allowed z k) (bodied at k b) (refused_record Kind at)
