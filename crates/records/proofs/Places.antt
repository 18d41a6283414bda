-- The numbers and places that opening and runs answer: a number is 0 to 7 or 10 to 12, and a place is within the input.
-- Assumes nothing.
use mathlib.Core.Path.{◌≡◌, refl}
use mathlib.Core.List.{List, [], ◌∷◌}
use mathlib.Core.Logic.{◌⊎◌, inl, inr, ◌≢◌}
use Prim.Native.Nat.{ℕ, zero, suc, ◌+◌, ◌≤◌}
use native.Mathlib.Omega.{arith}
use lib.Dec.{eqb, ltb}
use lib.ListN.{length, drop, length-drop}
use Rattle.ancestors.proofs.Cases.{eq_or_ne, cond_by}
use Rattle.network.specs.Faults.{node_fault, pair_fault_of, FileNumber, early}
use Rattle.network.specs.Network.{Net, fresh_net, fresh_number}
use Rattle.network.proofs.Effects.{outcome_number, number_of, change_outcome, round_outcome, full_round_outcome}
use Rattle.network.proofs.Numbers.{test_of_file, first_of_file, fresh_of_file, change_of_file, place_row_of_file, place_report_of_file, round_of_file}
use Rattle.records.specs.Numbers.{words_in}
use Rattle.network.specs.Answered.{fault_number}
use Rattle.records.specs.Records.{at_start, in_image, as_event, body_of, record_of}
use Rattle.records.specs.Opening.{Step, stop, finish, onward, order_number, arc_number, row_number_of, report_number_of, judged, placed, Opening, after_step, read_records_of, started, headed, open_of}
use Rattle.records.specs.Running.{event_done, rounds_in, Running, after_event, read_events, run_of}
use Rattle.records.specs.declared.ArcChange.TheVariants.{Set, Removed}
use Rattle.records.specs.declared.Event.{Event}
use Rattle.records.specs.declared.Event.TheVariants.{End, Header, Change, Row, Report, Round, FullRound, Refusal}
use Rattle.records.specs.declared.Record.{Record}
use Rattle.records.proofs.Reading.{length_within, Expected, expected}
use Rattle.records.proofs.Opened.{open_used}
use Rattle.records.proofs.Begun.{run_refused, run_opened}

-- ---- a record of an image

-- the number of a refusal
abbrev StopNumber : Step → Type 0
StopNumber (stop e) = FileNumber e
StopNumber finish = Unit {0}
StopNumber (onward z k) = Unit {0}

order_of_file : (next k : ℕ) → FileNumber (order_number next k)
unfolding order_number
order_of_file next k = test_of_file (ltb k next) 4 (early (omega arith))

judged_of_file : (e : ℕ) (z : Net) (k : ℕ) → FileNumber e → StopNumber (judged e z k)
unfolding judged
judged_of_file e z k h = cond_by StopNumber (eqb e 0) _ _ (λ _. tt) (λ _. h)

-- a record with the event e
placed_of_file : (x : Net) (next at : ℕ) (bs : List ℕ) (e : Event) → (record_of in_image at bs).event ≡ e → StopNumber (placed x next e)
unfolding placed arc_number row_number_of report_number_of
placed_of_file x next at bs End q = tt
placed_of_file x next at bs (Header n o) q = early (omega arith)
placed_of_file x next at bs (Change (Set s r c)) q =
    judged_of_file (arc_number x next s r c) _ _ (first_of_file _ _ (change_of_file x s r c) (order_of_file next _))
placed_of_file x next at bs (Change (Removed s r)) q = early (omega arith)
placed_of_file x next at bs (Row y d p l) q =
    judged_of_file (row_number_of x next y d p l) _ _
    (first_of_file _ _ (test_of_file (node_fault x.nodes y) 3 (early (omega arith))) (first_of_file _ _ (order_of_file next _) (place_row_of_file x y d p l)))
placed_of_file x next at bs (Report s r d l) q =
    judged_of_file (report_number_of x next s r d l) _ _
    (first_of_file _ _ (test_of_file (pair_fault_of x.nodes s r) 3 (early (omega arith))) (first_of_file _ _ (order_of_file next _) (place_report_of_file x s r d l)))
placed_of_file x next at bs Round q = early (omega arith)
placed_of_file x next at bs FullRound q = early (omega arith)
placed_of_file x next at bs (Refusal e p) q = early (omega (arith, (expected in_image at bs (Refusal e p) q).2))

-- ---- opening

-- number and place of an opening of L bytes
abbrev Small : ℕ → Opening → Type 0
Small L o = FileNumber o.number × (o.place ≤ L)

after_small : (L at : ℕ) → at ≤ L → (go : Net → ℕ → Opening) (x : Net) → ((z : Net) (k : ℕ) → Small L (go z k)) → (t : Step) → StopNumber t
    → Small L (after_step go x at t)
after_small L at h go x again (stop e) m = (m, h)
after_small L at h go x again finish m = (early (omega arith), omega arith)
after_small L at h go x again (onward z k) m = again z k

records_small : (L k : ℕ) (x : Net) (next at : ℕ) (bs : List ℕ) → at + length bs ≤ L → Small L (read_records_of k x next at bs)
unfolding read_records_of
records_small L zero x next at bs h = (early (omega arith), omega arith)
records_small L (suc k) x next at bs h =
    let r = record_of in_image at bs in
    after_small L at (omega arith) (λ z above. read_records_of k z above (at + r.used) (drop r.used bs)) x
    (λ z above.
    records_small L k z above (at + r.used) (drop r.used bs) (omega (arith, length-drop r.used bs, length_within in_image at bs)))
    (placed x next r.event) (placed_of_file x next at bs r.event refl)

-- opening answers such a number, and a place within the input
pub open_small : (bs : List ℕ) → Small (length bs) (open_of bs)
unfolding open_of started headed
open_small bs = go (record_of at_start 0 bs) (record_of at_start 0 bs).event (length_within at_start 0 bs) (expected at_start 0 bs _ refl)
  where
    go : (r : Record) (e : Event) → r.used ≤ length bs → Expected at_start 0 r.used e → Small (length bs) (started bs r e)
    go r (Header n o) h q =
        cond_by (Small (length bs)) (eqb (fresh_number n o) 0) _ _
        (λ _. records_small (length bs) (length bs) (fresh_net n o) 0 r.used (drop r.used bs) (omega (arith, length-drop r.used bs)))
        (λ _. (fresh_of_file n o, omega arith))
    go r (Refusal e p) h q = (early (omega (arith, q.2)), omega (arith, q.0))
    go r End h q = absurd q
    go r (Change a) h q = absurd q
    go r (Row y d p l) h q = absurd q
    go r (Report t v d l) h q = absurd q
    go r Round h q = absurd q
    go r FullRound h q = absurd q

-- ---- a run

-- the number of an event
done_of_file : (x : Net) (b : List ℕ) (at : ℕ) (bs : List ℕ) (e : Event) → (record_of as_event at bs).event ≡ e → FileNumber (event_done x b e).number
unfolding event_done
done_of_file x b at bs (Change (Set s r c)) q = rw (number_of _ _ _ (change_outcome x s r c)) (change_of_file x s r c)
done_of_file x b at bs (Change (Removed s r)) q = rw (number_of _ _ _ (change_outcome x s r 0)) (change_of_file x s r 0)
done_of_file x b at bs Round q = rw (number_of _ _ _ (round_outcome x (words_in 32 b))) (round_of_file x (words_in 32 b))
done_of_file x b at bs FullRound q = early (omega (arith, number_of _ _ _ (full_round_outcome x)))
done_of_file x b at bs (Refusal e p) q = early (omega (arith, outcome_number (fault_number e) x x, (expected as_event at bs (Refusal e p) q).2))
done_of_file x b at bs End q = absurd (expected as_event at bs End q)
done_of_file x b at bs (Header n o) q = absurd (expected as_event at bs (Header n o) q)
done_of_file x b at bs (Row y d p l) q = absurd (expected as_event at bs (Row y d p l) q)
done_of_file x b at bs (Report s r d l) q = absurd (expected as_event at bs (Report s r d l) q)

-- number and place of a run of L bytes
abbrev pub Brief : ℕ → Running → Type 0
Brief L o = FileNumber o.number × (o.place ≤ L)

events_small : (L k : ℕ) (x : Net) (n at : ℕ) (bs : List ℕ) → at + length bs ≤ L → Brief L (read_events k x n at bs)
unfolding read_events after_event
events_small L zero x n at bs h = (early (omega arith), omega arith)
events_small L (suc k) x n at [] h = (early (omega arith), omega arith)
events_small L (suc k) x n at (kind ∷ b) h =
    let r = record_of as_event at (kind ∷ b) in
    let o = event_done x (body_of kind b) r.event in
    cond_by (Brief L) (eqb o.number 0) _ _
    (λ _.
    events_small L k o.net (n + rounds_in r.event) (at + r.used) (drop r.used (kind ∷ b))
    (omega (arith, length-drop r.used (kind ∷ b), length_within as_event at (kind ∷ b))))
    (λ _. (done_of_file x (body_of kind b) at (kind ∷ b) r.event refl, omega arith))

-- and so does a run
pub run_small : (bs : List ℕ) → Brief (length bs) (run_of bs)
run_small bs = go (eq_or_ne (open_of bs).number 0)
  where
    go : ((open_of bs).number ≡ 0) ⊎ ((open_of bs).number ≢ 0) → Brief (length bs) (run_of bs)
    go (inl e) =
        rw (run_opened bs e)
        (events_small (length bs) (length bs) (open_of bs).net 0 (open_of bs).used (drop (open_of bs).used bs)
        (omega (arith, open_used bs, length-drop (open_of bs).used bs)))
    go (inr n) = rw (run_refused bs n) (open_small bs)
