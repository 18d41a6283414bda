-- A run is its events as calls on the network that its image opens to; so demand 3 holds of what a run answers.
-- Assumes nothing.
use mathlib.Core.Path.{◌≡◌, refl, sym, ap, subst, ◌∙◌}
use mathlib.Core.Bool.{Bool, true, false, cond}
use mathlib.Core.List.{List, [], ◌∷◌}
use mathlib.Core.Logic.{◌⊎◌, inl, inr, ◌≢◌}
use Prim.Native.Nat.{ℕ, zero, suc, ◌+◌, ◌≤◌}
use native.Mathlib.Omega.{arith}
use native.Mathlib.Nat.{zero-add}
use lib.Dec.{ltb}
use lib.ListN.{length, drop, length-drop}
use borrow.Author.Tests.{eq-eqb}
use Rattle.ancestors.proofs.Cases.{bool_cases, eq_or_ne, never, cond_by}
use Rattle.network.specs.Faults.{grade_fault}
use Rattle.network.specs.Network.{Net, Outcome, outcome, Within}
use Rattle.network.specs.Change.{grade_cost_of}
use Rattle.network.proofs.Effects.{outcome_number, outcome_same}
use Rattle.network.specs.Round.{Marks, marked}
use Rattle.records.specs.Numbers.{Bytes}
use Rattle.network.specs.Answered.{fault_number}
use Rattle.network.specs.declared.Fault.{Fault}
use Rattle.network.specs.declared.Fault.TheVariants.{Cut, Kind, Range}
use Rattle.records.specs.Records.{body_length, record_length, arc_change, grade_change, event_of, as_event, allowed, body_of, refused_record, bodied, record_of}
use Rattle.records.specs.Opening.{open_of}
use Rattle.records.specs.Running.{event_done, rounds_in, Running, after_event, read_events, run_of}
use Rattle.records.specs.declared.Event.{Event}
use Rattle.records.specs.declared.Event.TheVariants.{Change, Refusal}
use Rattle.records.specs.declared.Record.{Record}
use Rattle.records.proofs.Reading.{whole_record, ◌&◌, by_allowed}
use Rattle.records.proofs.Grading.{change_record, grade_record}
use Rattle.records.proofs.Begun.{run_refused, run_opened, event_stops, event_goes_on}
use Rattle.records.proofs.Opened.{open_within}
use Rattle.settling.specs.Calls.{Call, change, grade, round, full_round, route, write_image_of, called, accepted, after, marks_then, rounds, at_end, rounds_heard, Promises}
use Rattle.settling.specs.RunCalls.{event_call, Events, ended, malformed, event, events_in, run_events_of, calls_of, Stop, stop_of, run_calls, RunIsCalls, RunSettles}
use Rattle.settling.proofs.CallLaws.{accepted_zero, accepted_not, full_accepted, after_within, after_append}
use Rattle.settling.proofs.Theorem.{open_answers, demand3}

-- ---- one event

-- an event does what its call does, and an accepted one counts the rounds of that call
record SameDone (x : Net) (b : List ℕ) (e : Event) (c : Call) : Type 0 where
  done : event_done x b e ≡ called x c
  counted : (called x c).number ≡ 0 → length (marks_then x c []) ≡ rounds_in e

-- a grade's record is no round
no_round : (at s r g : ℕ) → 0 ≡ rounds_in (grade_change at s r g)
unfolding grade_change rounds_in
no_round at s r g =
    cond_by (λ (e : Event). 0 ≡ rounds_in e) (grade_fault g) (Refusal Range at) (Change (arc_change s r (grade_cost_of g))) (λ _. refl) (λ _. refl)

same_done : (x : Net) (at : ℕ) (b : List ℕ) (k : ℕ) → allowed as_event k ≡ true → SameDone x b (event_of at k b) (event_call k b)
unfolding allowed event_of event_call event_done called rounds_in marks_then accepted
same_done x at b =
    by_allowed as_event (λ k. SameDone x b (event_of at k b) (event_call k b))
    (tt & record { done = change_record x b _ _ _; counted = λ _. refl }
    & record { done = refl; counted = λ z. rw (eq-eqb _ 0 z) }
    & record { done = refl; counted = λ _. refl }
    & record { done = grade_record x b at _ _ _; counted = λ _. no_round at _ _ _ })

-- the marks of a call are put before the others
marks_long : (x : Net) (c : Call) (ms : List Marks) → length (marks_then x c ms) ≡ length (marks_then x c []) + length ms
unfolding marks_then
marks_long x (change s r c) ms = sym (zero-add (length ms))
marks_long x (grade s r g) ms = sym (zero-add (length ms))
marks_long x (round ws) ms = go (accepted x (round ws))
  where
    go : (t : Bool) → length (cond t (marked ws ∷ ms) ms) ≡ length (cond t (marked ws ∷ []) []) + length ms
    go true = omega arith
    go false = omega arith
marks_long x full_round ms = omega arith
marks_long x (route y out) ms = sym (zero-add (length ms))
marks_long x (write_image_of out) ms = sym (zero-add (length ms))

-- a refused call has none
refused_marks : (x : Net) (c : Call) → accepted x c ≡ false → marks_then x c [] ≡ []
unfolding marks_then
refused_marks x (change s r c) e = refl
refused_marks x (grade s r g) e = refl
refused_marks x (round ws) e = rw e
refused_marks x full_round e = never (accepted x full_round) (full_accepted x) e
refused_marks x (route y out) e = refl
refused_marks x (write_image_of out) e = refl

-- ---- the events of a run

-- the answer r, on x and after n rounds, is that of the events es
record AnswersBy (x : Net) (n : ℕ) (es : Events) (r : Running) : Type 0 where
  net : r.net ≡ after x (calls_of x es)
  counted : r.rounds ≡ n + length (rounds x (calls_of x es))
  number : r.number ≡ (stop_of x es).number
  place : r.place ≡ (stop_of x es).place

by_none : (x : Net) (n : ℕ) → AnswersBy x n ended (record { number = 0; place = 0; rounds = n; net = x })
unfolding calls_of stop_of after rounds
by_none x n = record { net = refl; counted = omega arith; number = refl; place = refl }

-- a record that is no event
by_malformed : (go : Net → Running) (x : Net) (b : List ℕ) (n at : ℕ) (f : Fault) → fault_number f ≢ 0 →
    AnswersBy x n (malformed (fault_number f) at) (after_event go at n (event_done x b (Refusal f at)))
unfolding calls_of stop_of after rounds event_done
by_malformed go x b n at f h =
    let e = fault_number f in
    let k = outcome_number e x x in
    rw (event_stops go at n (outcome e x x) (λ z. h (sym k ∙ z)))
    (record { net = outcome_same e x; counted = omega arith; number = k; place = refl })

-- the calls of an event and those after it, and where they stop
module _ (x : Net) (at : ℕ) (c : Call) (es : Events) where
  calls_more : accepted x c ≡ true → calls_of x (event at c es) ≡ c ∷ calls_of (called x c).net es
  unfolding calls_of
  calls_more t = rw t

  calls_stop : accepted x c ≡ false → calls_of x (event at c es) ≡ c ∷ []
  unfolding calls_of
  calls_stop t = rw t

  stop_later : accepted x c ≡ true → stop_of x (event at c es) ≡ stop_of (called x c).net es
  unfolding stop_of
  stop_later t = rw t

  stop_here : accepted x c ≡ false → stop_of x (event at c es) ≡ record { number = (called x c).number; place = at }
  unfolding stop_of
  stop_here t = rw t

-- a call, then the events after it
by_call : (go : Net → Running) (x : Net) (b : List ℕ) (n at : ℕ) (e : Event) (c : Call) (es : Events) → SameDone x b e c →
    ((z : Net) → AnswersBy z (n + rounds_in e) es (go z)) → AnswersBy x n (event at c es) (after_event go at n (event_done x b e))
unfolding after rounds
by_call go x b n at e c es same again =
    subst (λ (o : Outcome). AnswersBy x n (event at c es) (after_event go at n o)) (sym same.done) (cases (bool_cases (accepted x c)))
  where
    cases : (accepted x c ≡ true) ⊎ (accepted x c ≡ false) → AnswersBy x n (event at c es) (after_event go at n (called x c))
    cases (inl t) =
        let z : (called x c).number ≡ 0 = accepted_zero x c t in
        let ih = again (called x c).net in
        let calls = sym (calls_more x at c es t) in
        let stop = sym (stop_later x at c es t) in
        let more = marks_long x c (rounds (called x c).net (calls_of (called x c).net es)) in
        rw (event_goes_on go at n (called x c) z)
        (record {
          net = ih.net ∙ ap (after x) calls;
          counted = omega (arith, ih.counted, same.counted z, more, ap (λ (cs : List Call). length (rounds x cs)) calls);
          number = ih.number ∙ ap (λ (p : Stop). p.number) stop;
          place = ih.place ∙ ap (λ (p : Stop). p.place) stop;
        })
    cases (inr t) =
        let calls = sym (calls_stop x at c es t) in
        let stop = sym (stop_here x at c es t) in
        rw (event_stops go at n (called x c) (accepted_not x c t))
        (record {
          net = ap (after x) calls;
          counted = omega (arith, ap length (refused_marks x c t), ap (λ (cs : List Call). length (rounds x cs)) calls);
          number = ap (λ (p : Stop). p.number) stop;
          place = ap (λ (p : Stop). p.place) stop;
        })

events_as : (k : ℕ) (x : Net) (n at : ℕ) (bs : List ℕ) → AnswersBy x n (events_in k at bs) (read_events k x n at bs)
unfolding read_events events_in record_of bodied
events_as zero x n at bs = by_none x n
events_as (suc k) x n at [] = by_none x n
events_as (suc k) x n at (kind ∷ b) = go (allowed as_event kind) (ltb (length b) (body_length kind)) refl (events_as k)
  where
    step : Record → Running
    step r =
        after_event (λ z. read_events k z (n + rounds_in r.event) (at + r.used) (drop r.used (kind ∷ b))) at n
        (event_done x (body_of kind b) r.event)

    rest : Events
    rest = events_in k (at + record_length kind) (drop (record_length kind) (kind ∷ b))

    go : (t u : Bool) → allowed as_event kind ≡ t →
        ((x : Net) (n at : ℕ) (bs : List ℕ) → AnswersBy x n (events_in k at bs) (read_events k x n at bs)) →
        AnswersBy x n (cond t (cond u (malformed 1 at) (event at (event_call kind (body_of kind b)) rest)) (malformed 2 at))
        (step (cond t (cond u (refused_record Cut at) (whole_record at kind b)) (refused_record Kind at)))
    go false u p again = by_malformed _ x (body_of kind b) n at Kind (λ z. omega arith)
    go true true p again = by_malformed _ x (body_of kind b) n at Cut (λ z. omega arith)
    go true false p again =
        by_call _ x (body_of kind b) n at (event_of at kind (body_of kind b)) (event_call kind (body_of kind b)) rest
        (same_done x at (body_of kind b) kind p) (λ z. again z _ _ _)

-- the number of events at most never decides: with as many as there are bytes, more give the same
no_bytes : (k at : ℕ) → events_in k at [] ≡ ended
unfolding events_in
no_bytes zero at = refl
no_bytes (suc k) at = refl

pub run_events_enough : (k j at : ℕ) (bs : List ℕ) → length bs ≤ k → events_in (k + j) at bs ≡ events_in k at bs
unfolding events_in
run_events_enough zero j at [] h = no_bytes (zero + j) at
run_events_enough zero j at (kind ∷ b) h = absurd (omega arith)
run_events_enough (suc k) j at [] h = no_bytes (suc k + j) at
run_events_enough (suc k) j at (kind ∷ b) h =
    let e : suc k + j ≡ suc (k + j) = omega arith in
    let l = body_length kind in
    let same = run_events_enough k j (at + suc l) (drop l b) (omega (arith, length-drop l b)) in
    rw e
    (λ i.
    cond (allowed as_event kind) (cond (ltb (length b) l) (malformed 1 at) (event at (event_call kind (body_of kind b)) (same i))) (malformed 2 at))

-- ---- a run

pub run_calls_lem : RunIsCalls
unfolding run_events_of
run_calls_lem bs e =
    let r = run_opened bs e in
    let by = events_as (length bs) (open_of bs).net 0 (open_of bs).used (drop (open_of bs).used bs) in
    record {
      net_is = ap (λ (o : Running). o.net) r ∙ by.net;
      rounds_are = omega (arith, ap (λ (o : Running). o.rounds) r, by.counted);
      number_is = ap (λ (o : Running). o.number) r ∙ by.number;
      place_is = ap (λ (o : Running). o.place) r ∙ by.place;
    }

-- the network that a run answers is within limits, refused or not
pub run_within : (bs : List ℕ) → Bytes bs → Within (run_of bs).net
run_within bs by = go (eq_or_ne (open_of bs).number 0)
  where
    go : ((open_of bs).number ≡ 0) ⊎ ((open_of bs).number ≢ 0) → Within (run_of bs).net
    go (inl e) = rw (run_calls_lem bs e).net_is (after_within (open_of bs).net (open_within bs by) (run_calls bs))
    go (inr n) = rw (run_refused bs n) (open_within bs by)

-- demand 3 of a run
pub run_settles : RunSettles
run_settles bs by e before stretch W cut s =
    subst (Promises (open_of bs).net.nodes W (rounds_heard (open_of bs).net before stretch)) end
    (demand3 (open_of bs).net (open_answers bs by e) before stretch W s)
  where
    end : at_end (open_of bs).net before stretch ≡ (run_of bs).net
    end = sym (after_append (open_of bs).net before stretch) ∙ ap (after (open_of bs).net) (sym cut) ∙ sym (run_calls_lem bs e).net_is
