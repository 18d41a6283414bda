-- The loop over the events: what holds at its head, and what each way on gives.
-- Assumes nothing.
use mathlib.Core.Path.{◌≡◌, refl, sym, ap, subst, ◌∙◌}
use mathlib.Core.List.{List, ◌∷◌}
use Prim.Native.Nat.{ℕ, zero, suc, ◌+◌, ◌-◌, ◌<◌, ◌≤◌}
use native.Mathlib.Omega.{arith}
use native.Mathlib.Numerals.{add-one}
use lib.ListN.{length, get_or, drop, length-drop, drop_of_length-le}
use lib.Seq.{drop-cons, drop-drop}
use Rattle.std.specs.Prelude.{Some, None}
use Rattle.network.specs.Answered.{fault_number}
use Rattle.network.specs.Network.{Net}
use Rattle.network.specs.declared.Fault.{Fault}
use Rattle.network.proofs.Answered.{fault_some}
use Rattle.memory.specs.Layout.{view}
use Rattle.memory.specs.Answers.{Leaves}
use Rattle.records.specs.Records.{as_event, body_of, record_of}
use Rattle.records.specs.Running.{Running, event_done, rounds_in, after_event, read_events}
use Rattle.records.specs.declared.Record.{Record}
use Rattle.records.proofs.Begun.{event_stops, event_goes_on}
use Rattle.records.proofs.Enough.{no_event, accepted_long}
use Rattle.records.proofs.Reading.{length_within, round_fits, round_body}
use Rattle.running.specs.Inner.{marks_at, Inside, events_from, ran}
use Rattle.running.proofs.Events.{same_body, one_round}

-- the rest of the events of s, from the place `at` on, gives the whole
pub record Rest (s : List ℕ) (o : Running) (x : Net) (rounds at : ℕ) : Type 0 where
  pub fuel : ℕ
  pub enough : length s - at ≤ fuel
  pub within : at ≤ length s
  -- an accepted round has a byte
  pub few : rounds ≤ at
  pub same : read_events fuel x rounds at (drop at s) ≡ o

-- the record at `at`
abbrev pub event_record_of : List ℕ → ℕ → Record
event_record_of s at = record_of as_event at (drop at s)

-- a round's record lies inside the input
pub round_at : (s : List ℕ) (at : ℕ) (r : Record) → r ≡ event_record_of s at → Inside r.event at s
round_at s at r e q =
    let h = round_fits at (drop at s) (ap (λ (t : Record). t.event) (sym e) ∙ q) in omega (arith, length-drop at s)

-- and so does any record
pub record_inside : (s : List ℕ) (at : ℕ) (r : Record) → at ≤ length s → r ≡ event_record_of s at → at + r.used ≤ length s
record_inside s at r h e = omega (arith, ap (λ (t : Record). t.used) e, length_within as_event at (drop at s), length-drop at s)

-- an accepted event has a byte
pub some_byte : {xs ys : List ℕ} (d s : List ℕ) (at : ℕ) (r : Record) → r ≡ event_record_of s at → Leaves (event_done (view xs) d r.event) 0 xs ys → 0 < r.used
some_byte {xs} d s at r e did =
    subst (λ (t : Record). 0 < t.used) (sym e)
    (accepted_long (view xs) d at (drop at s) (ap (λ (t : Record). (event_done (view xs) d t.event).number) (sym e) ∙ sym did.number))

-- the event at the front of the bytes t, whose kind byte the bytes b follow, and the events after it
abbrev stepped : ℕ → Net → ℕ → ℕ → List ℕ → List ℕ → Running
stepped g x rounds at b t =
    let r : Record = record_of as_event at t in
    after_event (λ z. read_events g z (rounds + rounds_in r.event) (at + r.used) (drop r.used t)) at rounds (event_done x (body_of 5 b) r.event)

-- so the definition reads
cons_step : (g : ℕ) (x : Net) (rounds at kind : ℕ) (b : List ℕ) → read_events (suc g) x rounds at (kind ∷ b) ≡ stepped g x rounds at b (kind ∷ b)
unfolding read_events
cons_step g x rounds at kind b = ap (after_event _ at rounds) (same_body x (body_of kind b) (body_of 5 b) _ (round_body at kind b))

-- and so at a place of the input
step_at : (s : List ℕ) (g : ℕ) (x : Net) (rounds at : ℕ) → at < length s → read_events (suc g) x rounds at (drop at s) ≡ stepped g x rounds at (drop (at + 1) s) (drop at s)
step_at s g x rounds at h =
    let e : drop at s ≡ get_or s at 0 ∷ drop (at + 1) s = rw add-one (drop-cons s at 0 h) in
    subst (λ t. read_events (suc g) x rounds at t ≡ stepped g x rounds at (drop (at + 1) s) t) (sym e) (cons_step g x rounds at (get_or s at 0) (drop (at + 1) s))

module _ {s : List ℕ} {o : Running} (xs : List ℕ) {rounds at : ℕ} (rest : Rest s o (view xs) rounds at) where
  -- no bytes are left
  pub at_end_lem : length s ≤ at → ran (record { rounds = rounds; stop = None }) xs ≡ o
  unfolding ran
  at_end_lem h =
      sym (no_event rest.fuel (view xs) rounds at) ∙ ap (read_events rest.fuel (view xs) rounds at) (sym (drop_of_length-le s {i = at} h)) ∙ rest.same

  -- the event of the record r was done
  module _ {r : Record} {k : ℕ} {ys : List ℕ} (h : at < length s) (read : r ≡ event_record_of s at)
      (did : Leaves (event_done (view xs) (marks_at at s) r.event) k xs ys) where
    -- what it did, by the definition of a record
    done : Leaves (event_done (view xs) (marks_at at s) (event_record_of s at).event) k xs ys
    done = subst (λ (t : Record). Leaves (event_done (view xs) (marks_at at s) t.event) k xs ys) read did

    -- bytes are left, so that there is an event more
    one_more : (f : ℕ) → length s - at ≤ f → read_events f (view xs) rounds at (drop at s) ≡ o
        → (g : ℕ) × (f ≡ suc g) × (stepped g (view xs) rounds at (drop (at + 1) s) (drop at s) ≡ o)
    one_more zero a q = absurd (omega arith)
    one_more (suc g) a q = (g, refl, sym (step_at s g (view xs) rounds at h) ∙ q)

    -- refused: the events stop here
    pub at_stop : (f : Fault) → k ≡ fault_number f → ran (record { rounds = rounds; stop = Some (record { fault = f; place = at }) }) ys ≡ o
    unfolding ran
    at_stop f e =
        let m = one_more rest.fuel rest.enough rest.same in
        (λ i. record { number = (sym e ∙ done.number) i; place = at; rounds = rounds; net = done.net i })
        ∙ sym (event_stops _ at rounds _ (λ z. fault_some f (sym e ∙ done.number ∙ z))) ∙ m.2

    -- accepted: the rest begins after the record
    pub at_next : k ≡ 0 → (turns : ℕ) → turns ≡ rounds_in r.event → Rest s o (view ys) (rounds + turns) (at + r.used) × (0 < r.used) × (at + r.used ≤ length s)
    at_next e turns counts =
        let z = sym done.number ∙ e in
        let m = one_more rest.fuel rest.enough rest.same in
        let n : r.used ≡ (event_record_of s at).used = ap (λ (t : Record). t.used) read in
        let q : turns ≡ rounds_in (event_record_of s at).event = counts ∙ ap (λ (t : Record). rounds_in t.event) read in
        let a = accepted_long (view xs) (marks_at at s) at (drop at s) z in
        let b = length_within as_event at (drop at s) in
        let d = length-drop at s in
        let c : at + r.used ≤ length s = omega arith in (
          record {
            fuel = m.0;
            enough = omega (arith, m.1, rest.enough);
            within = c;
            few = omega (arith, rest.few, one_round (event_record_of s at).event);
            same = ap (read_events m.0 (view ys) (rounds + turns) (at + r.used)) (sym (drop-drop r.used at s))
                ∙ (λ i. read_events m.0 (done.net i) (rounds + q i) (at + n i) (drop (n i) (drop at s)))
                ∙ sym (event_goes_on _ at rounds _ z) ∙ m.2;
          },
          omega arith,
          c,
        )
