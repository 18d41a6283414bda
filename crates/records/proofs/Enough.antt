-- The number of records at most that reading takes never decides: with as many as there are bytes, more give the same.
-- Assumes nothing.
use mathlib.Core.Path.{◌≡◌, refl, sym, ap, ◌∙◌}
use mathlib.Core.List.{List, [], ◌∷◌}
use mathlib.Core.Logic.{◌⊎◌, inl, inr, ◌≢◌}
use Prim.Native.Nat.{ℕ, zero, suc, ◌+◌, ◌<◌, ◌≤◌}
use native.Mathlib.Omega.{arith}
use lib.ListN.{length, drop, length-drop}
use borrow.Author.Tests.{eq-eqb, ne_eqb}
use Rattle.ancestors.proofs.Cases.{eq_or_ne, clash}
use Rattle.network.specs.Network.{Net, Outcome}
use Rattle.network.proofs.Effects.{outcome_number}
use Rattle.network.specs.Answered.{fault_number}
use Rattle.network.specs.declared.Fault.{Fault}
use Rattle.network.specs.declared.Fault.TheVariants.{Cut, Kind}
use Rattle.records.specs.Records.{in_image, as_event, body_of, record_of}
use Rattle.records.specs.Opening.{Step, stop, finish, onward, placed, after_step, read_records_of}
use Rattle.records.specs.Running.{event_done, rounds_in, after_event, read_events}
use Rattle.records.specs.declared.Event.{Event}
use Rattle.records.specs.declared.Event.TheVariants.{Refusal}
use Rattle.records.specs.declared.Record.{Record}
use Rattle.records.proofs.Reading.{by_outcome, length_within, length_some}

-- ---- the records of an image

-- a refusal does not lead onward
pub onward_read : (x : Net) (next : ℕ) (e : Event) (z : Net) (k : ℕ) → onward z k ≡ placed x next e → (f : Fault) (p : ℕ) → e ≢ Refusal f p
unfolding placed
onward_read x next e z k q f p h =
    let w : onward z k ≡ stop (fault_number f) = q ∙ ap (placed x next) h in
    clash cc

-- with more than there are bytes
pub records_enough : (k j : ℕ) (x : Net) (next at : ℕ) (bs : List ℕ) → length bs < k → read_records_of (k + j) x next at bs ≡ read_records_of k x next at bs
unfolding read_records_of
records_enough zero j x next at bs h = absurd (omega arith)
records_enough (suc k) j x next at bs h =
    let e : suc k + j ≡ suc (k + j) = omega arith in
    rw e (go (placed x next r.event) refl (records_enough k j))
  where
    r : Record
    r = record_of in_image at bs

    go : (s : Step) → placed x next r.event ≡ s →
        ((x : Net) (next at : ℕ) (bs : List ℕ) → length bs < k → read_records_of (k + j) x next at bs ≡ read_records_of k x next at bs) →
        after_step (λ z above. read_records_of (k + j) z above (at + r.used) (drop r.used bs)) x at s ≡
        after_step (λ z above. read_records_of k z above (at + r.used) (drop r.used bs)) x at s
    go (stop e) p again = refl
    go finish p again = refl
    go (onward z above) p again =
        let some = length_some in_image at bs (onward_read x next r.event z above (sym p)) in
        again z above (at + r.used) (drop r.used bs) (omega (arith, some, length_within in_image at bs, length-drop r.used bs))

-- ---- the events of a run

-- a refusal has its number
pub refusal_number : (x : Net) (b : List ℕ) (f : Fault) (p : ℕ) → (event_done x b (Refusal f p)).number ≡ fault_number f
unfolding event_done
refusal_number x b f p = outcome_number (fault_number f) x x

-- an accepted event has at least its kind byte
pub accepted_long : (x : Net) (d : List ℕ) (at : ℕ) (s : List ℕ) → (event_done x d (record_of as_event at s).event).number ≡ 0 → 0 < (record_of as_event at s).used
accepted_long x d at s =
    by_outcome (λ (r : Record). (event_done x d r.event).number ≡ 0 → 0 < r.used) as_event at s
    (λ q. omega (arith, refusal_number x d Cut at, q)) (λ q. omega (arith, refusal_number x d Kind at, q)) (λ k b e a h q. omega arith)

-- no bytes, no event
pub no_event : (k : ℕ) (x : Net) (n at : ℕ) → read_events k x n at [] ≡ record { number = 0; place = 0; rounds = n; net = x }
unfolding read_events
no_event zero x n at = refl
no_event (suc k) x n at = refl

-- with as many as there are bytes
pub events_enough : (k j : ℕ) (x : Net) (n at : ℕ) (bs : List ℕ) → length bs ≤ k → read_events (k + j) x n at bs ≡ read_events k x n at bs
unfolding read_events after_event
events_enough zero j x n at [] h = no_event (zero + j) x n at
events_enough zero j x n at (kind ∷ b) h = absurd (omega arith)
events_enough (suc k) j x n at [] h = no_event (suc k + j) x n at
events_enough (suc k) j x n at (kind ∷ b) h =
    let e : suc k + j ≡ suc (k + j) = omega arith in
    rw e (go (eq_or_ne o.number 0) (events_enough k j))
  where
    r : Record
    r = record_of as_event at (kind ∷ b)

    o : Outcome
    o = event_done x (body_of kind b) r.event

    go : (o.number ≡ 0) ⊎ (o.number ≢ 0) →
        ((x : Net) (n at : ℕ) (bs : List ℕ) → length bs ≤ k → read_events (k + j) x n at bs ≡ read_events k x n at bs) →
        after_event (λ z. read_events (k + j) z (n + rounds_in r.event) (at + r.used) (drop r.used (kind ∷ b))) at n o ≡
        after_event (λ z. read_events k z (n + rounds_in r.event) (at + r.used) (drop r.used (kind ∷ b))) at n o
    go (inl z) again =
        let some = accepted_long x (body_of kind b) at (kind ∷ b) z in
        rw (eq-eqb o.number 0 z)
        (again o.net (n + rounds_in r.event) (at + r.used) (drop r.used (kind ∷ b))
        (omega (arith, some, length_within as_event at (kind ∷ b), length-drop r.used (kind ∷ b))))
    go (inr z) again = rw (ne_eqb o.number 0 z)
