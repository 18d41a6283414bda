-- What opening answers: a refusal with the fresh network of one node, or a network within limits; and the bytes used.
-- Assumes nothing.
use mathlib.Core.Path.{◌≡◌, refl, sym, ap, ◌∙◌}
use mathlib.Core.Bool.{Bool, true, false, cond}
use mathlib.Core.List.{List}
use mathlib.Core.Logic.{◌⊎◌, inl, inr, ◌≢◌}
use Prim.Native.Nat.{ℕ, zero, suc, ◌+◌, ◌<◌, ◌≤◌}
use native.Mathlib.Omega.{arith}
use lib.Dec.{eqb}
use lib.ListN.{length, drop, length-drop}
use borrow.Author.Tests.{eq-eqb, ne_eqb}
use Rattle.ancestors.proofs.Cases.{eq_or_ne, clash}
use Rattle.network.specs.Network.{Net, Within, fresh_net, fresh_number}
use Rattle.network.proofs.Accepting.{fresh_free}
use Rattle.network.proofs.FaultLaws.{size_free}
use Rattle.records.specs.Numbers.{Bytes}
use Rattle.network.specs.Answered.{fault_number}
use Rattle.records.specs.Records.{at_start, in_image, record_of}
use Rattle.records.specs.Opening.{Step, stop, finish, onward, placed, Opening, refused_opening, accepted_opening, after_step, read_records_of, started, headed, open_of}
use Rattle.records.specs.declared.Event.{Event}
use Rattle.records.specs.declared.Event.TheVariants.{End, Header, Change, Row, Report, Round, FullRound, Refusal}
use Rattle.records.specs.declared.Record.{Record}
use Rattle.records.proofs.Reading.{by_outcome, length_within}
use Rattle.records.proofs.ImageSteps.{stop_at}
use Rattle.records.proofs.Parsing.{StartShown, a_header, a_stop, start_shown}
use Rattle.records.proofs.Acceptance.{fresh_net_lem, started_header, started_stop, acceptance}

pub data OpenIs (o : Opening) : Type 0 where
  refused : (e at : ℕ) → e ≢ 0 → o ≡ refused_opening e at → OpenIs o
  accepted : (x : Net) (used : ℕ) → o ≡ accepted_opening x used → OpenIs o

records_is : (k : ℕ) (x : Net) (next at : ℕ) (bs : List ℕ) → OpenIs (read_records_of k x next at bs)
unfolding read_records_of
records_is zero x next at bs = refused 1 at (λ z. omega arith) refl
records_is (suc k) x next at bs = go (placed x next r.event) refl (records_is k)
  where
    r : Record
    r = record_of in_image at bs

    go : (s : Step) → placed x next r.event ≡ s → ((x : Net) (next at : ℕ) (bs : List ℕ) → OpenIs (read_records_of k x next at bs)) →
        OpenIs (after_step (λ z above. read_records_of k z above (at + r.used) (drop r.used bs)) x at s)
    go (stop e) p again = refused e at (stop_at x next at bs e p) refl
    go finish p again = accepted x (at + 1) refl
    go (onward z above) p again = again z above (at + r.used) (drop r.used bs)

pub open_is : (bs : List ℕ) → OpenIs (open_of bs)
open_is bs = go (start_shown bs)
  where
    go : StartShown bs (record_of at_start 0 bs) → OpenIs (open_of bs)
    go (a_stop f n p) = refused (fault_number f) 0 n (started_stop bs f p)
    go (a_header n o b p e) = rw (started_header bs n o e) (by_number (eq_or_ne (fresh_number n o) 0))
      where
        by_number : (fresh_number n o ≡ 0) ⊎ (fresh_number n o ≢ 0) →
            OpenIs (cond (eqb (fresh_number n o) 0) (read_records_of (length bs) (fresh_net n o) 0 3 (drop 3 bs)) (refused_opening (fresh_number n o) 0))
        by_number (inl z) = rw (eq-eqb (fresh_number n o) 0 z) (records_is (length bs) (fresh_net n o) 0 3 (drop 3 bs))
        by_number (inr z) = rw (ne_eqb (fresh_number n o) 0 z) (refused (fresh_number n o) 0 z refl)

-- with number 0, opening accepted
pub open_accepted : (bs : List ℕ) → (open_of bs).number ≡ 0 → open_of bs ≡ accepted_opening (open_of bs).net (open_of bs).used
open_accepted bs z = go (open_is bs)
  where
    go : OpenIs (open_of bs) → open_of bs ≡ accepted_opening (open_of bs).net (open_of bs).used
    go (refused e at n p) = absurd (n (sym (ap (λ (o : Opening). o.number) p) ∙ z))
    go (accepted x used p) = p ∙ sym (λ i. accepted_opening (p i).net (p i).used)

-- the network that opening answers is within limits, refused or not
pub open_within : (bs : List ℕ) → Bytes bs → Within (open_of bs).net
open_within bs by = go (open_is bs)
  where
    go : OpenIs (open_of bs) → Within (open_of bs).net
    go (refused e at n p) =
        rw (ap (λ (o : Opening). o.net) p) (fresh_net_lem 1 0 (fresh_free 1 0 (size_free 1 0 (omega arith) (omega arith) (omega arith))))
    go (accepted x used p) = rw (ap (λ (o : Opening). o.net) p) ((acceptance bs by x used).0 p).within

-- ---- the bytes used are bytes of the input

-- the end of an image is a byte of the input
end_inside : (x : Net) (next at : ℕ) (s : List ℕ) → placed x next (record_of in_image at s).event ≡ finish → 0 < length s
unfolding placed
end_inside x next at s =
    by_outcome (λ (r : Record). placed x next r.event ≡ finish → 0 < length s) in_image at s (λ q. clash cc) (λ q. clash cc)
    (λ k b e a h q. let l = ap length e in omega arith)

-- after a record, if the records after it end inside the input
used_after : (at : ℕ) (s : List ℕ) (go : Net → ℕ → Opening) (x : Net) → ((z : Net) (k : ℕ) → (go z k).used ≤ at + length s) → (t : Step)
    → (t ≡ finish → 0 < length s) → (after_step go x at t).used ≤ at + length s
used_after at s go x h (stop e) f = omega arith
used_after at s go x h finish f = omega (arith, f refl)
used_after at s go x h (onward z k) f = h z k

-- the records of an image end inside the input
used_records : (k : ℕ) (x : Net) (next at : ℕ) (s : List ℕ) → (read_records_of k x next at s).used ≤ at + length s
unfolding read_records_of
used_records zero x next at s = omega arith
used_records (suc k) x next at s =
    let r = record_of in_image at s in
    used_after at s (λ z above. read_records_of k z above (at + r.used) (drop r.used s)) x
    (λ z above. omega (arith, used_records k z above (at + r.used) (drop r.used s), length-drop r.used s, length_within in_image at s))
    (placed x next r.event) (end_inside x next at s)

-- opening uses no more bytes than there are
pub open_used : (s : List ℕ) → (open_of s).used ≤ length s
unfolding open_of started headed
open_used s = go (record_of at_start 0 s) (record_of at_start 0 s).event (length_within at_start 0 s)
  where
    chosen : (t : Bool) (x y : Opening) → x.used ≤ length s → y.used ≤ length s → (cond t x y).used ≤ length s
    chosen true x y f g = f
    chosen false x y f g = g

    go : (r : Record) (e : Event) → r.used ≤ length s → (started s r e).used ≤ length s
    go r (Header n o) h =
        chosen (eqb (fresh_number n o) 0) _ _
        (omega (arith, used_records (length s) (fresh_net n o) 0 r.used (drop r.used s), length-drop r.used s))
        (omega arith)
    go r (Refusal e p) h = omega arith
    go r End h = omega arith
    go r (Change a) h = omega arith
    go r (Row y d p l) h = omega arith
    go r (Report t q d l) h = omega arith
    go r Round h = omega arith
    go r FullRound h = omega arith
