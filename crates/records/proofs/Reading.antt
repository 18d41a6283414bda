-- Laws of a record read: its length, the events of each section, and the number and place of a refusal.
-- Assumes nothing.
use mathlib.Core.Path.{◌≡◌, refl, sym, ap, subst}
use mathlib.Core.Bool.{Bool, true, false}
use mathlib.Core.Logic.{◌⊎◌, inl, inr, ◌≢◌}
use mathlib.Core.List.{List, [], ◌∷◌}
use Prim.Native.Nat.{ℕ, zero, suc, ◌<◌, ◌≤◌}
use native.Mathlib.Omega.{arith}
use lib.Dec.{ltb}
use lib.ListN.{length}
use borrow.Author.Tests.{lt-ltb, le-ltb, ne_eqb, ltb-false}
use Rattle.ancestors.proofs.Cases.{bool_cases, le_or_lt, eq_or_ne, never, cond_by}
use Rattle.network.specs.Faults.{grade_fault}
use Rattle.records.specs.Records.{Section, at_start, in_image, as_event, bodies, body_length, record_length, body_of, grade_change, event_of, allowed, refused_record, bodied, record_of}
use Rattle.network.specs.Answered.{fault_number}
use Rattle.network.specs.declared.Fault.{Fault}
use Rattle.network.specs.declared.Fault.TheVariants.{Cut, Kind}
use Rattle.records.specs.declared.Event.{Event}
use Rattle.records.specs.declared.Event.TheVariants.{End, Header, Change, Row, Report, Round, FullRound, Refusal}
use Rattle.records.specs.declared.Record.{Record}

-- ---- kinds

-- the number of kinds
abbrev pub kinds : ℕ
kinds = length bodies

-- no section allows a kind from there on
never_allowed : (z : Section) (k : ℕ) → kinds ≤ k → allowed z k ≡ false
unfolding allowed
never_allowed at_start k h = rw (ne_eqb k 1 (λ e. omega arith))
never_allowed in_image k h = rw (ne_eqb k 0 (λ e. omega arith), lt-ltb 1 k (omega arith), le-ltb k 5 (omega arith))
never_allowed as_event k h = rw (ne_eqb k 2 (λ e. omega arith), lt-ltb 4 k (omega arith), le-ltb k kinds h)

-- a kind that is allowed is one of them
kind_small : (z : Section) (k : ℕ) → allowed z k ≡ true → k < kinds
kind_small z k e = go (le_or_lt kinds k)
  where
    go : (kinds ≤ k) ⊎ (k < kinds) → k < kinds
    go (inl h) = never (allowed z k) e (never_allowed z k h)
    go (inr h) = h

-- A, and B too if the test passes
abbrev pub AndIf : Bool → Type 0 → Type 0 → Type 0
AndIf true A B = A × B
AndIf false A B = A

-- Q of each kind below n that z allows, given as tt & q & r ..
abbrev pub EachAllowed : Section → (ℕ → Type 0) → ℕ → Type 0
EachAllowed z Q zero = Unit
EachAllowed z Q (suc n) = AndIf (allowed z n) (EachAllowed z Q n) (Q n)

infixl 4 ◌&◌
pub ◌&◌ : {A B : Type 0} → A → B → A × B
a & b = (a, b)

module _ (z : Section) (Q : ℕ → Type 0) where
  -- the kinds below the last, and the last
  fewer : (n : ℕ) (t : Bool) → allowed z n ≡ t → AndIf t (EachAllowed z Q n) (Q n) → EachAllowed z Q n × (allowed z n ≡ true → Q n)
  fewer n true e p = (p.0, λ a. p.1)
  fewer n false e p = (p, λ a. never (allowed z n) a e)

  -- each of them
  each_below : (n : ℕ) → EachAllowed z Q n → (k : ℕ) → k < n → allowed z k ≡ true → Q k
  each_below zero p k h = absurd (omega arith)
  each_below (suc n) p k h = let w = fewer n (allowed z n) refl p in go (eq_or_ne k n) w.1 (λ l. each_below n w.0 k l)
    where
      go : (k ≡ n) ⊎ (k ≢ n) → (allowed z n ≡ true → Q n) → (k < n → allowed z k ≡ true → Q k) → allowed z k ≡ true → Q k
      go (inl e) q f = subst (λ j. allowed z j ≡ true → Q j) (sym e) q
      go (inr e) q f = f (omega (arith, e))

  -- so Q holds of every kind that z allows
  pub by_allowed : EachAllowed z Q kinds → (k : ℕ) → allowed z k ≡ true → Q k
  by_allowed p k a = each_below kinds p k (kind_small z k a) a

-- a number that is none of the kinds that z allows
pub none_allowed : (z : Section) (k : ℕ) → EachAllowed z (λ j. k ≢ j) kinds → allowed z k ≡ false
none_allowed z k n = go (bool_cases (allowed z k))
  where
    go : (allowed z k ≡ true) ⊎ (allowed z k ≡ false) → allowed z k ≡ false
    go (inl e) = absurd (by_allowed z (λ j. k ≢ j) n k e refl)
    go (inr e) = e

-- ---- the outcomes of reading

-- a record of kind k that was read whole
abbrev pub whole_record : ℕ → ℕ → List ℕ → Record
whole_record at k b = record { event = event_of at k (body_of k b); used = record_length k }

-- what holds of a record that is cut, of one whose kind is not allowed and of every whole one holds of the record read
pub by_outcome : (P : Record → Type 0) (z : Section) (at : ℕ) (bs : List ℕ) → P (refused_record Cut at) → P (refused_record Kind at) →
    ((k : ℕ) (b : List ℕ) → bs ≡ k ∷ b → allowed z k ≡ true → body_length k ≤ length b → P (whole_record at k b)) → P (record_of z at bs)
unfolding record_of bodied
by_outcome P z at [] p q w = p
by_outcome P z at (k ∷ b) p q w =
    cond_by P (allowed z k) _ _
    (λ e. cond_by P (ltb (length b) (body_length k)) _ _ (λ _. p) (λ t. w k b refl e (ltb-false (length b) (body_length k) t)))
    (λ _. q)

-- ---- lengths

-- a record lies within the bytes
pub length_within : (z : Section) (at : ℕ) (bs : List ℕ) → (record_of z at bs).used ≤ length bs
length_within z at bs =
    by_outcome (λ r. r.used ≤ length bs) z at bs (omega arith) (omega arith)
    (λ k b e _ h. let l = ap length e in omega arith)

-- a record that is not refused has at least its kind byte
pub length_some : (z : Section) (at : ℕ) (bs : List ℕ) → ((f : Fault) (p : ℕ) → (record_of z at bs).event ≢ Refusal f p) → 0 < (record_of z at bs).used
length_some z at bs =
    by_outcome (λ r. ((f : Fault) (p : ℕ) → r.event ≢ Refusal f p) → 0 < r.used) z at bs (λ n. absurd (n Cut at refl)) (λ n. absurd (n Kind at refl))
    (λ k b _ _ _ _. omega arith)

-- ---- the events of each section, with the record's length

-- a refusal's place is the record's, and its number is 1, 2 or 3
abbrev pub RefusedAt : ℕ → Fault → ℕ → Type 0
RefusedAt at f p = (p ≡ at) × (0 < fault_number f) × (fault_number f ≤ 3)

-- first: a header
abbrev pub StartEvent : ℕ → ℕ → Event → Type 0
StartEvent at len End = ⊥
StartEvent at len (Header n o) = len ≡ 3
StartEvent at len (Change c) = ⊥
StartEvent at len (Row y d p l) = ⊥
StartEvent at len (Report s r d l) = ⊥
StartEvent at len Round = ⊥
StartEvent at len FullRound = ⊥
StartEvent at len (Refusal f p) = RefusedAt at f p

-- inside an image: its end, arcs, rows and reports
abbrev pub ImageEvent : ℕ → ℕ → Event → Type 0
ImageEvent at len End = len ≡ 1
ImageEvent at len (Header n o) = ⊥
ImageEvent at len (Change c) = len ≡ 5
ImageEvent at len (Row y d p l) = len ≡ 11
ImageEvent at len (Report s r d l) = len ≡ 11
ImageEvent at len Round = ⊥
ImageEvent at len FullRound = ⊥
ImageEvent at len (Refusal f p) = RefusedAt at f p

-- after the image: changes, of an arc or a grade, and rounds
abbrev pub LaterEvent : ℕ → ℕ → Event → Type 0
LaterEvent at len End = ⊥
LaterEvent at len (Header n o) = ⊥
LaterEvent at len (Change c) = (4 ≤ len) × (len ≤ 5)
LaterEvent at len (Row y d p l) = ⊥
LaterEvent at len (Report s r d l) = ⊥
LaterEvent at len Round = len ≡ 129
LaterEvent at len FullRound = len ≡ 1
LaterEvent at len (Refusal f p) = RefusedAt at f p

-- what the event of a record in section z at the place `at` can be, with the record's length
abbrev pub Expected : Section → ℕ → ℕ → Event → Type 0
Expected at_start at len e = StartEvent at len e
Expected in_image at len e = ImageEvent at len e
Expected as_event at len e = LaterEvent at len e

-- of a refused record, and of a whole one
refused_expected : (z : Section) (at : ℕ) (f : Fault) → 0 < fault_number f → fault_number f ≤ 3 → Expected z at 0 (Refusal f at)
refused_expected at_start at f a b = (refl, a, b)
refused_expected in_image at f a b = (refl, a, b)
refused_expected as_event at f a b = (refl, a, b)

whole_expected : (z : Section) (at : ℕ) (b : List ℕ) (k : ℕ) → allowed z k ≡ true → Expected z at (record_length k) (event_of at k b)
unfolding allowed body_length event_of grade_change
whole_expected at_start at b = by_allowed at_start (λ k. StartEvent at (record_length k) (event_of at k b)) (tt & refl)
whole_expected in_image at b = by_allowed in_image (λ k. ImageEvent at (record_length k) (event_of at k b)) (tt & refl & refl & refl & refl)
whole_expected as_event at b =
    by_allowed as_event (λ k. LaterEvent at (record_length k) (event_of at k b))
    (tt & (omega arith, omega arith) & refl & refl
    & cond_by (LaterEvent at 4) (grade_fault _) _ _ (λ _. (refl, omega arith, omega arith)) (λ _. (omega arith, omega arith)))

-- of the record read
pub expected : (z : Section) (at : ℕ) (bs : List ℕ) (e : Event) → (record_of z at bs).event ≡ e → Expected z at (record_of z at bs).used e
expected z at bs e q =
    subst (Expected z at (record_of z at bs).used) q
    (by_outcome (λ r. Expected z at r.used r.event) z at bs
    (refused_expected z at Cut (omega arith) (omega arith)) (refused_expected z at Kind (omega arith) (omega arith))
    (λ k b _ a _. whole_expected z at (body_of k b) k a))

-- ---- a round

-- its record lies within the bytes
pub round_fits : (at : ℕ) (bs : List ℕ) → (record_of as_event at bs).event ≡ Round → record_length 5 ≤ length bs
unfolding body_length
round_fits at bs q = omega (arith, expected as_event at bs Round q, length_within as_event at bs)

-- no other kind gives a round
round_only : (at : ℕ) (b : List ℕ) (k : ℕ) → allowed as_event k ≡ true → event_of at k b ≡ Round → k ≡ 5
unfolding allowed event_of grade_change
round_only at b =
    by_allowed as_event (λ k. event_of at k b ≡ Round → k ≡ 5)
    (tt & (λ q. cc) & (λ _. refl) & (λ q. cc) & cond_by (λ (e : Event). e ≡ Round → ◌≡◌ {A = ℕ} 7 5) (grade_fault _) _ _ (λ _ q. cc) (λ _ q. cc))

-- it is of kind 5, and its body is that of kind 5
round_five : (at k : ℕ) (b : List ℕ) → (record_of as_event at (k ∷ b)).event ≡ Round → k ≡ 5
round_five at k b =
    by_outcome (λ r. r.event ≡ Round → k ≡ 5) as_event at (k ∷ b) (λ q. cc) (λ q. cc)
    (λ j c e a _ q. let o = round_only at (body_of j c) j a q in cc)

pub round_body : (at k : ℕ) (b : List ℕ) → (record_of as_event at (k ∷ b)).event ≡ Round → body_of k b ≡ body_of 5 b
round_body at k b q = rw (round_five at k b q)
