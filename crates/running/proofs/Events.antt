-- What an event does, and the rounds that it counts for.
-- Assumes nothing.
use mathlib.Core.Path.{◌≡◌, refl, sym, ap}
use mathlib.Core.List.{List}
use Prim.Native.Nat.{ℕ, ◌+◌, ◌-◌, ◌≤◌}
use native.Mathlib.Omega.{arith}
use lib.ListN.{take, drop}
use Rattle.network.specs.Network.{Net, outcome}
use Rattle.network.specs.Round.{round_of}
use Rattle.network.proofs.Effects.{outcome_number, outcome_same}
use Rattle.memory.specs.Layout.{view}
use Rattle.memory.specs.Answers.{Leaves}
use Rattle.records.specs.Numbers.{words_in}
use Rattle.records.specs.Records.{body_length, body_of}
use Rattle.records.specs.Running.{event_done, rounds_in}
use Rattle.network.specs.declared.Fault.{Fault}
use Rattle.records.specs.declared.ArcChange.{ArcChange}
use Rattle.records.specs.declared.ArcChange.TheVariants.{Set, Removed}
use Rattle.records.specs.declared.Event.{Event}
use Rattle.records.specs.declared.Event.TheVariants.{End, Header, Change, Row, Report, Round, FullRound, Refusal}
use Rattle.running.specs.Inner.{marks_at}

-- a call that answers k and leaves the words
pub still : (k : ℕ) (xs : List ℕ) → Leaves (outcome k (view xs) (view xs)) k xs xs
still k xs = record { number = sym (outcome_number k (view xs) (view xs)); net = sym (outcome_same k (view xs)); same = λ z. refl }

-- what an image alone has is refused as 2
pub does_other : (b xs : List ℕ) (e : Event) → ((a : ArcChange) → e ≡ Change a → ⊥) → (e ≡ Round → ⊥) → (e ≡ FullRound → ⊥) →
    ((f : Fault) (p : ℕ) → e ≡ Refusal f p → ⊥) → Leaves (event_done (view xs) b e) 2 xs xs × (0 ≡ rounds_in e)
unfolding event_done rounds_in
does_other b xs End change round full refusal = (still 2 xs, refl)
does_other b xs (Header n o) change round full refusal = (still 2 xs, refl)
does_other b xs (Row y d p l) change round full refusal = (still 2 xs, refl)
does_other b xs (Report s r d l) change round full refusal = (still 2 xs, refl)
does_other b xs (Change a) change round full refusal = absurd (change a refl)
does_other b xs Round change round full refusal = absurd (round refl)
does_other b xs FullRound change round full refusal = absurd (full refl)
does_other b xs (Refusal f p) change round full refusal = absurd (refusal f p refl)

-- the body of a round's record at `at`
pub marks_here : (at : ℕ) (s : List ℕ) → take (at + 129 - (at + 1)) (drop (at + 1) s) ≡ marks_at at s
unfolding body_of body_length
marks_here at s =
    let n : at + 129 - (at + 1) ≡ 128 = omega arith in ap (λ k. take k (drop (at + 1) s)) n

-- only a round looks at its body, so that elsewhere any body will do
pub same_body : (x : Net) (b d : List ℕ) (e : Event) → (e ≡ Round → b ≡ d) → event_done x b e ≡ event_done x d e
unfolding event_done
same_body x b d Round h = ap (λ w. round_of x (words_in 32 w)) (h refl)
same_body x b d (Change (Set s r c)) h = refl
same_body x b d (Change (Removed s r)) h = refl
same_body x b d FullRound h = refl
same_body x b d (Refusal e p) h = refl
same_body x b d End h = refl
same_body x b d (Header n o) h = refl
same_body x b d (Row y e p l) h = refl
same_body x b d (Report s r e l) h = refl

-- an event counts for at most one round
pub one_round : (e : Event) → rounds_in e ≤ 1
unfolding rounds_in
one_round Round = omega arith
one_round FullRound = omega arith
one_round (Change a) = omega arith
one_round (Refusal e p) = omega arith
one_round End = omega arith
one_round (Header n o) = omega arith
one_round (Row y d p l) = omega arith
one_round (Report s r d l) = omega arith
