-- What events of kinds 2 and 7 do: a change's record does what the change call does, and a grade's what the grade call does.
-- Assumes nothing.
use mathlib.Core.Path.{◌≡◌, sym, ap, ◌∙◌}
use mathlib.Core.Bool.{true, false}
use mathlib.Core.Logic.{◌⊎◌, inl, inr}
use mathlib.Core.List.{List}
use Prim.Native.Nat.{ℕ}
use native.Mathlib.Omega.{arith}
use lib.Dec.{eqb}
use borrow.Author.Tests.{eqb-true}
use Rattle.ancestors.proofs.Cases.{bool_cases}
use Rattle.network.specs.Faults.{grade_fault}
use Rattle.network.specs.Network.{Net}
use Rattle.network.specs.Change.{change_of, grade_of, grade_cost_of}
use Rattle.network.proofs.Accepting.{grade_bad_value}
use Rattle.network.proofs.FaultLaws.{grade_says}
use Rattle.network.proofs.Effects.{refused_same, grade_outcome, grade_effect}
use Rattle.records.specs.Records.{arc_change, grade_change}
use Rattle.records.specs.Running.{event_done}
use Rattle.records.specs.declared.Event.TheVariants.{Change}

-- kind 2: cost 0 removes, as in the call
pub change_record : (x : Net) (b : List ℕ) (s r c : ℕ) → event_done x b (Change (arc_change s r c)) ≡ change_of x s r c
unfolding event_done arc_change
change_record x b s r c = go (bool_cases (eqb c 0))
  where
    go : (eqb c 0 ≡ true) ⊎ (eqb c 0 ≡ false) → event_done x b (Change (arc_change s r c)) ≡ change_of x s r c
    go (inl e) = rw e (ap (change_of x s r) (sym (eqb-true c 0 e)))
    go (inr e) = rw e

-- a grade above 15 is refused as 3, and the network stays
grade_refused : (x : Net) (b : List ℕ) (at s r g : ℕ) → grade_fault g ≡ true → event_done x b (grade_change at s r g) ≡ grade_of x s r g
unfolding event_done grade_change
grade_refused x b at s r g e = rw (e, grade_outcome, grade_bad_value x s r g e) (refused_same 3 x _ x (λ z. omega arith))

-- another is the change to its cost
grade_change_lem : (at s r g : ℕ) → grade_fault g ≡ false → grade_change at s r g ≡ Change (arc_change s r (grade_cost_of g))
unfolding grade_change
grade_change_lem at s r g e = rw e

-- kind 7: the grade call, its refusals among them
pub grade_record : (x : Net) (b : List ℕ) (at s r g : ℕ) → event_done x b (grade_change at s r g) ≡ grade_of x s r g
grade_record x b at s r g = go (bool_cases (grade_fault g))
  where
    go : (grade_fault g ≡ true) ⊎ (grade_fault g ≡ false) → event_done x b (grade_change at s r g) ≡ grade_of x s r g
    go (inl e) = grade_refused x b at s r g e
    go (inr e) = ap (event_done x b) (grade_change_lem at s r g e) ∙ change_record x b s r (grade_cost_of g) ∙ sym (grade_effect x s r g (grade_says g e))
