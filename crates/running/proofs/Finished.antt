-- What an answer of a run tells of the run.
-- Assumes nothing.
use mathlib.Core.Path.{◌≡◌, sym, ◌∙◌}
use mathlib.Core.List.{List}
use Prim.Native.Nat.{ℕ}
use Rattle.std.specs.Prelude.{Option, Some, None, Ok, Err}
use Rattle.network.specs.Answered.{fault_number}
use Rattle.records.specs.Running.{run_of}
use Rattle.records.specs.Stopped.{stop_number, stop_place}
use Rattle.records.specs.declared.Stop.{Stop}
use Rattle.running.specs.Answers.{finished_in, finished_of, Ends}
use Rattle.running.specs.declared.Run.{Run}

-- the run of the input s stops at the refusal t
pub record StopsAt (s : List ℕ) (t : Stop) : Type 0 where
  pub number : fault_number t.fault ≡ (run_of s).number
  pub place : t.place ≡ (run_of s).place

-- it is accepted to its end, with so many rounds
pub record Accepted (s : List ℕ) (n : ℕ) : Type 0 where
  pub number : (run_of s).number ≡ 0
  pub rounds : n ≡ (run_of s).rounds

-- its image is refused
pub refused : (s : List ℕ) (t : Stop) (words : List ℕ) → Ends s (Err t) words → StopsAt s t
refused s t words ends = record { number = ends.number; place = ends.place }

module _ (s : List ℕ) (e : Run) (words : List ℕ) (ends : Ends s (Ok e) words) where
  -- it stops at an event
  pub stopped : (t : Stop) → Err t ≡ finished_of e → StopsAt s t
  unfolding finished_of
  stopped t h = go e.stop h ends.number ends.place
    where
      go : (o : Option Stop) → Err t ≡ finished_in e.rounds o → stop_number o ≡ (run_of s).number → stop_place o ≡ (run_of s).place → StopsAt s t
      go None q n p = absurd (cc)
      go (Some u) q n p =
          let r : t ≡ u = cc in
          record { number = (λ i. fault_number (r i).fault) ∙ n; place = (λ i. (r i).place) ∙ p }

  -- it comes to its end
  pub reached : (rounds : ℕ) → Ok rounds ≡ finished_of e → Accepted s rounds
  unfolding finished_of
  reached rounds h = go e.stop h ends.number
    where
      go : (o : Option Stop) → Ok rounds ≡ finished_in e.rounds o → stop_number o ≡ (run_of s).number → Accepted s rounds
      go None q n =
          let r : rounds ≡ e.rounds = cc in
          record { number = sym n; rounds = r ∙ ends.rounds }
      go (Some u) q n = absurd (cc)
