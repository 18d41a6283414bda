-- A run from its parts: the image, and the events after it.
-- Assumes nothing.
use mathlib.Core.Path.{◌≡◌, sym, ap, ◌∙◌}
use mathlib.Core.Logic.{◌≢◌}
use mathlib.Core.List.{List}
use Prim.Native.Nat.{ℕ, ◌≤◌}
use native.Mathlib.Omega.{arith}
use lib.ListN.{length}
use borrow.Author.Tests.{eq-eqb, ne_eqb}
use Rattle.std.specs.Prelude.{Ok, Err}
use Rattle.network.proofs.Answered.{fault_some}
use Rattle.memory.specs.Layout.{view}
use Rattle.records.specs.Opening.{open_of}
use Rattle.records.specs.Running.{Running, run_of}
use Rattle.records.specs.declared.Stop.{Stop}
use Rattle.records.proofs.Begun.{run_refused, run_opened}
use Rattle.records.proofs.Opened.{open_used}
use Rattle.opening.specs.Answers.{Opens}
use Rattle.running.specs.Answers.{Ends}
use Rattle.running.specs.Inner.{events_from, ran}
use Rattle.running.specs.declared.Run.{Run}

module _ (s : List ℕ) where
  -- with its image refused a run answers as opening does, with 0 rounds
  pub image_refused : (e : Stop) (words : List ℕ) → Opens (open_of s) (Err e) words → Ends s (Err e) words
  image_refused e words opens =
      let m : (open_of s).number ≢ 0 = λ z. fault_some e.fault (opens.number_is ∙ z) in
      let r = run_refused s m in
      record {
        number = opens.number_is ∙ sym (ap (λ (o : Running). o.number) r);
        place = opens.place_is ∙ sym (ap (λ (o : Running). o.place) r);
        rounds = sym (ap (λ (o : Running). o.rounds) r);
        opened = sym (ne_eqb (open_of s).number 0 m);
        net = opens.net_is ∙ sym (ap (λ (o : Running). o.net) r);
      }

  module _ (used : ℕ) (words : List ℕ) (opens : Opens (open_of s) (Ok used) words) where
    -- else the events begin inside the input
    pub events_inside : used ≤ length s
    events_inside = omega (arith, opens.used_is, open_used s)

    -- and follow
    pub events_follow : (e : Run) (ys : List ℕ) → ran e ys ≡ events_from s (view words) used → Ends s (Ok e) ys
    unfolding ran
    events_follow e ys h =
        let z = sym opens.number_is in
        let r : ran e ys ≡ run_of s = h ∙ (λ i. events_from s (opens.net_is i) (opens.used_is i)) ∙ sym (run_opened s z) in
        record {
          number = ap (λ (o : Running). o.number) r;
          place = ap (λ (o : Running). o.place) r;
          rounds = ap (λ (o : Running). o.rounds) r;
          opened = sym (eq-eqb (open_of s).number 0 z);
          net = ap (λ (o : Running). o.net) r;
        }
