-- A run begins with its image: refused, it answers as opening does; accepted, the events follow, and the first refused one stops it.
-- Assumes nothing.
use mathlib.Core.Path.{◌≡◌, sym, ap, ◌∙◌}
use mathlib.Core.Logic.{◌⊎◌, inl, inr, ◌≢◌}
use mathlib.Core.List.{List}
use Prim.Native.Nat.{ℕ}
use lib.ListN.{length, drop}
use borrow.Author.Tests.{eq-eqb, ne_eqb}
use Rattle.ancestors.proofs.Cases.{eq_or_ne}
use Rattle.network.specs.Network.{Net, Outcome}
use Rattle.records.specs.Opening.{open_of}
use Rattle.records.specs.Running.{Running, after_event, read_events, run_from, run_of}

module _ (s : List ℕ) where
  -- with its image refused, as opening does, with 0 rounds
  pub run_refused : (open_of s).number ≢ 0 → run_of s ≡ record { number = (open_of s).number; place = (open_of s).place; rounds = 0; net = (open_of s).net }
  unfolding run_of run_from
  run_refused n = rw (ne_eqb (open_of s).number 0 n)

  -- else as its events do
  pub run_opened : (open_of s).number ≡ 0 → run_of s ≡ read_events (length s) (open_of s).net 0 (open_of s).used (drop (open_of s).used s)
  unfolding run_of run_from
  run_opened e = rw (eq-eqb (open_of s).number 0 e)

  -- a run that is accepted to its end has an accepted image
  pub run_image : (run_of s).number ≡ 0 → (open_of s).number ≡ 0
  run_image e = go (eq_or_ne (open_of s).number 0)
    where
      go : ((open_of s).number ≡ 0) ⊎ ((open_of s).number ≢ 0) → (open_of s).number ≡ 0
      go (inl z) = z
      go (inr n) = sym (ap (λ (r : Running). r.number) (run_refused n)) ∙ e

-- after an event with the outcome o
module _ (go : Net → Running) (at rounds : ℕ) (o : Outcome) where
  -- a refused one stops the run
  pub event_stops : o.number ≢ 0 → after_event go at rounds o ≡ record { number = o.number; place = at; rounds = rounds; net = o.net }
  unfolding after_event
  event_stops n = rw (ne_eqb o.number 0 n)

  -- an accepted one goes on
  pub event_goes_on : o.number ≡ 0 → after_event go at rounds o ≡ go o.net
  unfolding after_event
  event_goes_on e = rw (eq-eqb o.number 0 e)
