-- The whole text by how the run ended.
-- Assumes nothing.
use mathlib.Core.Path.{◌≡◌, sym, ap, ap₂, ◌∙◌}
use mathlib.Core.Bool.{true, false}
use mathlib.Core.List.{List, ◌++◌, append-nil}
use Prim.Native.Nat.{ℕ, ◌<◌, ◌≤◌}
use lib.Dec.{eqb}
use lib.ListN.{length}
use borrow.Author.Tests.{lt-ltb, le-ltb, eqb-false}
use Rattle.memory.specs.Layout.{view}
use Rattle.records.specs.Opening.{open_of}
use Rattle.records.specs.Running.{Running}
use Rattle.records.proofs.Begun.{run_refused}
use Rattle.running.specs.Answers.{run_stop, run_rounds, Ends}
use Rattle.running.specs.declared.Run.{Run}
use Rattle.records.specs.declared.Stop.{Stop}
use Rattle.records.specs.Stopped.{stop_number, stop_place}
use Rattle.network.specs.Answered.{fault_number}
use Rattle.network.proofs.Answered.{fault_some}
use Rattle.std.specs.Prelude.{Some, None, Result, Ok, Err, is_ok}
use Rattle.text.proofs.Stopping.{last_stop}
use Rattle.text.specs.Text.{max_input, stop_line, last_line, too_long}
use Rattle.table.specs.Text.{table_text, run_text, text_of}

-- a longer input than the longest
pub text_long : (s : List ℕ) → max_input < length s → text_of s ≡ too_long
unfolding text_of
text_long s h = rw (lt-ltb max_input (length s) h)

module _ (s : List ℕ) (short : length s ≤ max_input) (e : Result Run Stop) (words : List ℕ) (ends : Ends s e words) where
  -- the image was refused
  pub text_refused : {a : Stop} → e ≡ Err a → text_of s ≡ stop_line (fault_number a.fault) a.place
  unfolding text_of
  text_refused {a} q =
      let t : eqb (open_of s).number 0 ≡ false = sym ends.opened ∙ ap is_ok q in
      let r = run_refused s (eqb-false _ _ t) in
      let number = sym (ap (λ r. stop_number (run_stop r)) q) ∙ ends.number ∙ ap (λ (o : Running). o.number) r in
      let place = sym (ap (λ r. stop_place (run_stop r)) q) ∙ ends.place ∙ ap (λ (o : Running). o.place) r in
      rw (le-ltb max_input (length s) short, t) (sym (ap₂ stop_line number place))

  -- the image was accepted
  pub text_opened : {r : Run} → e ≡ Ok r → text_of s ≡ table_text (view words) r.rounds ++ last_line (stop_number r.stop) (stop_place r.stop)
  unfolding text_of run_text
  text_opened {r} q =
      let t : eqb (open_of s).number 0 ≡ true = sym ends.opened ∙ ap is_ok q in
      let number = sym (ap (λ r. stop_number (run_stop r)) q) ∙ ends.number in
      let place = sym (ap (λ r. stop_place (run_stop r)) q) ∙ ends.place in
      let rounds = sym (ap run_rounds q) ∙ ends.rounds in
      rw (le-ltb max_input (length s) short, t, number, place, rounds, ends.net)

  -- to the input's end, or to a refusal
  pub text_ended : {r : Run} → e ≡ Ok r → r.stop ≡ None → text_of s ≡ table_text (view words) r.rounds
  unfolding last_line
  text_ended {r} q n = text_opened q ∙ rw n (append-nil (table_text (view words) r.rounds))

  pub text_stopped : {r : Run} {a : Stop} → e ≡ Ok r → r.stop ≡ Some a → text_of s ≡ table_text (view words) r.rounds ++ stop_line (fault_number a.fault) a.place
  text_stopped {r} {a} q n = text_opened q ∙ rw (n, last_stop (fault_number a.fault) a.place (fault_some a.fault))
