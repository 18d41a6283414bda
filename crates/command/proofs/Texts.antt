-- What the program says, by cases; and the part of the input that decides it.
-- Assumes nothing.
use mathlib.Core.Path.{◌≡◌, sym, ap, ap₂, ◌∙◌}
use mathlib.Core.Bool.{true, false}
use mathlib.Core.List.{List, []}
use mathlib.Core.Logic.{◌⊎◌, inl, inr}
use Prim.Native.Nat.{ℕ, ◌+◌, ◌<◌, ◌≤◌}
use native.Mathlib.Omega.{arith}
use lib.ListN.{length, take}
use lib.Seq.{length-take-le, take_all}
use borrow.Author.Tests.{lt-ltb, le-ltb, eq-eqb, ne_eqb}
use Rattle.ancestors.proofs.Cases.{bool_cases, le_or_lt}
use Rattle.network.proofs.Limits.{within_size}
use Rattle.records.specs.Numbers.{Bytes}
use Rattle.records.specs.Running.{run_of}
use Rattle.settling.proofs.RunCalls.{run_within}
use Rattle.records.specs.declared.Stop.{Stop}
use Rattle.running.proofs.Finished.{StopsAt, Accepted}
use Rattle.std.specs.Prelude.{Result, Ok, Err, IfErr, IsErrAnd}
use Rattle.network.specs.Answered.{fault_number}
use Rattle.network.specs.declared.Fault.{Fault}
use Rattle.network.proofs.Answered.{fault_some}
use Rattle.response.specs.Messages.{base_fault, count_fault, max_messages, row_messages}
use Rattle.response.specs.Reading.{read_of}
use Rattle.response.proofs.Answering.{count_free}
use Rattle.response.proofs.Callers.{read_long}
use Rattle.text.specs.Text.{max_input, stop_line, too_long}
use Rattle.command.specs.Saying.{Saying, on_output, on_error, refused_line, node_lines, run_text, write_text_of, metrics_text, read_text, refusal_text}
use Rattle.command.specs.Enough.{InputEnough}
use Rattle.command.specs.declared.Refusal.{Refusal}
use Rattle.command.specs.declared.Refusal.TheVariants.{Refused, Stopped}

-- ---- writing

module _ (base : ℕ) (s : List ℕ) where
  -- a run that is refused anywhere
  pub run_stops : (t : Stop) → StopsAt s t → run_text base (run_of s) ≡ refusal_text (Stopped t)
  unfolding run_text refusal_text
  run_stops t h =
      rw (ne_eqb (run_of s).number 0 (λ z. fault_some t.fault (h.number ∙ z))) (ap on_error (ap₂ stop_line (sym h.number) (sym h.place)))

  -- one that is not
  pub run_writes : {n : ℕ} → Accepted s n → run_text base (run_of s) ≡ on_output (row_messages base (run_of s).net)
  unfolding run_text
  run_writes h = rw (eq-eqb (run_of s).number 0 h.number)

-- the network of a run has a right number of nodes
pub run_count : (s : List ℕ) → Bytes s → count_fault (run_of s).net.nodes ≡ false
run_count s b =
    let h = within_size (run_of s).net (run_within s b) in
    count_free (run_of s).net.nodes h.0 h.1

-- what is said of a refusal
pub said_err : {A : Type 0} (t : Saying) (r : Result A Refusal) (a : Refusal) → IsErrAnd r (λ x. x ≡ a) → t ≡ refusal_text a → IfErr r (λ x. t ≡ refusal_text x)
said_err t (Ok x) a h e = absurd h
said_err t (Err x) a h e = e ∙ ap refusal_text (sym h)

module _ (base : ℕ) (s : List ℕ) where
  pub write_refused : base_fault base ≡ true → write_text_of base s ≡ on_error (refused_line 13)
  unfolding write_text_of
  write_refused h = rw h

  pub write_long : base_fault base ≡ false → max_input < length s → write_text_of base s ≡ on_error too_long
  unfolding write_text_of
  write_long h l = rw (h, lt-ltb max_input (length s) l)

  pub write_run : base_fault base ≡ false → length s ≤ max_input → write_text_of base s ≡ run_text base (run_of s)
  unfolding write_text_of
  write_run h l = rw (h, le-ltb max_input (length s) l)

-- ---- reading

module _ (base n : ℕ) (s : List ℕ) where
  pub read_stops : (f : Fault) → fault_number f ≡ (read_of base n s).number → read_text base n s ≡ refusal_text (Refused f)
  unfolding read_text metrics_text refusal_text
  read_stops f e = rw (← e, ne_eqb (fault_number f) 0 (fault_some f))

  pub read_prints : 0 ≡ (read_of base n s).number → {ms : List ℕ} → ms ≡ (read_of base n s).metrics → read_text base n s ≡ on_output (node_lines ms (length ms))
  unfolding read_text metrics_text
  read_prints e m = rw (← e, m)

-- ---- the part of the input that decides

-- an input is short, and not cut; or its front is too long as it is
cut : (m : ℕ) (s : List ℕ) → (take (m + 1) s ≡ s) ⊎ ((m < length (take (m + 1) s)) × (m < length s))
cut m s = go (le_or_lt (length s) (m + 1))
  where
    go : (length s ≤ m + 1) ⊎ (m + 1 < length s) → (take (m + 1) s ≡ s) ⊎ ((m < length (take (m + 1) s)) × (m < length s))
    go (inl h) = inl (take_all (m + 1) s h)
    go (inr h) = inr (omega (arith, length-take-le (m + 1) s (omega arith)), omega arith)

run_cut : (base : ℕ) (s : List ℕ) → write_text_of base (take (max_input + 1) s) ≡ write_text_of base s
run_cut base s = go (cut max_input s) (bool_cases (base_fault base))
  where
    front : List ℕ
    front = take (max_input + 1) s

    go : (front ≡ s) ⊎ ((max_input < length front) × (max_input < length s)) → (base_fault base ≡ true) ⊎ (base_fault base ≡ false)
        → write_text_of base front ≡ write_text_of base s
    go (inl e) b = ap (write_text_of base) e
    go (inr h) (inl b) = write_refused base front b ∙ sym (write_refused base s b)
    go (inr h) (inr b) = write_long base front b h.0 ∙ sym (write_long base s b h.1)

messages_cut : (base n : ℕ) (s : List ℕ) → read_text base n (take (max_messages + 1) s) ≡ read_text base n s
unfolding read_text
messages_cut base n s = go (cut max_messages s)
  where
    front : List ℕ
    front = take (max_messages + 1) s

    go : (front ≡ s) ⊎ ((max_messages < length front) × (max_messages < length s)) → metrics_text (read_of base n front) ≡ metrics_text (read_of base n s)
    go (inl e) = ap (λ (l : List ℕ). metrics_text (read_of base n l)) e
    go (inr h) = ap metrics_text (read_long base n front s h.0 h.1)

pub input_enough : InputEnough
input_enough =
    record {
      none = λ base s b. write_refused base [] b ∙ sym (write_refused base s b);
      run = run_cut;
      messages = messages_cut;
    }
