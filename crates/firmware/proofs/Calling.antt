-- What the C call gives, case by case.
-- Assumes nothing.
use mathlib.Core.Path.{◌≡◌, refl, sym, ap, subst, ◌∙◌}
use mathlib.Core.Logic.{◌⊎◌, inl, inr, ◌≢◌}
use mathlib.Core.List.{List, ◌++◌}
use Prim.Native.Nat.{ℕ, ◌*◌, ◌<◌, ◌≤◌}
use native.Mathlib.Omega.{arith}
use lib.ListN.{length, drop}
use borrow.Author.Tests.{lt-ltb, le-ltb, eq-eqb, ne_eqb}
use Rattle.ancestors.proofs.Cases.{eq_or_ne, le_or_lt}
use Rattle.std.specs.Prelude.{Result, Ok, Err, MatchResult, IsErrAnd}
use Rattle.network.specs.Network.{Net}
use Rattle.network.specs.Writing.{Writing, writing, Writes}
use Rattle.network.specs.declared.Fault.{Fault}
use Rattle.network.specs.declared.Fault.TheVariants.{Range}
use Rattle.network.proofs.Answered.{fault_some}
use Rattle.network.proofs.Effects.{writing_refused}
use Rattle.network.proofs.Numbers.{number_fits}
use Rattle.memory.specs.Layout.{view}
use Rattle.records.specs.Image.{image, image_number, image_of}
use Rattle.records.specs.Running.{run_of}
use Rattle.records.specs.declared.Stop.{Stop}
use Rattle.records.proofs.Sizes.{image_any, largest_any}
use Rattle.records.proofs.ImageWriting.{image_short, image_fits}
use Rattle.records.proofs.Places.{run_small}
use Rattle.running.specs.Answers.{finished_of, Ends}
use Rattle.running.specs.declared.Run.{Run}
use Rattle.running.proofs.Finished.{StopsAt, refused, stopped, reached}
use Rattle.firmware.specs.Calling.{Called, max_run, refused_answer, refused_call, image_call, run_call, call_of, Answers}
use Rattle.firmware.specs.Inner.{answer_of}

-- ---- the call by its cases

module _ (run out : List ℕ) where
  -- the image of the run's network
  abbrev ending : List ℕ
  ending = image (run_of run).net

  -- a run above the longest one
  pub call_long : max_run < length run → call_of run out ≡ refused_call 3 0 out
  unfolding call_of
  call_long h = rw (lt-ltb max_run (length run) h)

  module _ (short : length run ≤ max_run) where
    call_run : call_of run out ≡ run_call (run_of run) out
    unfolding call_of
    call_run = rw (le-ltb max_run (length run) short)

    -- a run that is refused
    pub call_refused : (run_of run).number ≢ 0 → call_of run out ≡ refused_call (run_of run).number (run_of run).place out
    unfolding run_call
    call_refused n = call_run ∙ rw (ne_eqb (run_of run).number 0 n)

    -- a run that is accepted
    pub call_accepted : (run_of run).number ≡ 0 → call_of run out ≡ image_call (image_of (run_of run).net out) out
    unfolding run_call
    call_accepted e = call_run ∙ rw (eq-eqb (run_of run).number 0 e)

    module _ (good : (run_of run).number ≡ 0) where
      -- whose image does not fit
      pub call_short : length out < length ending → call_of run out ≡ refused_call 6 0 out
      unfolding image_call
      call_short h = call_accepted good ∙ ap (λ (w : Writing). image_call w out) (image_short (run_of run).net out h)

      -- whose image is written
      pub call_written : length ending ≤ length out → call_of run out ≡ record { answer = 32 * length ending; output = ending ++ drop (length ending) out }
      unfolding image_call
      call_written h = call_accepted good ∙ ap (λ (w : Writing). image_call w out) (image_fits (run_of run).net out h)

  -- what holds in each of these cases
  pub call_by : (P : Called → Type 0) → P (refused_call 3 0 out)
      → (length run ≤ max_run → (run_of run).number ≢ 0 → P (refused_call (run_of run).number (run_of run).place out))
      → P (refused_call 6 0 out)
      → ((run_of run).number ≡ 0 → P (record { answer = 32 * length ending; output = ending ++ drop (length ending) out }))
      → P (call_of run out)
  call_by P long stops full fits = by_length (le_or_lt (length run) max_run)
    where
      by_room : length run ≤ max_run → (run_of run).number ≡ 0 → (length ending ≤ length out) ⊎ (length out < length ending) → P (call_of run out)
      by_room h z (inl m) = subst P (sym (call_written h z m)) (fits z)
      by_room h z (inr m) = subst P (sym (call_short h z m)) full

      by_number : length run ≤ max_run → ((run_of run).number ≡ 0) ⊎ ((run_of run).number ≢ 0) → P (call_of run out)
      by_number h (inl z) = by_room h z (le_or_lt (length ending) (length out))
      by_number h (inr n) = subst P (sym (call_refused h n)) (stops h n)

      by_length : (length run ≤ max_run) ⊎ (max_run < length run) → P (call_of run out)
      by_length (inl h) = by_number h (eq_or_ne (run_of run).number 0)
      by_length (inr h) = subst P (sym (call_long h)) long

  -- the answer is far below 2 ^ 64
  pub call_small : (call_of run out).answer ≤ 33554463
  unfolding refused_answer
  call_small =
      call_by (λ o. o.answer ≤ 33554463) (omega arith)
      (λ h _. omega (arith, number_fits (run_of run).number (run_small run).0, (run_small run).1)) (omega arith)
      (λ _. omega (arith, image_any (run_of run).net, largest_any))

-- ---- what the code answers

-- equal calls are answered alike
answers_as : {o p : Called} {r : ℕ} {exit : List ℕ} → o ≡ p → Answers p r exit → Answers o r exit
answers_as e h = rw e h

-- an image is written, or is refused and then nothing is
module _ (w : Writing) (out : List ℕ) where
  image_good : w.number ≡ 0 → image_call w out ≡ record { answer = 32 * w.used; output = w.output }
  unfolding image_call
  image_good e = rw (eq-eqb w.number 0 e)

  image_bad : w.number ≢ 0 → image_call w out ≡ refused_call w.number 0 out
  unfolding image_call
  image_bad n = rw (ne_eqb w.number 0 n)

-- refused, nothing is written
kept : (k : ℕ) (bytes out : List ℕ) → (writing k bytes out).number ≢ 0 → (writing k bytes out).output ≡ out
unfolding writing
kept k bytes out n = go (eq_or_ne k 0)
  where
    go : (k ≡ 0) ⊎ (k ≢ 0) → (writing k bytes out).output ≡ out
    go (inl e) = absurd (n (rw e refl))
    go (inr m) = ap (λ (w : Writing). w.output) (writing_refused k bytes out m)

-- the answer w of writing, with a refusal at place 0
abbrev Placed : Result ℕ Fault → Result ℕ Stop → Type 0
Placed w r = MatchResult w (λ k. r ≡ Ok k) (λ f. IsErrAnd r (λ s. s ≡ record { fault = f; place = 0 }))

image_answer : (x : Net) (out : List ℕ) (w : Result ℕ Fault) (r : Result ℕ Stop) (exit : List ℕ) → Placed w r → Writes (image_of x out) w exit
    → Answers (image_call (image_of x out) out) (answer_of r) exit
unfolding answer_of image_of
image_answer x out (Ok k) r exit m writes =
    answers_as (image_good (image_of x out) out (sym writes.number))
    (record { answer = ap answer_of m ∙ ap (λ j. 32 * j) writes.used; output = writes.output })
image_answer x out (Err f) (Ok j) exit m writes = absurd m
image_answer x out (Err f) (Err s) exit m writes =
    let n : (image_of x out).number ≢ 0 = λ z. fault_some f (writes.number ∙ z) in
    answers_as (image_bad (image_of x out) out n)
    (record {
      answer = ap (λ (t : Stop). answer_of (Err t)) m ∙ ap (λ k. refused_answer k 0) writes.number;
      output = writes.output ∙ kept (image_number x (length out)) (image x) out n;
    })

module _ (run out : List ℕ) where
  -- the run is too long
  pub answers_long : max_run < length run → Answers (call_of run out) (answer_of (Err (record { fault = Range; place = 0 }))) out
  unfolding answer_of
  answers_long h = answers_as (call_long run out h) (record { answer = refl; output = refl })

  module _ (short : length run ≤ max_run) (words : List ℕ) where
    -- it stops
    stops : (t : Stop) → StopsAt run t → Answers (call_of run out) (answer_of (Err t)) out
    unfolding answer_of
    stops t s =
        answers_as (call_refused run out short (λ z. fault_some t.fault (s.number ∙ z)))
        (record { answer = (λ i. refused_answer (s.number i) (s.place i)); output = refl })

    pub answers_refused : (t : Stop) → Ends run (Err t) words → Answers (call_of run out) (answer_of (Err t)) out
    answers_refused t ends = stops t (refused run t words ends)

    module _ (e : Run) (ends : Ends run (Ok e) words) where
      pub answers_stopped : (t : Stop) → Err t ≡ finished_of e → Answers (call_of run out) (answer_of (Err t)) out
      answers_stopped t h = stops t (stopped run e words ends t h)

      -- its image is written, or does not fit
      pub answers_image : (n : ℕ) → Ok n ≡ finished_of e → (w : Result ℕ Fault) (exit : List ℕ) → Writes (image_of (view words) out) w exit → (r : Result ℕ Stop)
          → Placed w r → Answers (call_of run out) (answer_of r) exit
      answers_image n h w exit writes r m =
          answers_as (call_accepted run out short (reached run e words ends n h).number)
          (image_answer (run_of run).net out w r exit m (subst (λ (x : Net). Writes (image_of x out) w exit) ends.net writes))
