-- Document 01, "Records", its last paragraph: the one call of the C side.
-- Assumes nothing.
use Rattle.std.specs.Prelude.{◌≡◌, cond, List, ◌++◌, ℕ, ◌+◌, ◌*◌, ◌/◌, ◌%◌, ◌<◌, ◌≤◌, eqb, ltb, length, drop}
use Rattle.network.specs.Faults.{FileNumber}
use Rattle.network.specs.Writing.{Writing}
use Rattle.records.specs.Image.{image, image_of}
use Rattle.records.specs.Running.{Running, run_of}

-- the bytes of the longest run
abbrev pub max_run : ℕ
max_run = 1048576

-- what the call gives: the answer in 64 bits, and the output after it
pub record Called : Type 0 where
  pub answer : ℕ
  pub output : List ℕ

-- refused, 32 times the place plus the number
unfoldable pub refused_answer : ℕ → ℕ → ℕ
refused_answer number place = 32 * place + number

-- and nothing written
abbrev pub refused_call : ℕ → ℕ → List ℕ → Called
refused_call number place out = record { answer = refused_answer number place; output = out }

-- the image written, 32 times its length; an image that does not fit is refused at place 0
unfoldable pub image_call : Writing → List ℕ → Called
image_call w out = cond (eqb w.number 0) (record { answer = 32 * w.used; output = w.output }) (refused_call w.number 0 out)

-- the resulting image of a run, or its refusal
unfoldable pub run_call : Running → List ℕ → Called
run_call o out = cond (eqb o.number 0) (image_call (image_of o.net out) out) (refused_call o.number o.place out)

-- a run above the longest one is first refused as 3 at place 0
unfoldable pub call_of : List ℕ → List ℕ → Called
call_of run out = cond (ltb max_run (length run)) (refused_call 3 0 out) (run_call (run_of run) out)

-- the call answered r and left the output `exit`
pub record Answers (o : Called) (r : ℕ) (exit : List ℕ) : Type 0 where
  pub answer : r ≡ o.answer
  pub output : exit ≡ o.output

-- ---- what an answer tells

-- the call is refused, with a number from 1 to 7 or 10 to 12 and a place within the run, and nothing is written; or the run was accepted to its end and
-- the image of its network is written
pub data CallIs (run out : List ℕ) (o : Called) : Type 0 where
  refused : (number place : ℕ) → 0 < number → FileNumber number → place ≤ length run → o.answer % 32 ≡ number → o.answer / 32 ≡ place → o.output ≡ out
      → CallIs run out o
  written : (run_of run).number ≡ 0 → o.answer % 32 ≡ 0 → o.answer / 32 ≡ length (image (run_of run).net)
      → o.output ≡ image (run_of run).net ++ drop (length (image (run_of run).net)) out → CallIs run out o
