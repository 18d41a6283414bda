-- Change request Three, the program `rip`: what it says, every byte, on standard output or on standard error.
-- Assumes nothing.
use Rattle.std.specs.Prelude.{Bool, true, false, cond, List, [], ◌∷◌, ◌++◌, ℕ, eqb, ltb, length, get_or}
use Rattle.network.specs.Answered.{fault_number}
use Rattle.records.specs.Image.{each}
use Rattle.records.specs.Running.{Running, run_of}
use Rattle.response.specs.Messages.{base_fault, row_messages}
use Rattle.response.specs.Reading.{Reading, read_of}
use Rattle.text.specs.Text.{max_input, decimal, field, newline, stop_line, too_long}
use Rattle.command.specs.declared.Refusal.{Refusal}
use Rattle.command.specs.declared.Refusal.TheVariants.{Usage, TooLong, Refused, Stopped}

-- bytes for standard output, or a line for standard error; the other stays empty
pub record Saying : Type 0 where
  pub is_error : Bool
  pub bytes : List ℕ

abbrev pub on_output : List ℕ → Saying
on_output bytes = record { is_error = false; bytes = bytes }

abbrev pub on_error : List ℕ → Saying
on_error line = record { is_error = true; bytes = line }

-- ---- lines

-- "refused" and the number
unfoldable pub refused_line : ℕ → List ℕ
refused_line number = 114 ∷ 101 ∷ 102 ∷ 117 ∷ 115 ∷ 101 ∷ 100 ∷ (field number ++ newline)

-- node y and its metric
unfoldable pub metric_line : ℕ → ℕ → List ℕ
metric_line y m = decimal y ++ (field m ++ newline)

-- a line for each of n nodes, with metrics by node
unfoldable pub node_lines : List ℕ → ℕ → List ℕ
node_lines ms n = each (λ y. metric_line y (get_or ms y 0)) 0 n

-- "usage: rip BASE <run >messages, or rip -r BASE N <messages"
unfoldable pub usage_line : List ℕ
usage_line =
    117 ∷ 115 ∷ 97 ∷ 103 ∷ 101 ∷ 58 ∷ 32 ∷ 114 ∷ 105 ∷ 112 ∷ 32 ∷ 66 ∷ 65 ∷ 83 ∷ 69 ∷ 32 ∷ 60 ∷ 114 ∷ 117 ∷ 110 ∷ 32 ∷ 62 ∷ 109 ∷ 101 ∷ 115 ∷
    115 ∷ 97 ∷ 103 ∷ 101 ∷ 115 ∷ 44 ∷ 32 ∷ 111 ∷ 114 ∷ 32 ∷ 114 ∷ 105 ∷ 112 ∷ 32 ∷ 45 ∷ 114 ∷ 32 ∷ 66 ∷ 65 ∷ 83 ∷ 69 ∷ 32 ∷ 78 ∷ 32 ∷ 60 ∷ 109 ∷
    101 ∷ 115 ∷ 115 ∷ 97 ∷ 103 ∷ 101 ∷ 115 ∷ 10 ∷ []

-- ---- arguments that can't be read

-- the usage
unfoldable pub usage_text : Saying
usage_text = on_error usage_line

-- ---- writing

-- of a run: refused anywhere, its number and place; else the messages of its network
unfoldable pub run_text : ℕ → Running → Saying
run_text base o = cond (eqb o.number 0) (on_output (row_messages base o.net)) (on_error (stop_line o.number o.place))

-- 13 for the base comes first, then an input that is too long
unfoldable pub write_text_of : ℕ → List ℕ → Saying
write_text_of base input = cond (base_fault base) (on_error (refused_line 13)) (cond (ltb max_input (length input)) (on_error too_long) (run_text base (run_of input)))

-- ---- reading

-- refused, the number; else a line for each node
unfoldable pub metrics_text : Reading → Saying
metrics_text o = cond (eqb o.number 0) (on_output (node_lines o.metrics (length o.metrics))) (on_error (refused_line o.number))

-- of base, n and messages
unfoldable pub read_text : ℕ → ℕ → List ℕ → Saying
read_text base n input = metrics_text (read_of base n input)

-- ---- refusals

-- what is said of each case
unfoldable pub refusal_text : Refusal → Saying
refusal_text Usage = usage_text
refusal_text TooLong = on_error too_long
refusal_text (Refused f) = on_error (refused_line (fault_number f))
refusal_text (Stopped s) = on_error (stop_line (fault_number s.fault) s.place)
