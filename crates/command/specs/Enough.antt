-- Change request Three, the program `rip`: the part of its input that decides what it says.
-- Assumes nothing.
use Rattle.std.specs.Prelude.{◌≡◌, true, List, [], ℕ, ◌+◌, take}
use Rattle.response.specs.Messages.{base_fault, max_messages}
use Rattle.text.specs.Text.{max_input}
use Rattle.command.specs.Saying.{write_text_of, read_text}

-- no byte where the base is refused; else at most one byte more than a run, or than messages, can have
pub record InputEnough : Type 0 where
  pub none : (base : ℕ) (input : List ℕ) → base_fault base ≡ true → write_text_of base [] ≡ write_text_of base input
  pub run : (base : ℕ) (input : List ℕ) → write_text_of base (take (max_input + 1) input) ≡ write_text_of base input
  pub messages : (base n : ℕ) (input : List ℕ) → read_text base n (take (max_messages + 1) input) ≡ read_text base n input
