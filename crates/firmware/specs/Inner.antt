-- What the private function answers.
-- Assumes nothing.
use Rattle.std.specs.Prelude.{Result, Ok, Err, ℕ, ◌*◌}
use Rattle.network.specs.Answered.{fault_number}
use Rattle.records.specs.declared.Stop.{Stop}
use Rattle.firmware.specs.Calling.{refused_answer}

-- the answer in 64 bits of an image's length, or of a refusal
unfoldable pub answer_of : Result ℕ Stop → ℕ
answer_of (Ok used) = 32 * used
answer_of (Err s) = refused_answer (fault_number s.fault) s.place
