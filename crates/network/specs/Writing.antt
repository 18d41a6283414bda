-- What a call that writes bytes answers and leaves in the output.
-- Assumes nothing.
use Rattle.std.specs.Prelude.{◌≡◌, cond, List, ◌++◌, Result, ℕ, eqb, length, drop}
use Rattle.std.specs.Result.{result_unwrap_or}
use Rattle.network.specs.Answered.{answered}
use Rattle.network.specs.declared.Fault.{Fault}

-- a number, 0 where the call is accepted, the bytes written, and the output after the call
pub record Writing : Type 0 where
  pub number : ℕ
  pub used : ℕ
  pub output : List ℕ

-- accepted, the bytes stand at the front and those past them as they stood; refused, nothing is written
unfoldable pub writing : ℕ → List ℕ → List ℕ → Writing
writing k bytes out =
    cond (eqb k 0) (record { number = k; used = length bytes; output = bytes ++ drop (length bytes) out }) (record { number = k; used = 0; output = out })

-- the call answered r and left the output `exit`
pub record Writes (w : Writing) (r : Result ℕ Fault) (exit : List ℕ) : Type 0 where
  pub number : answered r ≡ w.number
  pub used : result_unwrap_or r 0 ≡ w.used
  pub output : exit ≡ w.output
