-- The number of each fault, and the number that a call answers.
-- Assumes nothing.
use Rattle.std.specs.Prelude.{ℕ, Result, Ok, Err}
use Rattle.network.specs.declared.Fault.{Fault}
use Rattle.network.specs.declared.Fault.TheVariants as F

-- what input alone brings on, what the state brings on, and the numbers that change requests added
abbrev pub fault_number : Fault → ℕ
fault_number F.Cut = 1
fault_number F.Kind = 2
fault_number F.Range = 3
fault_number F.Order = 4
fault_number F.Form = 5
fault_number F.Room = 6
fault_number F.Mark = 7
fault_number F.NoRoute = 8
fault_number F.Broken = 9
fault_number F.Label = 10
fault_number F.Predecessor = 11
fault_number F.List = 12
fault_number F.Base = 13
fault_number F.Message = 14

-- the number of an answer: 0 where the call is accepted
abbrev pub answered : {A : Type 0} → Result A Fault → ℕ
answered (Ok x) = 0
answered (Err f) = fault_number f
