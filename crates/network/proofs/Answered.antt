-- The number of a fault, and of an answer.
-- Assumes nothing.
use Prim.Native.Nat.{◌<◌, ◌≤◌}
use mathlib.Core.Path.{◌≡◌, ap}
use mathlib.Core.Logic.{◌≢◌}
use native.Mathlib.Omega.{arith}
use Rattle.std.specs.Prelude.{Result, Ok, Err, IsErrAnd}
use Rattle.network.specs.Answered.{fault_number, answered}
use Rattle.network.specs.declared.Fault.{Fault}
use Rattle.network.specs.declared.Fault.TheVariants as F

-- it is 1 to 14
pub fault_range : (f : Fault) → (0 < fault_number f) × (fault_number f ≤ 14)
fault_range F.Cut = (omega arith, omega arith)
fault_range F.Kind = (omega arith, omega arith)
fault_range F.Range = (omega arith, omega arith)
fault_range F.Order = (omega arith, omega arith)
fault_range F.Form = (omega arith, omega arith)
fault_range F.Room = (omega arith, omega arith)
fault_range F.Mark = (omega arith, omega arith)
fault_range F.NoRoute = (omega arith, omega arith)
fault_range F.Broken = (omega arith, omega arith)
fault_range F.Label = (omega arith, omega arith)
fault_range F.Predecessor = (omega arith, omega arith)
fault_range F.List = (omega arith, omega arith)
fault_range F.Base = (omega arith, omega arith)
fault_range F.Message = (omega arith, omega arith)

-- a refusal has a number other than 0
pub fault_some : (f : Fault) → fault_number f ≢ 0
fault_some f z = omega (arith, (fault_range f).0)

-- the number of a refusal that is passed on
pub answered_err : {A : Type 0} (q : Result A Fault) (f : Fault) → IsErrAnd q (λ g. g ≡ f) → answered q ≡ fault_number f
answered_err (Err g) f e = ap fault_number e
answered_err (Ok x) f e = absurd e
