-- `image::put32` meets its contract.
-- Assumes nothing.
use native.Mathlib.Omega.{arith}
use mathlib.Core.Path.{◌≡◌, ◌∙◌}
use Prim.Native.Nat.{◌+◌, ◌-◌, ◌/◌}
use lib.Seq.{drop-drop}
use Rattle.records.specs.Numbers.{be8, be16, be32}
use Rattle.image.proofs.put32.Goals as goal

pub returns : goal.returns
unfolding be32 be16 be8
returns c =
    let a = c.args in
    let width : a.at + 4 - a.at ≡ 4 = omega arith in
    let top : a.x / 65536 / 256 ≡ a.x / 16777216 = omega arith in
    rw (c.copy_from_slice.ensures.after ∙ c.to_be_bytes.ensures, width, drop-drop 4 a.at a.out.now, top)
