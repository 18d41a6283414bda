-- `image::put16` meets its contract.
-- Assumes nothing.
use native.Mathlib.Omega.{arith}
use mathlib.Core.Path.{◌≡◌, ◌∙◌}
use Prim.Native.Nat.{◌+◌, ◌-◌}
use lib.Seq.{drop-drop}
use Rattle.image.proofs.Stores.{low_bytes}
use Rattle.image.proofs.put16.Goals as goal

pub returns : goal.returns
returns c =
    let a = c.args in
    let width : a.at + 2 - a.at ≡ 2 = omega arith in
    rw (c.copy_from_slice.ensures.after ∙ c.to_be_bytes.ensures ∙ low_bytes a.x, width, drop-drop 2 a.at a.out.now)
