-- What writing an image gives: 6 for an output shorter than the image, and else the image at the output's front.
-- Assumes nothing.
use mathlib.Core.Path.{◌≡◌}
use mathlib.Core.List.{List, ◌++◌}
use Prim.Native.Nat.{ℕ, ◌<◌, ◌≤◌}
use native.Mathlib.Omega.{arith}
use lib.ListN.{length, drop}
use borrow.Author.Tests.{lt-ltb, le-ltb}
use Rattle.network.specs.Network.{Net}
use Rattle.network.proofs.Effects.{writing_refused, writing_accepted}
use Rattle.records.specs.Image.{image, image_number, image_of}

module _ (x : Net) (out : List ℕ) where
  -- refused
  pub image_short : length out < length (image x) → image_of x out ≡ record { number = 6; used = 0; output = out }
  unfolding image_of image_number
  image_short h = rw (lt-ltb (length out) (length (image x)) h) (writing_refused 6 (image x) out (λ z. omega arith))

  -- accepted
  pub image_fits : length (image x) ≤ length out
      → image_of x out ≡ record { number = 0; used = length (image x); output = image x ++ drop (length (image x)) out }
  unfolding image_of image_number
  image_fits h = rw (le-ltb (length out) (length (image x)) h) (writing_accepted (image x) out)
