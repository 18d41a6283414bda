-- What writing an image answers: Room for an output shorter than the image, and else the image's length.
-- Assumes nothing.
use mathlib.Core.Path.{refl, ap, ◌∙◌}
use mathlib.Core.List.{List, ◌++◌}
use Prim.Native.Nat.{ℕ, ◌<◌, ◌≤◌}
use lib.ListN.{length, drop}
use Rattle.std.specs.Prelude.{Ok, Err}
use Rattle.network.specs.declared.Fault.TheVariants.{Room}
use Rattle.network.specs.Network.{Net}
use Rattle.network.specs.Writing.{Writes}
use Rattle.records.specs.Image.{image, image_of}
use Rattle.records.proofs.ImageWriting.{image_short, image_fits}
use Rattle.filling.specs.Filling.{Wrote}

module _ (x : Net) (out : List ℕ) where
  -- refused
  pub answers_short : length out < length (image x) → Writes (image_of x out) (Err Room) out
  answers_short h = rw (image_short x out h) (record { number = refl; used = refl; output = refl })

  -- accepted
  pub answers_fits : {r : ℕ} {exit : List ℕ} → length (image x) ≤ length out → Wrote (image x) out exit r
      → Writes (image_of x out) (Ok r) exit
  answers_fits h w =
      rw (image_fits x out h) (record { number = refl; used = w.used; output = w.left ∙ ap (λ (k : ℕ). image x ++ drop k out) w.used })
