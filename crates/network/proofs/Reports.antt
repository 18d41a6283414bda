-- What a row reports, and the row that a report is of: above this crate `report` stays shut but where examples are computed.
-- Assumes nothing.
use mathlib.Core.Path.{◌≡◌, ap}
use mathlib.Core.Logic.{◌⊎◌, inl, inr}
use Prim.Native.Nat.{ℕ}
use Rattle.ancestors.proofs.Cases.{clash}
use Rattle.network.specs.Network.{Row, none, root, via, told}
use Rattle.network.specs.Round.{report}

pub root_told : {w : Row} {l : ℕ} → w ≡ root l → report w ≡ told 0 l
unfolding report
root_told e = ap report e

pub via_told : {w : Row} {d p l : ℕ} → w ≡ via d p l → report w ≡ told d l
unfolding report
via_told e = ap report e

-- a report that is not empty is of a row with a route
pub told_row : (w : Row) (d l : ℕ) → report w ≡ told d l → ((w ≡ root l) × (0 ≡ d)) ⊎ ((p : ℕ) × (w ≡ via d p l))
unfolding report
told_row none d l e = clash cc
told_row (root l') d l e = inl (cc, cc)
told_row (via d' p l') d l e = inr (p, cc)
