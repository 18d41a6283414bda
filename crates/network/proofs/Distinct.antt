-- Rows of different kinds are not equal, nor are an empty report and another.
-- Assumes nothing.
use mathlib.Core.Path.{◌≡◌}
use Prim.Native.Nat.{ℕ}
use Rattle.ancestors.proofs.Cases.{clash}
use Rattle.network.specs.Network.{Row, none, root, via, Report, empty, told}

pub root_via : {A : Type 0} (w : Row) {l d p k : ℕ} → w ≡ root l → w ≡ via d p k → A
root_via w a b = clash cc

pub none_root : {A : Type 0} (w : Row) {l : ℕ} → w ≡ none → w ≡ root l → A
none_root w a b = clash cc

pub none_via : {A : Type 0} (w : Row) {d p l : ℕ} → w ≡ none → w ≡ via d p l → A
none_via w a b = clash cc

pub empty_told : {A : Type 0} (h : Report) {d l : ℕ} → h ≡ empty → h ≡ told d l → A
empty_told h a b = clash cc
