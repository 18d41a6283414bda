-- The record at the place `at` of the bytes s, in the section z, by its kind byte.
-- Assumes nothing.
use mathlib.Core.Path.{◌≡◌}
use mathlib.Core.Bool.{true, cond}
use mathlib.Core.List.{List}
use Prim.Native.Nat.{ℕ, suc, ◌+◌, ◌-◌, ◌<◌, ◌≤◌}
use native.Mathlib.Numerals.{add-one}
use lib.ListN.{length, get_or, take, drop, length-drop, drop_of_length-le}
use lib.Seq.{drop-cons}
use borrow.Author.Tests.{le-ltb}
use native.Mathlib.Omega.{arith}
use native.Mathlib.Nat.{add-sub_cancel_left}
use Rattle.records.specs.declared.Event.{Event}
use Rattle.network.specs.declared.Fault.TheVariants.{Cut, Kind}
use Rattle.records.specs.Records.{Section, body_length, body_of, event_of, allowed, refused_record, bodied, record_of}

-- there is none
pub missing : (z : Section) (s : List ℕ) (at : ℕ) → length s ≤ at → record_of z at (drop at s) ≡ refused_record Cut at
unfolding record_of
missing z s at h = rw (drop_of_length-le s {i = at} h)

-- it decides
pub by_kind : (z : Section) (s : List ℕ) (at : ℕ) → at < length s
    → record_of z at (drop at s) ≡ cond (allowed z (get_or s at 0)) (bodied at (get_or s at 0) (drop (at + 1) s)) (refused_record Kind at)
unfolding record_of
by_kind z s at h = rw (drop-cons s at 0, add-one)

-- it is k, which is allowed
pub of_kind : (z : Section) (s : List ℕ) (at : ℕ) → at < length s → (k : ℕ) → get_or s at 0 ≡ k → allowed z k ≡ true → bodied at k (drop (at + 1) s) ≡ record_of z at (drop at s)
of_kind z s at h k e a = rw (by_kind z s at h, e, a)

-- a body of kind k is whole, and v is read in it
pub whole : (s : List ℕ) (at k n : ℕ) → n ≡ body_length k → n ≤ length s - (at + 1) → (v : Event) → v ≡ event_of at k (take (at + 1 + n - (at + 1)) (drop (at + 1) s)) →
    record { event = v; used = 1 + n } ≡ bodied at k (drop (at + 1) s)
unfolding bodied body_of
whole s at k n e h v q = let f : 1 + n ≡ suc n = omega arith in rw (← e, le-ltb (length (drop (at + 1) s)) n (simp length-drop h), q, add-sub_cancel_left, f)
