-- The line of a refusal: its parts, and how long it is at most.
-- Assumes nothing.
use mathlib.Core.Path.{◌≡◌}
use mathlib.Core.List.{[]}
use Prim.Native.Nat.{ℕ, ◌^◌, ◌<◌, ◌≤◌}
use native.Mathlib.Omega.{arith}
use lib.ListN.{length, length-append}
use borrow.Author.Tests.{eq-eqb, ne_eqb}
use Rattle.text.specs.Text.{field, stop_line, last_line}
use Rattle.text.proofs.Digits.{long_digits}

-- no refusal
pub last_none : (number place : ℕ) → number ≡ 0 → last_line number place ≡ []
unfolding last_line
last_none number place h = rw (eq-eqb number 0 h)

-- a refusal
pub last_stop : (number place : ℕ) → (number ≡ 0 → ⊥) → last_line number place ≡ stop_line number place
unfolding last_line
last_stop number place h = rw (ne_eqb number 0 h)

-- the line of numbers of 64 bits has at most 53 bytes
pub stop_most : (number place : ℕ) → number < 2 ^ 64 → place < 2 ^ 64 → length (stop_line number place) ≤ 53
unfolding stop_line field
stop_most number place h k = grind (arith, length-append, long_digits)
