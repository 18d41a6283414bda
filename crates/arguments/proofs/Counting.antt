-- N read: what is no number, and the digits one by one.
-- Assumes nothing.
use mathlib.Core.Path.{◌≡◌}
use mathlib.Core.Bool.{true, false}
use mathlib.Core.List.{List}
use mathlib.Core.Logic.{◌⊎◌}
use Prim.Native.Nat.{ℕ, ◌+◌, ◌*◌, ◌-◌, ◌<◌, ◌≤◌}
use native.Mathlib.Omega.{arith}
use native.Mathlib.Numerals.{add-one}
use lib.Dec.{eqb}
use lib.ListN.{length, get_or, drop, drop_of_length-le}
use lib.Seq.{drop-cons}
use borrow.Author.Tests.{lt-ltb, le-ltb, eq-eqb, ne_eqb}
use Rattle.std.proofs.Common.{None, Some}
use Rattle.arguments.specs.Arguments.{capped, is_digit, no_number_of, digits_after, read_count_of}

-- ---- digits

pub digit_right : (b : ℕ) → 48 ≤ b → b ≤ 57 → is_digit b ≡ true
unfolding is_digit
digit_right b low high = rw (lt-ltb 47 b (omega arith), lt-ltb b 58 (omega arith))

module _ (n : ℕ) (t : List ℕ) (i : ℕ) where
  -- no byte is left
  pub digits_end : length t ≤ i → digits_after n (drop i t) ≡ Some n
  unfolding digits_after
  digits_end h = rw (drop_of_length-le t {i = i} h)

  -- the byte at i is a digit
  pub digits_next : i < length t → 48 ≤ get_or t i 0 → get_or t i 0 ≤ 57
      → digits_after n (drop i t) ≡ digits_after (capped (n * 10 + (get_or t i 0 - 48))) (drop (i + 1) t)
  unfolding digits_after
  digits_next h low high = rw (add-one, drop-cons t i 0 h, digit_right (get_or t i 0) low high)

  -- it is none
  pub digits_wrong : i < length t → (get_or t i 0 < 48) ⊎ (57 < get_or t i 0) → digits_after n (drop i t) ≡ None
  unfolding digits_after is_digit
  digits_wrong h w = rw (drop-cons t i 0 h) (grind (arith, w))

pub ruleset digits = (digits_end, digits_next, digits_wrong)

-- ---- what is no number

module _ (t : List ℕ) where
  pub number_empty : length t ≡ 0 → no_number_of t ≡ true
  unfolding no_number_of
  number_empty h = rw (eq-eqb (length t) 0 h)

  pub number_one : length t ≡ 1 → no_number_of t ≡ false
  unfolding no_number_of
  number_one h = rw (ne_eqb (length t) 0 (λ z. omega arith), le-ltb 1 (length t) (omega arith))

  -- more bytes than one: the first decides
  pub number_more : 1 < length t → no_number_of t ≡ eqb (get_or t 0 0) 48
  unfolding no_number_of
  number_more h = rw (ne_eqb (length t) 0 (λ z. omega arith), lt-ltb 1 (length t) h)

  pub count_none : no_number_of t ≡ true → read_count_of t ≡ None
  unfolding read_count_of
  count_none h = rw h

  pub count_digits : no_number_of t ≡ false → read_count_of t ≡ digits_after 0 t
  unfolding read_count_of
  count_digits h = rw h

-- ---- a digit more

pub capped_small : (n : ℕ) → n ≤ 4294967295 → capped n ≡ n
unfolding capped
capped_small n h = omega arith
