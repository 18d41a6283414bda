-- Decimal digits: one by one, as the library writes them, and how many there are.
-- Assumes nothing.
use mathlib.Core.Path.{◌≡◌, sym, ap, ◌∙◌}
use mathlib.Core.List.{List, [], ◌∷◌, ◌++◌}
use mathlib.Core.Logic.{⊎_elim}
use Prim.Native.Nat.{ℕ, zero, suc, ◌+◌, ◌*◌, ◌/◌, ◌%◌, ◌^◌, ◌<◌, ◌≤◌}
use native.Mathlib.Nat.{pow-suc, one-le-pow}
use native.Mathlib.Numerals.{unary_clauses}
use native.Mathlib.Omega.{arith}
use lib.ListN.{length, length-append}
use borrow.Author.Tests.{lt-ltb, le-ltb}
use Rattle.io.specs.Digits.{last_digits, IsDigitCount}
use Rattle.std.specs.Fmt.{decimal as written}
use Rattle.std.proofs.lemmas.Fmt.{decimal_by_steps}
use Rattle.ancestors.proofs.Cases.{le_or_lt}
use Rattle.text.specs.Text.{decimal_in, decimal}

-- the last digit of n
abbrev pub last : ℕ → List ℕ
last n = (48 + n % 10) ∷ []

-- the number of digits at most never decides
enough : (j k n : ℕ) → n < j → n < k → decimal_in j n ≡ decimal_in k n
unfolding decimal_in
enough zero k n h g = absurd (omega arith)
enough (suc j) zero n h g = absurd (omega arith)
enough (suc j) (suc k) n h g =
    ⊎_elim (λ big. rw (le-ltb n 10 big) (ap (λ (l : List ℕ). l ++ last n) (enough j k (n / 10) (omega arith) (omega arith)))) (λ small. rw (lt-ltb n 10 small))
    (le_or_lt 10 n)

-- a number below 10 has one digit
pub decimal_one : (n : ℕ) → n < 10 → decimal n ≡ last n
unfolding decimal decimal_in
decimal_one n h = rw (lt-ltb n 10 h)

-- another one has the digits of its tenth, and the last one
pub decimal_more : (n : ℕ) → 10 ≤ n → decimal n ≡ decimal (n / 10) ++ last n
unfolding decimal decimal_in
decimal_more n h = rw (le-ltb n 10 h) (ap (λ (l : List ℕ). l ++ last n) (enough n (suc (n / 10)) (n / 10) (omega arith) (omega arith)))

-- the fewest digits that hold n, as `io` gives them, are its decimal digits
pub digits_decimal : (k n : ℕ) → IsDigitCount 10 1 n k → last_digits 10 k n ≡ decimal n
digits_decimal zero n h = absurd (omega arith)
digits_decimal (suc zero) n h =
    let p : n % 10 < 10 = omega arith in
    rw (lt-ltb (n % 10) 10 p) (sym (decimal_one n (omega arith)))
digits_decimal (suc (suc k)) n h =
    let p : n % 10 < 10 = omega arith in
    let t = 10 ^ k in
    let a : 10 ^ suc k ≡ t * 10 = pow-suc 10 k in
    let b : 10 ^ suc (suc k) ≡ 10 ^ suc k * 10 = pow-suc 10 (suc k) in
    let one : 1 ≤ t = one-le-pow k 10 (omega arith) in
    let low : t * 10 ≤ n = simp unary_clauses at (h.2 (omega arith)) in
    rw (lt-ltb (n % 10) 10 p)
    (ap (λ (l : List ℕ). l ++ last n) (digits_decimal (suc k) (n / 10) (omega arith, omega (arith, h.1), λ _. simp unary_clauses (omega arith))) ∙
    sym (decimal_more n (omega arith)))

-- the digits that the library writes are the decimal digits
pub written_decimal : (n : ℕ) → n < 2 ^ 64 → written n ≡ decimal n
written_decimal =
    decimal_by_steps (λ (n : ℕ) (l : List ℕ). l ≡ decimal n)
    (λ n h. let e : n % 10 ≡ n = omega arith in rw (decimal_one n h, e))
    (λ n l h e. ap (λ (d : List ℕ). d ++ last n) e ∙ sym (decimal_more n h))

-- a number below 10 to the power k + 1 has at most k + 1 digits
decimal_most : (k n : ℕ) → n < 10 ^ suc k → length (decimal n) ≤ suc k
decimal_most zero n h = omega (arith, ap length (decimal_one n (omega arith)))
decimal_most (suc k) n h =
    let b : 10 ^ suc (suc k) ≡ 10 ^ suc k * 10 = pow-suc 10 (suc k) in
    ⊎_elim
    (λ big. omega (arith, ap length (decimal_more n big), length-append (decimal (n / 10)) (last n), decimal_most k (n / 10) (omega arith)))
    (λ small. omega (arith, ap length (decimal_one n small))) (le_or_lt 10 n)

-- one of 64 bits has at most 20
pub long_digits : (n : ℕ) → n < 2 ^ 64 → length (decimal n) ≤ 20
long_digits n h = decimal_most 19 n (omega arith)
