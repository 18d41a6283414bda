-- Exactly its two bytes are read as -r, exactly the numbers in decimal as N, and exactly the bases of 32 bits as BASE.
-- Assumes nothing.
use mathlib.Core.Path.{◌≡◌, refl, sym, ap, ◌∙◌}
use mathlib.Core.Bool.{Bool, true, false, cond}
use mathlib.Core.List.{List, [], ◌∷◌, ◌++◌, append_assoc, append-nil}
use mathlib.Core.Logic.{◌⊎◌, inl, inr, ⊎_elim, ◌≢◌}
use Prim.Native.Nat.{ℕ, zero, suc, ◌+◌, ◌*◌, ◌-◌, ◌/◌, ◌%◌, ◌^◌, ◌<◌, ◌≤◌}
use native.Mathlib.Omega.{arith}
use lib.Dec.{eqb, ltb}
use lib.ListN.{length, take, drop}
use lib.Seq.{take_at, drop_at, drop-drop}
use borrow.Author.Tests.{ltb-true, eqb-true, eq-eqb, ne_eqb}
use Rattle.ancestors.proofs.Cases.{bool_cases, le_or_lt, eq_or_ne, clash, never, and_both}
use Rattle.text.specs.Text.{decimal}
use Rattle.text.proofs.Digits.{last, decimal_one, decimal_more}
use Rattle.std.specs.List.{position_or_len}
use Rattle.std.proofs.Common.{None, Some, one-add}
use Rattle.std.proofs.lemmas.Grind.{common_steps}
use Rattle.std.proofs.lemmas.List.Sums.{split_at_first, passes_at_first}
use Rattle.arguments.specs.Arguments.{is_flag_of, capped, is_digit, no_number_of, digits_after, read_count_of, is_dot, before_dot, after_dot, bytes_after, read_base_of}
use Rattle.arguments.specs.Exact.{flag, FlagExact, CountsExact, dotted, BasesExact}
use Rattle.arguments.proofs.Counting.{digit_right, number_empty, number_one, number_more, count_none, count_digits, capped_small}
use Rattle.arguments.proofs.Dots.{then_byte, then_says, no_dot}

-- ---- -r

flag_only : (t : List ℕ) → is_flag_of t ≡ true → t ≡ flag
unfolding is_flag_of flag
flag_only [] e = never false e refl
flag_only (a ∷ []) e = never false e refl
flag_only (a ∷ b ∷ []) e =
    let h = and_both (eqb a 45) (eqb b 114) e in
    let p = eqb-true a 45 h.0 in
    let q = eqb-true b 114 h.1 in
    cc
flag_only (a ∷ b ∷ c ∷ t) e = let h = and_both (eqb (length (a ∷ b ∷ c ∷ t)) 2) _ e in absurd (omega (arith, eqb-true (length (a ∷ b ∷ c ∷ t)) 2 h.0))

pub flag_exact : FlagExact
unfolding is_flag_of flag
flag_exact = record { all = refl; only = flag_only }

-- ---- digits

-- what it says that a byte is a digit
digit_says : (b : ℕ) → is_digit b ≡ true → (48 ≤ b) × (b ≤ 57)
unfolding is_digit
digit_says b e = let h = and_both (ltb 47 b) (ltb b 58) e in (omega (arith, ltb-true 47 b h.0), omega (arith, ltb-true b 58 h.1))

-- digits that are read begin with a digit
first_digit : (n b : ℕ) (t : List ℕ) (v : ℕ) → digits_after n (b ∷ t) ≡ Some v
    → (is_digit b ≡ true) × (digits_after (capped (n * 10 + (b - 48))) t ≡ Some v)
unfolding digits_after
first_digit n b t v = go (is_digit b)
  where
    go : (d : Bool) → cond d (digits_after (capped (n * 10 + (b - 48))) t) None ≡ Some v
        → (d ≡ true) × (digits_after (capped (n * 10 + (b - 48))) t ≡ Some v)
    go true e = (refl, e)
    go false e = clash cc

-- no digit is left
no_digit : (n v : ℕ) → digits_after n [] ≡ Some v → n ≡ v
unfolding digits_after
no_digit n v e = cc

-- more digits after those that are read
digits_append : (s t : List ℕ) (n m : ℕ) → digits_after n s ≡ Some m → digits_after n (s ++ t) ≡ digits_after m t
unfolding digits_after
digits_append [] t n m e = ap (λ (k : ℕ). digits_after k t) (no_digit n m e)
digits_append (b ∷ s) t n m e =
    let h = first_digit n b s m e in rw h.0 (digits_append s t (capped (n * 10 + (b - 48))) m h.1)

-- one digit
one_digit : (n d : ℕ) → d < 10 → digits_after n ((48 + d) ∷ []) ≡ Some (capped (n * 10 + d))
unfolding digits_after
one_digit n d h =
    let e : 48 + d - 48 ≡ d = omega arith in
    rw (digit_right (48 + d) (omega arith) (omega arith), e)

-- a number with a digit more
capped_more : (n d : ℕ) → capped (capped n * 10 + d) ≡ capped (n * 10 + d)
unfolding capped
capped_more n d = omega arith

-- ---- N

digits_decimal : (k n : ℕ) → n < k → digits_after 0 (decimal n) ≡ Some (capped n)
digits_decimal zero n h = absurd (omega arith)
digits_decimal (suc k) n h =
    ⊎_elim
    (λ big.
    let e : n / 10 * 10 + n % 10 ≡ n = omega arith in
    ap (digits_after 0) (decimal_more n big) ∙
    digits_append (decimal (n / 10)) (last n) 0 (capped (n / 10)) (digits_decimal k (n / 10) (omega arith)) ∙
    one_digit (capped (n / 10)) (n % 10) (omega arith) ∙ rw (capped_more, e))
    (λ small.
    let e : 0 * 10 + n % 10 ≡ n = omega arith in
    ap (digits_after 0) (decimal_one n small) ∙ one_digit 0 (n % 10) (omega arith) ∙ rw e)
    (le_or_lt 10 n)

-- a number but 0 has no zero in front
decimal_first : (k n : ℕ) → n < k → 1 ≤ n → (b : ℕ) × (t : List ℕ) × (decimal n ≡ b ∷ t) × (b ≢ 48)
decimal_first zero n h one = absurd (omega arith)
decimal_first (suc k) n h one =
    ⊎_elim
    (λ big.
    let f = decimal_first k (n / 10) (omega arith) (omega arith) in
    (f.0, f.1 ++ last n, decimal_more n big ∙ ap (λ (l : List ℕ). l ++ last n) f.2, f.3))
    (λ small. (48 + n % 10, [], decimal_one n small, λ z. omega arith))
    (le_or_lt 10 n)

first_free : (b : ℕ) (t : List ℕ) → b ≢ 48 → no_number_of (b ∷ t) ≡ false
first_free b [] h = number_one (b ∷ []) refl
first_free b (d ∷ t) h = number_more (b ∷ d ∷ t) (omega arith) ∙ ne_eqb b 48 h

decimal_free : (n : ℕ) → no_number_of (decimal n) ≡ false
decimal_free n = go (eq_or_ne n 0)
  where
    go : (n ≡ 0) ⊎ (n ≢ 0) → no_number_of (decimal n) ≡ false
    go (inl z) = number_one (decimal n) (ap length (decimal_one n (omega arith)))
    go (inr z) = let f = decimal_first (suc n) n (omega arith) (omega (arith, z)) in ap no_number_of f.2 ∙ first_free f.0 f.1 f.3

pub counts_all : (n : ℕ) → read_count_of (decimal n) ≡ Some (capped n)
counts_all n = count_digits (decimal n) (decimal_free n) ∙ digits_decimal (suc n) n (omega arith)

-- digits after those of n, which is not 0
digits_only : (r : List ℕ) (n v : ℕ) → 1 ≤ n → digits_after (capped n) r ≡ Some v → (m : ℕ) × (decimal n ++ r ≡ decimal m) × (v ≡ capped m)
digits_only [] n v one e = (n, append-nil (decimal n), sym (no_digit (capped n) v e))
digits_only (b ∷ r) n v one e =
    let h = first_digit (capped n) b r v e in
    let d = digit_says b h.0 in
    let m : ℕ = n * 10 + (b - 48) in
    let tenth : m / 10 ≡ n = omega arith in
    let unit : 48 + m % 10 ≡ b = omega arith in
    let more : decimal m ≡ decimal n ++ (b ∷ []) = decimal_more m (omega arith) ∙ rw (tenth, unit) in
    let rest = digits_only r m v (omega arith) (rw (capped_more n (b - 48)) at h.1) in
    (rest.0, sym (append_assoc (decimal n) (b ∷ []) r) ∙ ap (λ (l : List ℕ). l ++ r) (sym more) ∙ rest.1, rest.2)

pub counts_only : (t : List ℕ) (v : ℕ) → read_count_of t ≡ Some v → (n : ℕ) × (t ≡ decimal n) × (v ≡ capped n)
counts_only t v e = by_test (bool_cases (no_number_of t))
  where
    -- a zero alone
    zero_alone : (b : ℕ) (r : List ℕ) → b ≡ 48 → no_number_of (b ∷ r) ≡ false → (r ≡ [])
    zero_alone b [] z f = refl
    zero_alone b (d ∷ r) z f = never (no_number_of (b ∷ d ∷ r)) (number_more (b ∷ d ∷ r) (omega arith) ∙ eq-eqb b 48 z) f

    by_first : (b : ℕ) (r : List ℕ) → no_number_of (b ∷ r) ≡ false → (is_digit b ≡ true) × (digits_after (capped (0 * 10 + (b - 48))) r ≡ Some v)
        → (b ≡ 48) ⊎ (b ≢ 48) → (n : ℕ) × (b ∷ r ≡ decimal n) × (v ≡ capped n)
    by_first b r f h (inl z) =
        let none = zero_alone b r z f in
        let k : 0 * 10 + (b - 48) ≡ 0 = omega arith in
        (0, (λ i. z i ∷ none i) ∙ sym (decimal_one 0 (omega arith)), sym (no_digit (capped 0) v (rw (k, none) at h.1)))
    by_first b r f h (inr z) =
        let d = digit_says b h.0 in
        let k : 0 * 10 + (b - 48) ≡ b - 48 = omega arith in
        let unit : 48 + (b - 48) % 10 ≡ b = omega arith in
        let one : decimal (b - 48) ≡ b ∷ [] = decimal_one (b - 48) (omega arith) ∙ rw unit in
        rw one at (digits_only r (b - 48) v (omega (arith, z)) (rw k at h.1))

    by_bytes : (s : List ℕ) → no_number_of s ≡ false → digits_after 0 s ≡ Some v → (n : ℕ) × (s ≡ decimal n) × (v ≡ capped n)
    by_bytes [] f g = never (no_number_of []) (number_empty [] refl) f
    by_bytes (b ∷ r) f g = by_first b r f (first_digit 0 b r v g) (eq_or_ne b 48)

    by_test : (no_number_of t ≡ true) ⊎ (no_number_of t ≡ false) → (n : ℕ) × (t ≡ decimal n) × (v ≡ capped n)
    by_test (inl f) = let z = count_none t f in clash cc
    by_test (inr f) = by_bytes t f (sym (count_digits t f) ∙ e)

pub counts_exact : CountsExact
counts_exact = record { all = counts_all; only = counts_only }

-- ---- BASE

-- a number is read up to the dot after it
dot_after : (s r : List ℕ) (n v : ℕ) → digits_after n s ≡ Some v → position_or_len is_dot (s ++ (46 ∷ r)) ≡ length s
dot_after [] r n v e = refl
dot_after (b ∷ s) r n v e =
    let h = first_digit n b s v e in
    let f = ne_eqb b 46 (λ z. omega (arith, digit_says b h.0)) in
    rw (f, dot_after s r (capped (n * 10 + (b - 48))) v h.1, one-add)

-- a number, a dot and the rest
byte_dot : (k v n : ℕ) (r : List ℕ) → n ≤ 255 → bytes_after (suc k) v (decimal n ++ (46 ∷ r)) ≡ bytes_after k (v * 256 + n) r
unfolding bytes_after before_dot after_dot
byte_dot k v n r h =
    let d = decimal n in
    let t = d ++ (46 ∷ r) in
    let e = dot_after d r 0 (capped n) (digits_decimal (suc n) n (omega arith)) in
    let p : before_dot t ≡ d = ap (λ (m : ℕ). take m t) e ∙ take_at d (46 ∷ r) (length d) refl in
    let q : after_dot t ≡ r =
    ap (λ (m : ℕ). drop (m + 1) t) e ∙ sym (drop-drop 1 (length d) t) ∙ ap (drop 1) (drop_at d (46 ∷ r) (length d) refl) in
    rw (p, q) (then_byte _ (read_count_of (decimal n)) n (counts_all n ∙ rw (capped_small n (omega arith))) h)

byte_last : (v n : ℕ) → n ≤ 255 → bytes_after 0 v (decimal n) ≡ Some (v * 256 + n)
unfolding bytes_after
byte_last v n h = then_byte _ (read_count_of (decimal n)) n (counts_all n ∙ rw (capped_small n (omega arith))) h

pub bases_all : (v : ℕ) → v < 2 ^ 32 → read_base_of (dotted v) ≡ Some v
unfolding read_base_of dotted
bases_all v h =
    let a = v / 16777216 in
    let b = v / 65536 % 256 in
    let c = v / 256 % 256 in
    let e : (((0 * 256 + a) * 256 + b) * 256 + c) * 256 + v % 256 ≡ v = omega arith in
    byte_dot 2 0 a _ (omega arith) ∙ byte_dot 1 (0 * 256 + a) b _ (omega arith) ∙ byte_dot 0 ((0 * 256 + a) * 256 + b) c _ (omega arith) ∙
    byte_last (((0 * 256 + a) * 256 + b) * 256 + c) (v % 256) (omega arith) ∙ ap Some e

-- a number of at most 255 is read from its digits
byte_is : (t : List ℕ) (n : ℕ) → read_count_of t ≡ Some n → n ≤ 255 → t ≡ decimal n
unfolding capped
byte_is t n e h =
    let o = counts_only t n e in
    let p : o.0 ≡ n = omega (arith, o.2) in
    o.1 ∙ ap decimal p

-- a text is cut at its first dot, or has none
cut_at_dot : (t : List ℕ) → (t ≡ before_dot t ++ (46 ∷ after_dot t)) ⊎ (after_dot t ≡ [])
unfolding before_dot after_dot
cut_at_dot t =
    ⊎_elim (λ none. inr (grind (arith, common_steps)))
    (λ some. inl (split_at_first is_dot t 0 some ∙ rw (eqb-true _ 46 (passes_at_first is_dot t 0 some))))
    (le_or_lt (length t) (position_or_len is_dot t))

byte_dot_says : (k v : ℕ) (t : List ℕ) (w : ℕ) → bytes_after (suc k) v t ≡ Some w
    → (n : ℕ) × (r : List ℕ) × (n ≤ 255) × (t ≡ decimal n ++ (46 ∷ r)) × (bytes_after k (v * 256 + n) r ≡ Some w)
unfolding bytes_after
byte_dot_says k v t w e =
    let f = then_says (λ n. bytes_after k (v * 256 + n) (after_dot t)) (read_count_of (before_dot t)) w e in
    ⊎_elim
    (λ p. (f.0, after_dot t, f.2, p ∙ ap (λ (l : List ℕ). l ++ (46 ∷ after_dot t)) (byte_is (before_dot t) f.0 f.1 f.2), f.3))
    (λ p. let z = no_dot t p k v in clash cc)
    (cut_at_dot t)

byte_last_says : (v : ℕ) (t : List ℕ) (w : ℕ) → bytes_after 0 v t ≡ Some w → (n : ℕ) × (n ≤ 255) × (t ≡ decimal n) × (w ≡ v * 256 + n)
unfolding bytes_after
byte_last_says v t w e =
    let f = then_says (λ n. Some (v * 256 + n)) (read_count_of t) w e in
    let q : Some (v * 256 + f.0) ≡ Some w = f.3 in
    (f.0, f.2, byte_is t f.0 f.1 f.2, cc)

-- four bytes with dots between are those of a base
module _ (a b c d : ℕ) (ha : a ≤ 255) (hb : b ≤ 255) (hc : c ≤ 255) (hd : d ≤ 255) where
  dotted_bytes : dotted ((((0 * 256 + a) * 256 + b) * 256 + c) * 256 + d) ≡ decimal a ++ (46 ∷ (decimal b ++ (46 ∷ (decimal c ++ (46 ∷ decimal d)))))
  unfolding dotted
  dotted_bytes =
      let v = (((0 * 256 + a) * 256 + b) * 256 + c) * 256 + d in
      let pa : v / 16777216 ≡ a = omega arith in
      let pb : v / 65536 % 256 ≡ b = omega arith in
      let pc : v / 256 % 256 ≡ c = omega arith in
      let pd : v % 256 ≡ d = omega arith in
      rw (pa, pb, pc, pd)

  base_bytes : {t r s u : List ℕ} {v : ℕ} → t ≡ decimal a ++ (46 ∷ r) → r ≡ decimal b ++ (46 ∷ s) → s ≡ decimal c ++ (46 ∷ u) → u ≡ decimal d
      → v ≡ (((0 * 256 + a) * 256 + b) * 256 + c) * 256 + d → (v < 2 ^ 32) × (t ≡ dotted v)
  base_bytes p q x y e = (omega arith, rw (p, q, x, y, e, dotted_bytes))

pub bases_only : (t : List ℕ) (v : ℕ) → read_base_of t ≡ Some v → (v < 2 ^ 32) × (t ≡ dotted v)
unfolding read_base_of
bases_only t v e =
    let a = byte_dot_says 2 0 t v e in
    let b = byte_dot_says 1 (0 * 256 + a.0) a.1 v a.4 in
    let c = byte_dot_says 0 ((0 * 256 + a.0) * 256 + b.0) b.1 v b.4 in
    let d = byte_last_says (((0 * 256 + a.0) * 256 + b.0) * 256 + c.0) c.1 v c.4 in
    base_bytes a.0 b.0 c.0 d.0 a.2 b.2 c.2 d.1 a.3 b.3 c.3 d.2 d.3

pub bases_exact : BasesExact
bases_exact = record { all = bases_all; only = bases_only }
