-- Laws of `each`: in parts, shifted, without bytes, and by pairs.
-- Assumes nothing.
use mathlib.Core.Path.{◌≡◌, refl, sym, ap, ◌∙◌}
use mathlib.Core.List.{List, [], ◌++◌, append_assoc, append-nil}
use Prim.Native.Nat.{ℕ, zero, suc, ◌+◌, ◌*◌, ◌/◌, ◌%◌, ◌<◌, ◌≤◌}
use native.Mathlib.Nat.{zero-add}
use native.Mathlib.Omega.{arith}
use lib.ListN.{length, length-append}
use Rattle.records.specs.Image.{each}

-- functions that agree on the numbers give the same bytes
pub each_same : (f g : ℕ → List ℕ) (k d : ℕ) → ((i : ℕ) → k ≤ i → i < k + d → f i ≡ g i) → each f k d ≡ each g k d
unfolding each
each_same f g k zero h = refl
each_same f g k (suc d) h = rw (h k (omega arith) (omega arith), each_same f g (suc k) d (λ i a b. h i (omega arith) (omega arith)))

-- in two parts
pub each_split : (f : ℕ → List ℕ) (k a b : ℕ) → each f k (a + b) ≡ each f k a ++ each f (k + a) b
unfolding each
each_split f k zero b =
    let p : zero + b ≡ b = omega arith in
    let q : k + zero ≡ k = omega arith in
    rw (p, q)
each_split f k (suc a) b =
    let p : suc a + b ≡ suc (a + b) = omega arith in
    let q : suc k + a ≡ k + suc a = omega arith in
    rw p (ap (λ (l : List ℕ). f k ++ l) (each_split f (suc k) a b) ∙ rw q (sym (append_assoc (f k) (each f (suc k) a) (each f (k + suc a) b))))

-- of one number
each_one : (f : ℕ → List ℕ) (k : ℕ) → each f k 1 ≡ f k
unfolding each
each_one f k = append-nil (f k)

-- the last number apart
pub each_last : (f : ℕ → List ℕ) (k d : ℕ) → each f k (d + 1) ≡ each f k d ++ f (k + d)
each_last f k d = each_split f k d 1 ∙ ap (λ (l : List ℕ). each f k d ++ l) (each_one f (k + d))

-- of no numbers, and of one number more
pub each_zero : (f : ℕ → List ℕ) (k : ℕ) → each f k 0 ≡ []
unfolding each
each_zero f k = refl

pub each_next : (f : ℕ → List ℕ) (i : ℕ) → each f 0 (i + 1) ≡ each f 0 i ++ f i
each_next f i = each_last f 0 i ∙ ap (λ (k : ℕ). each f 0 i ++ f k) (zero-add i)

-- where there are no bytes there is nothing
pub each_none : (f : ℕ → List ℕ) (k d : ℕ) → ((i : ℕ) → k ≤ i → i < k + d → f i ≡ []) → each f k d ≡ []
unfolding each
each_none f k zero h = refl
each_none f k (suc d) h = rw (h k (omega arith) (omega arith), each_none f (suc k) d (λ i a b. h i (omega arith) (omega arith)))

-- shifted
pub each_shift : (f : ℕ → List ℕ) (m k d : ℕ) → each (λ i. f (m + i)) k d ≡ each f (m + k) d
unfolding each
each_shift f m k zero = refl
each_shift f m k (suc d) =
    let p : m + suc k ≡ suc (m + k) = omega arith in
    rw (each_shift f m (suc k) d, p)

-- by a number of 32 and one below it, as by their pair's number
pub each_pair : (f : ℕ → ℕ → List ℕ) (s d : ℕ) → each (λ a. each (f a) 0 32) s d ≡ each (λ k. f (k / 32) (k % 32)) (s * 32) (d * 32)
unfolding each
each_pair f s zero = refl
each_pair f s (suc d) =
    let p : suc d * 32 ≡ 32 + d * 32 = omega arith in
    let q : s * 32 + 32 ≡ suc s * 32 = omega arith in
    rw p (ap (λ (l : List ℕ). each (f s) 0 32 ++ l) (each_pair f (suc s) d) ∙ ap (λ (l : List ℕ). l ++ each g (suc s * 32) (d * 32)) one ∙
    rw (← q) (sym (each_split g (s * 32) 32 (d * 32))))
  where
    g : ℕ → List ℕ
    g k = f (k / 32) (k % 32)

    here : (r : ℕ) → 0 ≤ r → r < 0 + 32 → f s r ≡ g (s * 32 + r)
    here r a b =
        let x : (s * 32 + r) / 32 ≡ s = omega arith in
        let y : (s * 32 + r) % 32 ≡ r = omega arith in
        rw (x, y)

    one : each (f s) 0 32 ≡ each g (s * 32) 32
    one =
        let z : s * 32 + 0 ≡ s * 32 = omega arith in
        each_same (f s) (λ r. g (s * 32 + r)) 0 32 here ∙ each_shift g (s * 32) 0 32 ∙ rw z

-- the length is at most the sum of bounds
pub each_most : (f : ℕ → List ℕ) (m k d : ℕ) → ((i : ℕ) → k ≤ i → i < k + d → length (f i) ≤ m) → length (each f k d) ≤ m * d
unfolding each
each_most f m k zero h = omega arith
each_most f m k (suc d) h =
    let a = h k (omega arith) (omega arith) in
    let b = each_most f m (suc k) d (λ i x y. h i (omega arith) (omega arith)) in
    let e : m * suc d ≡ m + m * d = omega arith in
    omega (arith, length-append (f k) (each f (suc k) d), e)
