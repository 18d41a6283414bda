-- The marks of a round: 32 words, filled in one after another.
-- Assumes nothing.
use mathlib.Core.Path.{◌≡◌, refl, sym, ap, ◌∙◌}
use mathlib.Core.List.{List, [], ◌∷◌, ◌++◌}
use Prim.Native.Nat.{ℕ, zero, suc, ◌+◌, ◌*◌, ◌<◌}
use native.Mathlib.Omega.{arith}
use native.Mathlib.Nat.{add_assoc}
use native.Mathlib.Numerals.{add-one}
use lib.ListN.{length, take, drop, set}
use lib.Seq.{take-suc-set, take_all, get_or-drop}
use Rattle.records.specs.Numbers.{num8, num16, num32, words_in}

-- a word after n bytes
word_drop : (n : ℕ) (b : List ℕ) (i : ℕ) → num32 (drop n b) i ≡ num32 b (n + i)
unfolding num32 num16 num8
word_drop n b i = simp (get_or-drop, ← add_assoc)

-- one word more
words_more : (i : ℕ) (b : List ℕ) → words_in (suc i) b ≡ words_in i b ++ (num32 b (4 * i) ∷ [])
unfolding words_in
words_more zero b = refl
words_more (suc i) b =
    let e : 4 + 4 * i ≡ 4 * suc i = omega arith in
    ap (λ l. num32 b 0 ∷ l) (words_more i (drop 4 b) ∙ ap (λ w. words_in i (drop 4 b) ++ (w ∷ [])) (word_drop 4 b (4 * i) ∙ ap (num32 b) e))

-- no word yet, one word more, all of them
pub none_filled : (b : List ℕ) → [] ≡ words_in 0 b
unfolding words_in
none_filled b = refl

pub one_filled : (b w : List ℕ) (i x : ℕ) → i < length w → take i w ≡ words_in i b → x ≡ num32 b (4 * i) → take (i + 1) (set w i x) ≡ words_in (i + 1) b
one_filled b w i x h e p =
    rw add-one
    (take-suc-set w i x h ∙ ap (λ l. l ++ (x ∷ [])) e ∙ ap (λ y. words_in i b ++ (y ∷ [])) p ∙ sym (words_more i b))
