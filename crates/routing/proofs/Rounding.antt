-- What a round leaves: its refusals, and hearing and then new rows.
-- Assumes nothing.
use mathlib.Core.Path.{◌≡◌, refl, sym, ap, subst, ◌∙◌}
use mathlib.Core.Bool.{true, false}
use mathlib.Core.Logic.{◌≢◌}
use mathlib.Core.List.{List}
use Prim.Native.Nat.{ℕ}
use native.Mathlib.Omega.{arith}
use lib.ListN.{length}
use borrow.Author.Tests.{eq-eqb, ne_eqb}
use Rattle.std.specs.Borrow.{Bor}
use Rattle.std.specs.Prelude.{Option, Some, None, MatchOption, option_map}
use Rattle.std.specs.Array.{IsWholeChunk}
use Rattle.network.specs.Network.{Net}
use Rattle.network.specs.Round.{marked, hear, renew, round, stray_mark, idle_mark, every_arc, round_number, round_of, full_round_of}
use Rattle.memory.specs.Layout.{view}
use Rattle.memory.specs.Answers.{Leaves}
use Rattle.memory.proofs.Laws.{leaves_refused, leaves_accepted}
use Rattle.routing.specs.Inner.{by_words, Primed, hear_arcs, given, stray_rows, idle_rows}
use Rattle.routing.proofs.Marks.{stray_agrees, idle_agrees, none_stray, on_arc}
use Rattle.routing.proofs.Hearing.{heard}

-- hearing, and then new rows
pub advanced : (xs ps ys zs : List ℕ) (ms : Option (List ℕ)) → ((s r : ℕ) → given (view xs) ms s r ≡ true → every_arc (view xs) s r ≡ true) → Primed xs ps
    → by_words ys ≡ hear_arcs (given (view ps) ms) (by_words ps) → view zs ≡ renew (view ys) → view zs ≡ round (given (view xs) ms) (view xs)
unfolding round
advanced xs ps ys zs ms on p q v =
    let on' = subst (λ (x : Net). (s r : ℕ) → given x ms s r ≡ true → every_arc x s r ≡ true) (sym p.net) on in
    v ∙ ap renew (heard xs ps ys (given (view ps) ms) p q on' ∙ ap (λ (x : Net). hear (given x ms) (view xs)) p.net)

module _ (xs ms : List ℕ) where
  pub round_cut : length ms ≢ 32 → Leaves (round_of (view xs) ms) 1 xs xs
  unfolding round_of round_number
  round_cut e = leaves_refused 1 _ _ xs (rw (ne_eqb (length ms) 32 e)) (λ z. omega arith)

  module _ (n : ℕ) (is : n ≡ (view xs).nodes) (e : length ms ≡ 32) where
    stray : stray_rows n ms 32 ≡ stray_mark (view xs).nodes (marked ms)
    stray = ap (λ k. stray_rows k ms 32) is ∙ stray_agrees (view xs).nodes ms

    pub round_stray : stray_rows n ms 32 ≡ true → Leaves (round_of (view xs) ms) 3 xs xs
    unfolding round_of round_number
    round_stray h = leaves_refused 3 _ _ xs (rw (eq-eqb (length ms) 32 e, sym stray ∙ h)) (λ z. omega arith)

    pub round_idle : stray_rows n ms 32 ≡ false → idle_rows (view xs) ms 32 ≡ true → Leaves (round_of (view xs) ms) 7 xs xs
    unfolding round_of round_number
    round_idle h k = leaves_refused 7 _ _ xs (rw (eq-eqb (length ms) 32 e, sym stray ∙ h, sym (idle_agrees (view xs) ms) ∙ k)) (λ z. omega arith)

  module _ (k : idle_rows (view xs) ms 32 ≡ false) where
    none_idle : idle_mark (view xs).cost (marked ms) ≡ false
    none_idle = sym (idle_agrees (view xs) ms) ∙ k

    pub marks_given : (s r : ℕ) → given (view xs) (Some ms) s r ≡ true → every_arc (view xs) s r ≡ true
    unfolding given
    marks_given = on_arc xs ms none_idle

    pub round_done : length ms ≡ 32 → (zs : List ℕ) → view zs ≡ round (given (view xs) (Some ms)) (view xs) → Leaves (round_of (view xs) ms) 0 xs zs
    unfolding round_of round_number given
    round_done e zs v = leaves_accepted _ _ xs zs (rw (eq-eqb (length ms) 32 e, none_stray xs ms none_idle, none_idle)) v

-- 32 words as an array are those words
pub all_words : (o : Option (Bor (List ℕ))) (ms : List ℕ) → MatchOption o (length ms ≢ 32) (λ y. IsWholeChunk ms y.now 32) → length ms ≡ 32
    → option_map (λ words. words.now) o ≡ Some ms
all_words None ms m e = absurd (m e)
all_words (Some y) ms m e = ap Some m.same

-- a round with every arc heard
pub arcs_given : (x : Net) (s r : ℕ) → given x None s r ≡ true → every_arc x s r ≡ true
unfolding given
arcs_given x s r e = e

pub full_round_done : (xs zs : List ℕ) → view zs ≡ round (given (view xs) None) (view xs) → Leaves (full_round_of (view xs)) 0 xs zs
unfolding full_round_of given
full_round_done xs zs v = leaves_accepted 0 _ xs zs refl v
