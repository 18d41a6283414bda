-- The calls of a stretch are its rounds: refused calls leave the network, and no change or grade is accepted.
-- Assumes nothing.
use mathlib.Core.Path.{◌≡◌, refl, ap, subst, ◌∙◌}
use mathlib.Core.List.{List, [], ◌∷◌}
use Prim.Native.Nat.{ℕ, zero, suc, ◌<◌}
use native.Mathlib.Omega.{arith}
use lib.ListN.{length, get_or}
use Rattle.network.specs.Network.{Net, Within}
use Rattle.network.specs.Round.{Marks, round as round_with}
use Rattle.network.proofs.Effects.{round_effect}
use Rattle.settling.specs.Calls.{Call, called, after, Stretch, end, step, marks_then, rounds, unmarked}
use Rattle.settling.proofs.CallLaws.{called_within, CallEffect, no_effect, one_round, call_effect}
use Rattle.settling.proofs.Rounds.{Rounds}

-- x after the first t of the rounds with the marks ms
unfoldable pub after_rounds : ℕ → List Marks → Net → Net
after_rounds zero ms x = x
after_rounds (suc t) [] x = x
after_rounds (suc t) (m ∷ ms) x = after_rounds t ms (round_with m x)

-- the last of t + 1 rounds has the marks numbered t
after_rounds_last : (t : ℕ) (ms : List Marks) (x : Net) → t < length ms → after_rounds (suc t) ms x ≡ round_with (get_or ms t unmarked)
    (after_rounds t ms x)
unfolding after_rounds
after_rounds_last zero [] x h = absurd (omega arith)
after_rounds_last zero (m ∷ ms) x h = refl
after_rounds_last (suc t) [] x h = absurd (omega arith)
after_rounds_last (suc t) (m ∷ ms) x h = after_rounds_last t ms (round_with m x) (omega arith)

-- a stretch ends as its rounds end
pub stretch_after : {x : Net} {cs : List Call} → Stretch x cs → after x cs ≡ after_rounds (length (rounds x cs)) (rounds x cs) x
unfolding after rounds after_rounds
stretch_after end = refl
stretch_after (step {x = x} {c = c} {cs = cs} e s) = go (call_effect x c e) (stretch_after s)
  where
    ms : List Marks
    ms = rounds (called x c).net cs

    go : CallEffect x c → after (called x c).net cs ≡ after_rounds (length ms) ms (called x c).net →
        after (called x c).net cs ≡ after_rounds (length (marks_then x c ms)) (marks_then x c ms) x
    go (no_effect p q) h = rw (q ms) (h ∙ ap (after_rounds (length ms) ms) p)
    go (one_round m p q) h = rw (q ms) (h ∙ ap (after_rounds (length ms) ms) p)

-- and stays within limits
stretch_within : {x : Net} {cs : List Call} → Stretch x cs → Within x → (t : ℕ) → Within (after_rounds t (rounds x cs) x)
unfolding rounds after_rounds
stretch_within end w zero = w
stretch_within end w (suc t) = w
stretch_within (step {x = x} {c = c} {cs = cs} e s) w t = go (call_effect x c e) t (λ i. stretch_within s (called_within x w c) i)
  where
    ms : List Marks
    ms = rounds (called x c).net cs

    go : CallEffect x c → (t : ℕ) → ((i : ℕ) → Within (after_rounds i ms (called x c).net)) → Within (after_rounds t (marks_then x c ms) x)
    go (no_effect p q) t h = rw (q ms) (subst (λ (z : Net). Within (after_rounds t ms z)) p (h t))
    go (one_round m p q) zero h = w
    go (one_round m p q) (suc t) h = rw (q ms) (subst (λ (z : Net). Within (after_rounds t ms z)) p (h t))

-- its networks one after the other are those of its rounds
pub stretch_rounds : {x : Net} {cs : List Call} → Stretch x cs → Within x →
    Rounds (λ t. get_or (rounds x cs) t unmarked) (λ t. after_rounds t (rounds x cs) x) (length (rounds x cs))
stretch_rounds {x} {cs} s w =
    record {
      effect = λ t b. rw (after_rounds_last t (rounds x cs) x b) (round_effect (get_or (rounds x cs) t unmarked) (after_rounds t (rounds x cs) x));
      within = λ t b. stretch_within s w t;
    }
