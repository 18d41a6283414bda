-- What a call of a list does: refused it leaves the network, accepted it gives the next one.
-- Assumes nothing.
use mathlib.Core.Path.{◌≡◌, refl, sym, ap, ◌∙◌}
use mathlib.Core.Bool.{Bool, true, false, ◌&&◌}
use mathlib.Core.List.{List, [], ◌∷◌, ◌++◌}
use mathlib.Core.Logic.{◌⊎◌, inl, inr, ◌≢◌}
use Prim.Native.Nat.{ℕ}
use borrow.Author.Tests.{eqb-true, eqb-false, eq-eqb}
use Rattle.ancestors.proofs.Cases.{bool_cases}
use Rattle.network.specs.Network.{Net, outcome, Within}
use Rattle.network.specs.Round.{Marks, marked, every_arc, round_number, round as round_with}
use Rattle.network.specs.Change.{changed, change_number, grade_cost_of, grade_number}
use Rattle.network.specs.Route.{route_of}
use Rattle.network.proofs.Effects.{frame, Stays, nodes_stay, outcome_number, outcome_same, number_of, net_accepted, net_refused, change_outcome, grade_outcome, round_outcome, full_round_outcome, round_effect, change_effect}
use Rattle.network.proofs.Keeping.{change_within, grade_within, round_within, full_round_within}
use Rattle.records.specs.Image.{image_of}
use Rattle.settling.specs.Calls.{Call, change, grade, round, full_round, route, write_image_of, reads, called, accepted, after, alters, marks_then}

-- the number that a call answers
number : Net → Call → ℕ
number x (change s r c) = change_number x s r c
number x (grade s r g) = grade_number x s r g
number x (round ms) = round_number x ms
number x full_round = 0
number x (route y out) = (route_of x y out).number
number x (write_image_of out) = (image_of x out).number

-- the network that an accepted call gives
next : Net → Call → Net
next x (change s r c) = changed x s r c
next x (grade s r g) = changed x s r (grade_cost_of g)
next x (round ms) = round_with (marked ms) x
next x full_round = round_with (every_arc x) x
next x (route y out) = x
next x (write_image_of out) = x

-- a reading call answers an outcome too
reads_outcome : (x : Net) (k : ℕ) → reads x k ≡ outcome k x x
reads_outcome x k = λ i. record { number = sym (outcome_number k x x) i; net = sym (outcome_same k x) i }

-- every call answers an outcome
called_outcome : (x : Net) (c : Call) → called x c ≡ outcome (number x c) (next x c) x
unfolding called number next
called_outcome x (change s r c) = change_outcome x s r c
called_outcome x (grade s r g) = grade_outcome x s r g
called_outcome x (round ms) = round_outcome x ms
called_outcome x full_round = full_round_outcome x
called_outcome x (route y out) = reads_outcome x (route_of x y out).number
called_outcome x (write_image_of out) = reads_outcome x (image_of x out).number

-- and its number is the outcome's
called_number : (x : Net) (c : Call) → (called x c).number ≡ number x c
called_number x c = number_of (number x c) (next x c) x (called_outcome x c)

-- an accepted call's number is 0, and no other's
pub accepted_zero : (x : Net) (c : Call) → accepted x c ≡ true → (called x c).number ≡ 0
unfolding accepted
accepted_zero x c e = eqb-true (called x c).number 0 e

pub accepted_not : (x : Net) (c : Call) → accepted x c ≡ false → (called x c).number ≢ 0
unfolding accepted
accepted_not x c e = eqb-false (called x c).number 0 e

-- a refused call leaves the network
pub called_refused : (x : Net) (c : Call) → accepted x c ≡ false → (called x c).net ≡ x
called_refused x c e = net_refused (number x c) (next x c) x (called_outcome x c) (λ z. accepted_not x c e (called_number x c ∙ z))

-- an accepted call gives the next one
called_accepted : (x : Net) (c : Call) → accepted x c ≡ true → (called x c).net ≡ next x c
called_accepted x c e = net_accepted (number x c) (next x c) x (called_outcome x c) (sym (called_number x c) ∙ accepted_zero x c e)

-- a round with every arc heard is always accepted
pub full_accepted : (x : Net) → accepted x full_round ≡ true
unfolding accepted number
full_accepted x = eq-eqb (called x full_round).number 0 (called_number x full_round)

-- an accepted call leaves the frame
next_stays : (x : Net) (c : Call) → Stays x (next x c)
unfolding next
next_stays x (change s r c) = (change_effect x s r c).stays
next_stays x (grade s r g) = (change_effect x s r (grade_cost_of g)).stays
next_stays x (round ms) = (round_effect (marked ms) x).stays
next_stays x full_round = (round_effect (every_arc x) x).stays
next_stays x (route y out) = refl
next_stays x (write_image_of out) = refl

-- every call leaves the frame
called_stays : (x : Net) (c : Call) → Stays x (called x c).net
called_stays x c = go (bool_cases (accepted x c))
  where
    go : (accepted x c ≡ true) ⊎ (accepted x c ≡ false) → Stays x (called x c).net
    go (inl e) = ap frame (called_accepted x c e) ∙ next_stays x c
    go (inr e) = ap frame (called_refused x c e)

-- every call keeps a network within limits
pub called_within : (x : Net) → Within x → (c : Call) → Within (called x c).net
unfolding called
called_within x w (change s r c) = change_within x w s r c
called_within x w (grade s r g) = grade_within x w s r g
called_within x w (round ms) = round_within x w ms
called_within x w full_round = full_round_within x w
called_within x w (route y out) = w
called_within x w (write_image_of out) = w

-- a list of calls leaves the nodes
pub after_nodes : (x : Net) (cs : List Call) → (after x cs).nodes ≡ x.nodes
unfolding after
after_nodes x [] = refl
after_nodes x (c ∷ cs) = after_nodes (called x c).net cs ∙ nodes_stay (called_stays x c)

-- two lists of calls, one after the other
pub after_append : (x : Net) (cs ds : List Call) → after x (cs ++ ds) ≡ after (after x cs) ds
unfolding after
after_append x [] ds = refl
after_append x (c ∷ cs) ds = after_append (called x c).net cs ds

-- a list of calls keeps a network within limits
pub after_within : (x : Net) → Within x → (cs : List Call) → Within (after x cs)
unfolding after
after_within x w [] = w
after_within x w (c ∷ cs) = after_within (called x c).net (called_within x w c) cs

-- a call of a stretch leaves the network and adds no marks, or is one round and adds its marks
pub data CallEffect (x : Net) (c : Call) : Type 0 where
  no_effect : (called x c).net ≡ x → ((ms : List Marks) → marks_then x c ms ≡ ms) → CallEffect x c
  one_round : (m : Marks) → (called x c).net ≡ round_with m x → ((ms : List Marks) → marks_then x c ms ≡ m ∷ ms) → CallEffect x c

-- a call that alters is refused
refused_alters : (a : Bool) → (a && true) ≡ false → a ≡ false
refused_alters true e = e
refused_alters false e = e

-- no change or grade is accepted in a stretch, so each of its calls is such a call
pub call_effect : (x : Net) (c : Call) → (accepted x c && alters c) ≡ false → CallEffect x c
unfolding marks_then next called
call_effect x (change s r c) e = no_effect (called_refused x (change s r c) (refused_alters (accepted x (change s r c)) e)) (λ ms. refl)
call_effect x (grade s r g) e = no_effect (called_refused x (grade s r g) (refused_alters (accepted x (grade s r g)) e)) (λ ms. refl)
call_effect x (round ws) e = go (bool_cases (accepted x (round ws)))
  where
    go : (accepted x (round ws) ≡ true) ⊎ (accepted x (round ws) ≡ false) → CallEffect x (round ws)
    go (inl a) = one_round (marked ws) (called_accepted x (round ws) a) (λ ms. rw a)
    go (inr a) = no_effect (called_refused x (round ws) a) (λ ms. rw a)
call_effect x full_round e = one_round (every_arc x) (called_accepted x full_round (full_accepted x)) (λ ms. refl)
call_effect x (route y out) e = no_effect refl (λ ms. refl)
call_effect x (write_image_of out) e = no_effect refl (λ ms. refl)
