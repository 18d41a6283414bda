-- The false relays of document 01, of request One and of the owner's trials 1 to 3 differ from its round, computed.
-- Assumes nothing.
use mathlib.Core.Path.{◌≡◌, refl, sym, ◌∙◌}
use mathlib.Core.Logic.{◌≢◌}
use mathlib.Core.List.{List, [], ◌∷◌}
use Prim.Native.Nat.{ℕ}
use native.Mathlib.Omega.{arith}
use lib.Count.{ones}
use Rattle.ancestors.specs.Ancestors.{has, put}
use Rattle.network.specs.Faults.{size_fault, pair_fault_of, cost_fault}
use Rattle.network.specs.Network.{Row, none, via, Net, set_at, set_pair, with_cost, with_row, with_held, outcome, fresh_net, fresh_number, fresh_of}
use Rattle.network.specs.Round.{report, hear, offer, list_of, goes_before, against, winner, row_by, choice, renew, marked, some, stray_mark, idle_mark, round_number, round_of, every_arc, full_round_of, round as play_round}
use Rattle.network.specs.Change.{changed, change_number, change_of}
use Rattle.network.proofs.Distinct.{none_via}
use Rattle.settling.specs.Calls.{Call, change, grade, round, full_round, route, write_image_of, called, after}
use Rattle.settling.specs.FalseRelays.{in_turn, repeated, called_by, after_by, field_net, FalseRelaysDiffer}

-- with document 01's round these are its calls
called_right : (x : Net) (c : Call) → called_by play_round x c ≡ (called x c).net
unfolding called_by called round_of full_round_of
called_right x (change s r c) = refl
called_right x (grade s r g) = refl
called_right x (round ms) = refl
called_right x full_round = refl
called_right x (route y out) = refl
called_right x (write_image_of out) = refl

pub after_right : (x : Net) (cs : List Call) → after_by play_round x cs ≡ after x cs
unfolding after_by after
after_right x [] = refl
after_right x (c ∷ cs) = rw (called_right x c) (after_right (called x c).net cs)

differs : {u v a b : Row} → u ≡ a → v ≡ b → a ≢ b → (u ≡ a) × (v ≡ b) × (u ≢ v)
differs p q apart = (p, q, λ e. apart (sym p ∙ e ∙ q))

via_none : {d p l : ℕ} → via d p l ≢ none
via_none e = none_via _ e refl

same_label : {d p l e q k : ℕ} → via d p l ≡ via e q k → d ≡ e
same_label h = cc

same_from : {d p l e q k : ℕ} → via d p l ≡ via e q k → p ≡ q
same_from h = cc

pub false_relays_differ : FalseRelaysDiffer
unfolding field_net after_by called_by in_turn repeated has put size_fault pair_fault_of cost_fault set_at set_pair with_cost with_row with_held outcome
    fresh_net fresh_number fresh_of ones report hear offer list_of goes_before against winner row_by choice renew marked some stray_mark idle_mark
    round_number round_of every_arc full_round_of play_round changed change_number change_of called after
false_relays_differ =
    record {
      predecessor_only_differs = differs refl refl via_none;
      renewed_heard_differs = differs refl refl via_none;
      old_kept_differs = differs refl refl (λ e. omega (arith, same_label e));
      unheard_empty_differs = differs refl refl (none_via none refl);
      sixteen_bits_differs = differs refl refl (λ e. omega (arith, same_label e));
      lowest_sender_differs = differs refl refl (λ e. omega (arith, same_from e));
      central_differs = differs refl refl via_none;
      idle_differs = differs refl refl (none_via none refl);
      routeless_differs = differs refl refl (none_via none refl);
      fixed_differs = λ table same. differs refl refl (none_via (table 2) same);
    }
