-- The words after a history give the network after its calls; so demand 3 holds of them.
-- Assumes nothing.
use mathlib.Core.Path.{◌≡◌, refl, sym, ap, subst, ◌∙◌}
use mathlib.Core.List.{List, ◌∷◌}
use mathlib.Core.Logic.{◌≢◌}
use Prim.Native.Nat.{ℕ}
use Rattle.network.specs.Network.{Net}
use Rattle.memory.specs.Layout.{view}
use Rattle.settling.specs.Calls.{Call, called, after, rounds_heard, Promises}
use Rattle.settling.specs.Demand.{Answered, by_fresh}
use Rattle.settling.proofs.CallLaws.{after_append}
use Rattle.settling.proofs.Theorem.{open_answers, demand3}
use Rattle.history.specs.History.{CallMade, by_change, by_grade, by_round, by_full_round, by_route, by_image, History, no_call, one_more, numbers, Follows, HistoryFollows, Begun, fresh_left, open_left, WordsSettle}

-- ---- one call

-- the words after it give the network that the call leaves
made_net : {c : Call} {k : ℕ} {xs ys : List ℕ} → CallMade c k xs ys → view ys ≡ (called (view xs) c).net
unfolding called
made_net (by_change l) = l.net
made_net (by_grade l) = l.net
made_net (by_round l) = l.net
made_net (by_full_round l) = l.net
made_net (by_route w) = refl
made_net (by_image w) = refl

-- and its number is the call's
made_number : {c : Call} {k : ℕ} {xs ys : List ℕ} → CallMade c k xs ys → k ≡ (called (view xs) c).number
unfolding called
made_number (by_change l) = l.number
made_number (by_grade l) = l.number
made_number (by_round l) = l.number
made_number (by_full_round l) = l.number
made_number (by_route w) = w.number
made_number (by_image w) = w.number

-- a refused call leaves every word as it stood
pub refused_words : {c : Call} {k : ℕ} {xs ys : List ℕ} → CallMade c k xs ys → k ≢ 0 → ys ≡ xs
refused_words (by_change l) n = l.same n
refused_words (by_grade l) n = l.same n
refused_words (by_round l) n = l.same n
refused_words (by_full_round l) n = l.same n
refused_words (by_route w) n = refl
refused_words (by_image w) n = refl

-- ---- a history

follow : {xs : List ℕ} {cs : List Call} {ks zs : List ℕ} → History xs cs ks zs → Follows xs cs ks zs
unfolding after numbers
follow no_call = record { net = refl; answered = refl }
follow (one_more {c = c} {cs = cs} m h) =
    let f = follow h in
    let e = made_net m in
    record {
      net = f.net ∙ ap (λ (x : Net). after x cs) e;
      answered = λ i. made_number m i ∷ (f.answered ∙ ap (λ (x : Net). numbers x cs) e) i;
    }

pub history_follows : HistoryFollows
history_follows xs cs ks zs h = follow h

-- ---- demand 3

-- words that an accepted call left give a network that it answers
begun_answered : {xs : List ℕ} → Begun xs → Answered (view xs)
begun_answered (fresh_left n origin s) = by_fresh n origin (sym s.number) (sym s.net)
begun_answered (open_left bs used bytes o) = subst Answered (sym o.net_is) (open_answers bs bytes (sym o.number_is))

pub words_settle : WordsSettle
words_settle xs b before stretch ks zs h W s =
    subst (Promises (view xs).nodes W (rounds_heard (view xs) before stretch))
    (sym ((follow h).net ∙ after_append (view xs) before stretch))
    (demand3 (view xs) (begun_answered b) before stretch W s)
