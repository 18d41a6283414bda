-- `reading::event_record` meets its contract: each kind of an event.
-- Assumes nothing.
use mathlib.Core.Path.{refl, ◌∙◌}
use native.Mathlib.Omega.{arith}
use Rattle.std.proofs.Common.{rules}
use Rattle.std.proofs.lemmas.Grind.{common_steps}
use Rattle.records.specs.Records.{as_event, allowed, bodied, body_length, event_of}
use Rattle.reading.proofs.ByKind.{by_kind, of_kind}
use Rattle.reading.proofs.event_record.Goals as goal

pub returns-in-2 : goal.returns-in-2
unfolding allowed body_length event_of
returns-in-2 c = c.bodied.ensures 2 refl (λ b e p. search rules) ∙ of_kind as_event _ _ (omega arith) 2 c.in-2.is refl

pub returns-in-5 : goal.returns-in-5
unfolding allowed body_length event_of
returns-in-5 c = c.bodied-in-5.ensures 5 refl (λ b e p. search rules) ∙ of_kind as_event _ _ (omega arith) 5 c.in-5.is refl

pub returns-in-6 : goal.returns-in-6
unfolding allowed bodied body_length event_of
returns-in-6 c = grind (arith, common_steps, by_kind)

pub returns-in-7 : goal.returns-in-7
unfolding allowed body_length event_of
returns-in-7 c = c.bodied-in-7.ensures 7 refl (λ b e p. search rules) ∙ of_kind as_event _ _ (omega arith) 7 c.in-7.is refl
