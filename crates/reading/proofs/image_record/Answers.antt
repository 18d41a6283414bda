-- `reading::image_record` meets its contract: each kind of an image.
-- Assumes nothing.
use mathlib.Core.Path.{refl, ◌∙◌}
use native.Mathlib.Omega.{arith}
use Rattle.std.proofs.Common.{rules}
use Rattle.std.proofs.lemmas.Grind.{common_steps}
use Rattle.records.specs.Records.{in_image, allowed, bodied, body_length, event_of}
use Rattle.reading.proofs.ByKind.{by_kind, of_kind}
use Rattle.reading.proofs.image_record.Goals as goal

pub returns-in-0 : goal.returns-in-0
unfolding allowed bodied body_length event_of
returns-in-0 c = grind (arith, common_steps, by_kind)

pub returns-in-2 : goal.returns-in-2
unfolding allowed body_length event_of
returns-in-2 c = c.bodied.ensures 2 refl (λ b e p. search rules) ∙ of_kind in_image _ _ (omega arith) 2 c.in-2.is refl

pub returns-in-3 : goal.returns-in-3
unfolding allowed body_length event_of
returns-in-3 c = c.bodied-in-3.ensures 3 refl (λ b e p. search rules) ∙ of_kind in_image _ _ (omega arith) 3 c.in-3.is refl

pub returns-in-4 : goal.returns-in-4
unfolding allowed body_length event_of
returns-in-4 c = c.bodied-in-4.ensures 4 refl (λ b e p. search rules) ∙ of_kind in_image _ _ (omega arith) 4 c.in-4.is refl
