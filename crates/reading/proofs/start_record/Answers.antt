-- `reading::start_record` meets its contract: no kind byte, a header, and another.
-- Assumes nothing.
use mathlib.Core.Path.{refl, ◌∙◌}
use native.Mathlib.Omega.{arith}
use Rattle.std.proofs.Common.{rules}
use Rattle.std.proofs.lemmas.Grind.{common_steps}
use Rattle.records.specs.Records.{at_start, allowed, body_length, event_of}
use Rattle.reading.proofs.ByKind.{missing, by_kind, of_kind}
use Rattle.reading.proofs.start_record.Goals as goal

pub returns-then-is_empty : goal.returns-then-is_empty
returns-then-is_empty c = grind (arith, common_steps, missing at_start c.args.input.now 0)

pub returns-in-1 : goal.returns-in-1
unfolding allowed body_length event_of
returns-in-1 c = c.bodied.ensures 1 refl (λ b e p. search rules) ∙ of_kind at_start _ 0 (search rules) 1 c.in-1.is refl

pub returns-in_default : goal.returns-in_default
unfolding allowed
returns-in_default c = grind (arith, common_steps, by_kind at_start c.args.input.now 0)

pub returns-in-0 : goal.returns-in-0
unfolding allowed
returns-in-0 c = grind (arith, common_steps, by_kind at_start c.args.input.now 0)
