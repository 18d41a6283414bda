-- `table::push_fields` meets its contract: the fields by what `memory` answers.
-- Assumes nothing.
use native.Mathlib.Omega.{arith}
use mathlib.Core.Path.{ap, ◌∙◌}
use Rattle.std.specs.Prelude.{Ok}
use Rattle.memory.specs.Layout.{view}
use Rattle.memory.proofs.Laws.{not_refused}
use Rattle.text.specs.Text.{field}
use Rattle.text.proofs.Digits.{long_digits}
use Rattle.text.proofs.Adding.{added_all}
use Rattle.table.specs.Text.{no_route, origin_fields}
use Rattle.table.proofs.Rows.{fields_none, fields_origin, fields_relay}
use Rattle.table.proofs.push_fields.Goals as goal

pub returns-in_default-clause-items : goal.returns-in_default-clause-items
returns-in_default-clause-items c =
    absurd (not_refused (view c.args.net.now) c.args.node _ c.row.ensures c.requires.node_bound c.in_default.is)

pub returns-in-NoRoute-clause-items : goal.returns-in-NoRoute-clause-items
unfolding no_route
returns-in-NoRoute-clause-items c =
    rw (fields_none (view c.args.net.now) c.args.node _ c.row.ensures (c.in-Ok.is ∙ ap Ok c.in-NoRoute.is))
    (c.push_text.ensures ∙ added_all 4096 _ _ (omega arith))

pub returns-in-Origin-clause-items : goal.returns-in-Origin-clause-items
unfolding origin_fields field
returns-in-Origin-clause-items c =
    rw (fields_origin (view c.args.net.now) c.args.node _ c.row.ensures (c.in-Ok.is ∙ ap Ok c.in-Origin.is))
    (c.push_number.ensures ∙ added_all 4096 _ _ (omega (arith, long_digits c.in-Origin.hops (omega arith))))

pub returns-in-Relay-clause-items : goal.returns-in-Relay-clause-items
returns-in-Relay-clause-items c =
    rw (fields_relay (view c.args.net.now) c.args.node _ c.row.ensures (c.in-Ok.is ∙ ap Ok c.in-Relay.is)) c.push_route.ensures.items
