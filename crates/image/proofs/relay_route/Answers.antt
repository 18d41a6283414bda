-- `image::relay_route` meets its contract, case by case.
-- Assumes nothing.
use mathlib.Core.Path.{sym}
use Rattle.memory.specs.Layout.{view}
use Rattle.image.specs.Items.{route_bytes}
use Rattle.image.proofs.Reading.{row_refused, row_read}
use Rattle.image.proofs.relay_route.Goals as goal

pub returns-in-Ok-Relay : goal.returns-in-Ok-Relay
returns-in-Ok-Relay c = let a = c.args in sym (rw c.in-Ok-Relay.field-0-is at (row_read (view a.net.now) a.node _ c.in-Ok-Relay.ensures))

pub returns-in-Ok-NoRoute : goal.returns-in-Ok-NoRoute
returns-in-Ok-NoRoute c = let a = c.args in sym (rw c.in-Ok-NoRoute.field-0-is at (row_read (view a.net.now) a.node _ c.in-Ok-NoRoute.ensures))

pub returns-in-Ok-Origin : goal.returns-in-Ok-Origin
returns-in-Ok-Origin c = let a = c.args in sym (rw c.in-Ok-Origin.field-0-is at (row_read (view a.net.now) a.node _ c.in-Ok-Origin.ensures))

pub returns-in-Err : goal.returns-in-Err
unfolding route_bytes
returns-in-Err c = let a = c.args in sym (row_refused (view a.net.now) a.node _ c.in-Err.ensures)
