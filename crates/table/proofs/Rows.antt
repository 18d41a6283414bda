-- The fields of a row by what `memory` answers.
-- Assumes nothing.
use mathlib.Core.Path.{◌≡◌}
use mathlib.Core.List.{◌++◌}
use Prim.Native.Nat.{ℕ}
use Rattle.network.specs.Network.{Net}
use Rattle.memory.specs.Answers.{read_row, row_means}
use Rattle.std.specs.Prelude.{Result, Ok}
use Rattle.network.specs.declared.Fault.{Fault}
use Rattle.network.specs.declared.Route.{Route}
use Rattle.memory.specs.declared.RowRead.{RowRead}
use Rattle.memory.specs.declared.RowRead.TheVariants as R
use Rattle.memory.proofs.Laws.{said_none, said_origin, said_relay}
use Rattle.text.specs.Text.{field}
use Rattle.table.specs.Text.{no_route, origin_fields, fields}

module _ (x : Net) (y : ℕ) (r : Result RowRead Fault) (said : row_means r ≡ read_row x y) where
  -- no route
  pub fields_none : r ≡ Ok R.NoRoute → fields (x.row y) ≡ no_route
  unfolding fields
  fields_none e = rw (said_none x y r said e).1

  -- the origin's row, and one with a route: hops are those of the list
  pub fields_origin : {l s : ℕ} → r ≡ Ok (R.Origin l s) → fields (x.row y) ≡ origin_fields ++ field s
  unfolding fields
  fields_origin e = let a = said_origin x y r said e in rw (a.1, a.2)

  pub fields_relay : {w : Route} {s : ℕ} → r ≡ Ok (R.Relay w s) → fields (x.row y) ≡ field w.label ++ (field w.predecessor ++ field s)
  unfolding fields
  fields_relay e = let a = said_relay x y r said e in rw (a.1, a.2)
