-- What following predecessors back answers.
-- Assumes nothing.
use Rattle.std.specs.Borrow.{Bor}
use Rattle.std.specs.Prelude.{List, Option, Some, None, ℕ}
use Rattle.network.specs.Route.{Walked, broken, reached}

-- the walk that left this route; none where it does not reach the origin
abbrev pub walked : Option (Bor (List ℕ)) → Walked
walked None = broken
walked (Some route) = reached route.now
