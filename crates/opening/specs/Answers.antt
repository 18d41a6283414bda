-- What opening answers, and the network after it.
-- Assumes nothing.
use Rattle.std.specs.Prelude.{◌≡◌, cond, List, Option, Some, None, Result, Ok, Err, ℕ, ◌+◌, ltb}
use Rattle.std.specs.Result.{result_unwrap_or, result_err}
use Rattle.network.specs.Network.{Net}
use Rattle.network.specs.Answered.{fault_number}
use Rattle.network.specs.declared.Fault.{Fault}
use Rattle.network.specs.declared.Fault.TheVariants.{Order}
use Rattle.memory.specs.Layout.{view}
use Rattle.records.specs.Opening.{Step, stop, finish, onward, placed, Opening, refused_opening, accepted_opening}
use Rattle.records.specs.Stopped.{stop_number, stop_place}
use Rattle.records.specs.declared.Event.{Event}
use Rattle.records.specs.declared.Stop.{Stop}

-- number, place and bytes used of the answer r, and the words, are what the opening o says
pub record Opens (o : Opening) (r : Result ℕ Stop) (words : List ℕ) : Type 0 where
  pub number_is : stop_number (result_err r) ≡ o.number
  pub place_is : stop_place (result_err r) ≡ o.place
  pub used_is : result_unwrap_or r 0 ≡ o.used
  pub net_is : view words ≡ o.net

-- ---- a record of an image

-- the ranks above a record of rank k, where the ranks from `next` on are above the one before it
abbrev pub ranks_above : ℕ → ℕ → Result ℕ Fault
ranks_above next k = cond (ltb k next) (Err Order) (Ok (k + 1))

-- the step of each answer, with the network x after it
abbrev pub step_means : Result (Option ℕ) Fault → Net → Step
step_means (Err f) x = stop (fault_number f)
step_means (Ok None) x = finish
step_means (Ok (Some k)) x = onward x k

-- a record with the event e led from the network x to the answer r and the network z; the end of an image leaves the network
pub record Places (x : Net) (next : ℕ) (e : Event) (r : Result (Option ℕ) Fault) (z : Net) : Type 0 where
  pub step : step_means r z ≡ placed x next e
  pub ended : r ≡ Ok None → z ≡ x

-- ---- the records after the first, and the whole

-- the opening of each answer, with the network x after it
abbrev pub read_means : Result ℕ Stop → Net → Opening
read_means (Err s) x = refused_opening (fault_number s.fault) s.place
read_means (Ok used) x = accepted_opening x used
