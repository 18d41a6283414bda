-- Number and place of an answer that may stop at a refusal.
-- Assumes nothing.
use Rattle.std.specs.Prelude.{Option, Some, None, ℕ}
use Rattle.network.specs.Answered.{fault_number}
use Rattle.records.specs.declared.Stop.{Stop}

-- of a refusal, or 0 and 0 where there is none
abbrev pub stop_number : Option Stop → ℕ
stop_number None = 0
stop_number (Some s) = fault_number s.fault

abbrev pub stop_place : Option Stop → ℕ
stop_place None = 0
stop_place (Some s) = s.place
