-- The settling theorem, from the bottom up. The first line of each file says what it has.

-- the graph alone
pub mod Unique
pub mod Routes
pub mod SettledBy
pub mod Existing
-- over a run of rounds with lost reports
pub mod Relays
pub mod Run
pub mod Inherited
pub mod Genuine
pub mod Sound
pub mod Standing
pub mod Bounds
pub mod Converging
-- over lists of calls, and over a run's bytes
pub mod Rounds
pub mod CallLaws
pub mod Stretches
pub mod Theorem
pub mod RunCalls
-- concrete networks, computed
pub mod Computed
pub mod Tight
pub mod Exact
pub mod Example
pub mod FalseRelays
pub mod Field
pub mod FieldRun
