pub mod Settled
pub mod Calls
pub mod Demand
pub mod Bounds
pub mod RunCalls
pub mod Field
pub mod FalseRelays
