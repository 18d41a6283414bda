pub mod Calling
pub mod Demand
pub mod Inner
