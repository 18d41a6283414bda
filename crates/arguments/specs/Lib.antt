pub mod Arguments
pub mod Exact
pub mod Inner
