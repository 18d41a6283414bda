pub mod Items
pub mod Lines
pub mod Measured
