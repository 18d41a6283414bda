pub mod Digits
pub mod Stopping
pub mod Adding
pub mod Putting
