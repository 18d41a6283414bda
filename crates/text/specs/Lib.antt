pub mod Text
pub mod Adds
pub mod Puts
