pub mod Reading
pub mod Sums
pub mod Lengths
pub mod Receivers
pub mod Parting
pub mod Answering
mod Stores
