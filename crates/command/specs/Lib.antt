pub mod Saying
pub mod Enough
