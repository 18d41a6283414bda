pub mod Calling
pub mod Answering
