pub mod Numbers
pub mod Records
pub mod Stopped
pub mod Image
pub mod Opening
pub mod Refusals
pub mod Acceptance
pub mod Running
