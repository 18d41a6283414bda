pub mod Marks
pub mod Events
pub mod Loop
pub mod Whole
pub mod Finished
