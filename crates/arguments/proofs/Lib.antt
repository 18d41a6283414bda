-- Laws of arguments. The first line of each file says what it has.
pub mod Counting
pub mod Dots
pub mod Exact
