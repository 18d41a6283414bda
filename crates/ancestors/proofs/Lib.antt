-- Case splits, counting, and laws of ancestor lists. The first line of each file says what it has.
pub mod Cases
pub mod Counting
pub mod Laws
pub mod Sets
pub mod Walk
pub mod Words
