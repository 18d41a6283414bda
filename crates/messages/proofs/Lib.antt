-- Laws of the calls on messages. The first line of each file says what it has.
pub mod Writing
pub mod Reading
