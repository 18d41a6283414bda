-- Laws of what the program `rip` writes.
pub mod Texts
