-- What the leaf functions compute: the bits of what is in range, and a list by one comparison.
pub mod Range
mod Lists
