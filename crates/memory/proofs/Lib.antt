-- What words in memory give, and what stores do to it. Crates above may cite `Laws` and `ArcLaws`; `Store` has the address arithmetic and is for `memory`
-- and `routing` alone. The first line of each file says what it has.
pub mod Laws
pub mod Store
mod Starting
mod Changing
pub mod ArcLaws
mod Placing
