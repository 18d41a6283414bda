-- A round in memory, in the order of its parts: the marks tested, hearing, new rows, the whole. The first line of each file says what it has.
mod Marks
mod Hearing
mod Renewing
mod Rounding
