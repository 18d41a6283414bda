-- What the choice computes: the winner as two loops find it.
mod Least
