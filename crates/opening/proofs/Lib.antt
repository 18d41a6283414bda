-- Opening in memory: the loop over the records.
mod Loop
