-- Laws of Response messages. The first line of each file says what it has.

-- lists made of pieces of one size; messages by their sizes
pub mod Pieces
pub mod Sizes
-- an entry and a header, then messages, as bytes and back
pub mod Fields
pub mod Buffers
-- what the calls answer, and the theorems
pub mod Answering
pub mod RoundTrip
-- what a caller knows
pub mod Callers
