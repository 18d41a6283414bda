-- Laws of records, images, opening and runs, and the acceptance theorem. The first line of each file says what it has.

-- numbers as bytes; a record and its bytes; a record read
pub mod NumberLaws
pub mod Parsing
pub mod Reading
pub mod Grading
-- an image as the records of its ranks, its length and its bytes
pub mod Each
pub mod Ranks
pub mod Sizes
pub mod ImageBytes
pub mod ImageWriting
-- the acceptance theorem, from the bottom up: a record placed changes one rank, the ranks decide a network, one record, all of them
pub mod PlacedRecords
pub mod SameImage
pub mod ImageSteps
pub mod Acceptance
-- what opening and runs answer
pub mod Refusals
pub mod Opened
pub mod Enough
pub mod Begun
pub mod Places
