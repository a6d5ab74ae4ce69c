-- Laws of the rows and of what they mean, and that the tests of a check are well-formedness.
-- the rows, and stores to them
pub mod Counts
pub mod Field
pub mod Cells
pub mod Puts
pub mod Heads
pub mod Zeros
pub mod Zeroing
-- what the rows mean
pub mod Shown
pub mod Frame
pub mod Kept
pub mod Lengths
pub mod Summing
pub mod Adding
-- where links change
pub mod Linking
pub mod Joining
-- the check
pub mod Shaped
pub mod Standing
pub mod FreeCaps
pub mod Room
pub mod Free
pub mod Formed
pub mod Plain
pub mod Asked
-- answers that are right both ways
pub mod Deciding
pub mod Question
