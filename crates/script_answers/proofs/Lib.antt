-- numbers gathered, and an answer's
pub mod Gathering
pub mod Results
-- the last line
pub mod Totals
-- what a script writes
pub mod Outputs
