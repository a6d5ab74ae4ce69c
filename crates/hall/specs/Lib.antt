-- Where the program stands, and what its parts keep.
pub mod Runs
