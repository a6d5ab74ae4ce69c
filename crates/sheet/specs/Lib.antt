-- What the program keeps between two turns, and what its output buffer keeps.
pub mod Kept
pub mod Runs
