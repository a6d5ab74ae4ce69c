-- What call 17 leaves, exactly.
pub mod Runs
