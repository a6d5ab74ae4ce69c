-- The proofs of call 17.
pub mod Stops
pub mod Meets
