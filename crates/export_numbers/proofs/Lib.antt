-- The two ways that each function for C goes.
pub mod Making
