-- What the question promises, what its program tests of an entry, and examples.
pub mod Asks
pub mod Places
pub mod Edges
