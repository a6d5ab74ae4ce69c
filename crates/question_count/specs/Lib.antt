-- What the question promises, what its program counts, and examples.
pub mod Asks
pub mod Holding
pub mod Edges
