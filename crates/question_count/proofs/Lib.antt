-- Laws that the proofs of this crate's functions share, and the examples.
pub mod Counting
pub mod Asking
pub mod Edges
