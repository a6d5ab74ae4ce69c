-- Laws that the proofs of this crate's functions share.
pub mod Slots
pub mod Cells
pub mod Chains
pub mod Rows
pub mod Meaning
pub mod Formed
pub mod Answers
