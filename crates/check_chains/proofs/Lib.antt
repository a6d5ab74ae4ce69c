-- Laws that the proofs of this crate's functions share, and those of the check of the trees.
pub mod Marking
pub mod Chains
pub mod Covers
pub mod Down
pub mod BlockChains
pub mod ObjectChains
