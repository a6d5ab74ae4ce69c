-- Laws that the proofs of this crate's functions share.
pub mod ByNumber
pub mod Thirteen
pub mod Numbers
