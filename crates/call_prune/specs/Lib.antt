pub mod Links
pub mod Scratch
