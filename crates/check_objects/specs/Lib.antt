-- What the check of objects says of its answers.
pub mod Names
pub mod Parts
