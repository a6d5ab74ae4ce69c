-- What the checks of chains promise.
pub mod Marking
pub mod Parts
