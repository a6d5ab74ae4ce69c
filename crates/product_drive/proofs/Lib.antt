-- Examples; the take-up's laws; what the ranges say; the rows; the ways that a pick goes; what every list of picks adds up to.
pub mod Examples
pub mod TakeUp
pub mod Ranges
pub mod Rows
pub mod Outcomes
pub mod Picking
pub mod Adding
pub mod Refusing
pub mod Theorems
