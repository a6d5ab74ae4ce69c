-- The store in three slices: where the fields stand, what they mean, and when they are well formed.
pub mod Layout
pub mod Rows
pub mod View
pub mod Shape
pub mod WellFormed
pub mod Fields
pub mod Decides
pub mod Sizes
pub mod Sums
pub mod Question
