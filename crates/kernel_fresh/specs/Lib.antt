-- The fresh store: what stands in each of its three slices.
pub mod Stores
pub mod Slices
pub mod Fresh
