-- The loom drive: the repeat and the take-up, a pick, and what every list of picks adds up to.
pub mod Drive
pub mod Edges
pub mod Picks
pub mod Theorems
