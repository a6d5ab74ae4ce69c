-- Patterns by hook: what a turned pattern is, and what a call by hook promises.
pub mod Turned
pub mod Tile
pub mod Hooked
pub mod Theorems
pub mod Edges
