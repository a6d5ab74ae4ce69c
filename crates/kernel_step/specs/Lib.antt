-- The kernel's step: what it asks, what it leaves exactly, and what it promises.
pub mod Slices
pub mod Own
pub mod Run
pub mod Asks
pub mod Ends
-- the public promise
pub mod Steps
pub mod Theorems
