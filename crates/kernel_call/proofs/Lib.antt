-- The two ways that a call goes.
pub mod Calling
-- the same with any two scratches
pub mod Theorems
