-- a chain, followed
pub mod Hops
-- the code comes to the run
pub mod Walking
pub mod Cutting
-- the chain cut, and the shape of the blocks
pub mod Splitting
pub mod Taken
pub mod Shaping
-- zeros in the blocks taken
pub mod Cleared
